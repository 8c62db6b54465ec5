-- Text in a room: bytes put one by one stand there as bytes put at once, and of both what has no room is left out.
use Rattle.std.proofs.Common.{◌≡◌, refl, ap, ◌∙◌, append_assoc, add-one, [], ◌∷◌, ◌++◌, take, length, get_or, ℕ, suc, zero, ◌+◌, ◌<◌, List}
use Rattle.std.proofs.Math.Seq.{take-suc}

-- what is left out of the first bytes is left out of all
pub room_again : (n : ℕ) (xs ys : List ℕ) → take n (take n xs ++ ys) ≡ take n (xs ++ ys)
room_again zero xs ys = refl
room_again (suc n) [] ys = refl
room_again (suc n) (x ∷ xs) ys = ap (λ (zs : List ℕ). x ∷ zs) (room_again n xs ys)

-- one byte more of the bytes
pub byte_more : (n i : ℕ) (before bytes : List ℕ) → i < length bytes
    → take n (take n (before ++ take i bytes) ++ get_or bytes i 0 ∷ []) ≡ take n (before ++ take (i + 1) bytes)
byte_more n i before bytes few =
    let next : List ℕ = get_or bytes i 0 ∷ [] in
    rw (add-one i, take-suc bytes i 0 few) (room_again n (before ++ take i bytes) next ∙ ap (λ (zs : List ℕ). take n zs) (append_assoc before (take i bytes) next))
