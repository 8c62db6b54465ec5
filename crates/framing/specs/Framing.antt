-- The first two rules of every frame, each a definition of its own, and the bytes of maker and model.
use Rattle.std.specs.Prelude.{Bool, true, false, ◌&&◌, List, [], ◌∷◌, ℕ, ◌-◌, ltb, leb, eqb, length, get_or, take, drop, None, Option, Some}
use Rattle.laws.specs.Choice.{pick}
use Rattle.refusal.specs.Outcome.{Outcome, refused, unless}

-- broken by "under two bytes, or F0, F7 not at the ends"
abbrev pub framed : List ℕ → Bool
framed bytes = leb 2 (length bytes) && eqb (get_or bytes 0 0) 0xF0 && eqb (get_or bytes (length bytes - 1) 0) 0xF7

-- 1, with no values
abbrev pub when_framed : {A : Type 0} → List ℕ → Outcome A → Outcome A
when_framed bytes next = unless (framed bytes) 1 [] next

-- what stands between the ends
abbrev pub body : List ℕ → List ℕ
body bytes = take (length bytes - 2) (drop 1 bytes)

-- "a body byte 80 or above (2, the first such)"
abbrev pub first_high : List ℕ → Option ℕ
first_high [] = None
first_high (b ∷ bs) = pick (ltb b 0x80) (first_high bs) (Some b)

-- a byte that was found is refused
abbrev pub unless_high : {A : Type 0} → Option ℕ → Outcome A → Outcome A
unless_high None next = next
unless_high (Some b) next = refused 2 (b ∷ [])

-- 2, with the byte
abbrev pub when_seven_bit : {A : Type 0} → List ℕ → Outcome A → Outcome A
when_seven_bit bytes next = unless_high (first_high bytes) next

-- the maker's three bytes and the model: "00 20 32 20", in every frame and in every identity reply
abbrev pub maker : List ℕ
maker = 0x00 ∷ 0x20 ∷ 0x32 ∷ 0x20 ∷ []

-- two lists compared byte by byte
abbrev pub same_bytes : List ℕ → List ℕ → Bool
same_bytes [] [] = true
same_bytes [] (y ∷ ys) = false
same_bytes (x ∷ xs) [] = false
same_bytes (x ∷ xs) (y ∷ ys) = eqb x y && same_bytes xs ys
