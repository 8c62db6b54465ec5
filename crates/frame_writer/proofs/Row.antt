-- A frame is put together from the front: the header, then the prefix into what is left of the buffer, then the run, then F7.
use mathlib.Core.Path.{◌≡◌, ap, ap₂, sym, ◌∙◌}
use mathlib.Core.List.{List, [], ◌∷◌, ◌++◌, append_assoc, append-nil}
use Prim.Native.Nat.{ℕ, suc, ◌+◌, ◌-◌, ◌≤◌}
use native.Mathlib.Omega.{arith}
use lib.ListN.{length, get_or, take, drop, set, length-append, length-drop, drop_of_length-le}
use borrow.Rule.Slice.PartMut.{put_mid}
use lib.Seq.{drop-cons, drop-drop, set_at, take_at, take_all, append_snoc, drop_at}

sum : (a b d : ℕ) → a + (b + d) ≡ a + b + d
sum a b d = omega arith

-- a part from place a to the end, lent and given back
lent_rest : (l new : List ℕ) (a : ℕ) → a ≤ length l → put_mid a (length l - a) l new ≡ take a l ++ new
lent_rest l new a h =
    rw (drop_of_length-le (drop a l) {i = length l - a} (simp length-drop (omega arith)), append-nil new)

-- bytes put behind a front, into the part that is lent from its end on
pub put_behind : (front rest xs : List ℕ) (a : ℕ) → length front ≡ a
    → put_mid a (length (front ++ rest) - a) (front ++ rest) (xs ++ drop (length xs) (take (length (front ++ rest) - a) (drop a (front ++ rest))))
    ≡ (front ++ xs) ++ drop (length xs) rest
put_behind front rest xs a e =
    let len : length (front ++ rest) ≡ length front + length rest = length-append front rest in
    lent_rest (front ++ rest) (xs ++ drop (length xs) (take (length (front ++ rest) - a) (drop a (front ++ rest)))) a (omega (arith, len))
    ∙ rw (take_at front rest a e, drop_at front rest a e, take_all (length (front ++ rest) - a) rest (omega (arith, len))) (sym (append_assoc front xs (drop (length xs) rest)))

module _ (h prefix run out s n m : List ℕ) (seven : length h ≡ 7) (room : 8 + (length prefix + length run) ≤ length out)
    (s-is : s ≡ h ++ drop 7 out) (n-is : n ≡ prefix ++ drop (length prefix) (take (length s - 7) (drop 7 s))) where
  -- the prefix is put right behind the header
  pub prefix_put : put_mid 7 (length s - 7) s n ≡ (h ++ prefix) ++ drop (length prefix) (drop 7 out)
  prefix_put =
      ap₂ (λ (x z : List ℕ). put_mid 7 (length x - 7) x z) s-is (n-is ∙ ap (λ (x : List ℕ). prefix ++ drop (length prefix) (take (length x - 7) (drop 7 x))) s-is)
      ∙ put_behind h (drop 7 out) prefix 7 seven

  -- the run is put right behind the prefix
  module _ (t : List ℕ) (t-is : t ≡ put_mid 7 (length s - 7) s n)
      (m-is : m ≡ run ++ drop (length run) (take (length t - (7 + length prefix)) (drop (7 + length prefix) t))) where
    front_length : length (h ++ prefix) ≡ 7 + length prefix
    front_length = length-append h prefix ∙ ap (λ (k : ℕ). k + length prefix) seven

    pub run_put : put_mid (7 + length prefix) (length t - (7 + length prefix)) t m ≡ ((h ++ prefix) ++ run) ++ drop (length run) (drop (length prefix) (drop 7 out))
    run_put =
        let is : t ≡ (h ++ prefix) ++ drop (length prefix) (drop 7 out) = t-is ∙ prefix_put in
        let a : ℕ = 7 + length prefix in
        ap₂ (λ (x z : List ℕ). put_mid a (length x - a) x z) is (m-is ∙ ap (λ (x : List ℕ). run ++ drop (length run) (take (length x - a) (drop a x))) is)
        ∙ put_behind (h ++ prefix) (drop (length prefix) (drop 7 out)) run a front_length

    -- F7 right behind the run completes the frame, and the bytes behind it stay
    pub frame_put : set (put_mid (7 + length prefix) (length t - (7 + length prefix)) t m) (7 + length prefix + length run) 0xF7
        ≡ (h ++ (prefix ++ (run ++ (0xF7 ∷ [])))) ++ drop (8 + (length prefix + length run)) out
    frame_put =
        let at : ℕ = 7 + length prefix + length run in
        let front : List ℕ = (h ++ prefix) ++ run in
        let place : length front ≡ at = length-append (h ++ prefix) run ∙ ap (λ (k : ℕ). k + length run) front_length in
        let rest : drop (length run) (drop (length prefix) (drop 7 out)) ≡ drop at out = drop-drop (length run) (length prefix) (drop 7 out) ∙
        drop-drop (length prefix + length run) 7 out ∙ ap (λ (k : ℕ). drop k out) (sum 7 (length prefix) (length run)) in
        let cell : drop at out ≡ get_or out at 0 ∷ drop (suc at) out = drop-cons out at 0 (omega arith) in
        let last : suc at ≡ 8 + (length prefix + length run) = omega arith in
        let all : front ++ (0xF7 ∷ []) ≡ h ++ (prefix ++ (run ++ (0xF7 ∷ []))) = simp append_assoc in
        ap (λ (x : List ℕ). set x at 0xF7) (run_put ∙ ap (λ (x : List ℕ). front ++ x) (rest ∙ cell))
        ∙ set_at front (get_or out at 0) (drop (suc at) out) 0xF7 at place
        ∙ sym (append_snoc front 0xF7 (drop (suc at) out))
        ∙ ap₂ (λ (x : List ℕ) (k : ℕ). x ++ drop k out) all last
