-- What is known of a run of data bytes, each by the list's first byte: a data byte makes the run one longer, any other ends it.
use mathlib.Core.Path.{◌≡◌, refl, ap, subst, sym, ◌∙◌}
use mathlib.Core.Bool.{false}
use mathlib.Core.List.{List, [], ◌∷◌, ◌++◌}
use Prim.Native.Nat.{ℕ, zero, suc, ◌+◌, ◌≤◌, ◌<◌, min}
use native.Mathlib.Nat.{zero-add, zero-min, min-zero, suc-min-suc, suc-add}
use native.Mathlib.Omega.{arith}
use lib.Dec.{ltb}
use lib.ListN.{length, get_or, take, drop}
use borrow.Author.Tests.{lt-ltb, le-ltb, ltb-true, ltb-false}
use Rattle.laws.proofs.Tests.{split}
use Rattle.octets.specs.quick.Data.{data_run}

pub run_none : data_run [] ≡ 0
unfolding data_run
run_none = refl

pub run_data : (b : ℕ) (l : List ℕ) → b < 0x80 → data_run (b ∷ l) ≡ suc (data_run l)
unfolding data_run
run_data b l h = rw (lt-ltb b 0x80 h)

pub run_other : (b : ℕ) (l : List ℕ) → 0x80 ≤ b → data_run (b ∷ l) ≡ 0
unfolding data_run
run_other b l h = rw (le-ltb b 0x80 h)

-- a byte ahead of a list is a data byte, and lengthens the run by one, or it is not, and there is no run
pub by_byte : {P : Type 0} (b : ℕ) (l : List ℕ) → (b < 0x80 → data_run (b ∷ l) ≡ suc (data_run l) → P) → (0x80 ≤ b → data_run (b ∷ l) ≡ 0 → P) → P
by_byte b l f g =
    split (ltb b 0x80) (λ t. f (ltb-true b 0x80 t) (run_data b l (ltb-true b 0x80 t)))
    (λ t. g (ltb-false b 0x80 t) (run_other b l (ltb-false b 0x80 t)))

pub run_no_longer : (l : List ℕ) → data_run l ≤ length l
run_no_longer [] = omega (arith, run_none)
run_no_longer (b ∷ l) = by_byte b l (λ _ e. omega (arith, e, run_no_longer l)) (λ _ e. omega (arith, e))

-- every byte within the run is a data byte
pub run_below : (l : List ℕ) (i : ℕ) → i < data_run l → get_or l i 0 < 0x80
run_below [] i h = absurd (omega (arith, run_none, h))
run_below (b ∷ l) zero h = by_byte b l (λ low _. low) (λ _ e. absurd (omega (arith, e, h)))
run_below (b ∷ l) (suc i) h = by_byte b l (λ _ e. run_below l i (omega (arith, e, h))) (λ _ e. absurd (omega (arith, e, h)))

-- the byte right behind the run, where there is one, is no data byte
pub run_stop : (l : List ℕ) → data_run l < length l → 0x80 ≤ get_or l (data_run l) 0
run_stop [] h = absurd (omega (arith, run_none, h))
run_stop (b ∷ l) h = by_byte b l (λ _ e. rw e (run_stop l (omega (arith, e, h)))) (λ high e. rw e high)

-- a data byte right behind what was seen of the run belongs to it
pub run_more : (l : List ℕ) (i : ℕ) → i ≤ data_run l → i < length l → get_or l i 0 < 0x80 → i + 1 ≤ data_run l
run_more l i h within low = split (ltb i (data_run l)) (λ t. omega (arith, ltb-true i (data_run l) t)) last
  where
    last : ltb i (data_run l) ≡ false → i + 1 ≤ data_run l
    last t =
        let e : data_run l ≡ i = omega (arith, h, ltb-false i (data_run l) t) in
        let stop : 0x80 ≤ get_or l i 0 = subst (λ (k : ℕ). 0x80 ≤ get_or l k 0) e (run_stop l (omega (arith, e, within))) in
        absurd (omega (arith, stop, low))

-- a byte that is no data byte, right behind what was seen of the run, ends it
pub run_ends : (l : List ℕ) (i : ℕ) → i ≤ data_run l → 0x80 ≤ get_or l i 0 → i ≡ data_run l
run_ends l i h high = split (ltb i (data_run l)) (λ t. absurd (omega (arith, run_below l i (ltb-true i (data_run l) t), high))) (λ t. omega (arith, h, ltb-false i (data_run l) t))

-- the run goes on behind a part of it
pub run_drop : (l : List ℕ) (n : ℕ) → n ≤ data_run l → data_run l ≡ n + data_run (drop n l)
run_drop l zero h = sym (zero-add (data_run l))
run_drop [] (suc n) h = absurd (omega (arith, run_none, h))
run_drop (b ∷ l) (suc n) h =
    by_byte b l (λ _ e. omega (arith, e, run_drop l n (omega (arith, e, h)))) (λ _ e. absurd (omega (arith, e, h)))

-- the run of the first n bytes is the whole list's, cut at n
pub run_take : (l : List ℕ) (n : ℕ) → data_run (take n l) ≡ min n (data_run l)
run_take l zero = run_none ∙ sym (zero-min (data_run l))
run_take [] (suc n) = run_none ∙ sym (min-zero (suc n)) ∙ ap (min (suc n)) (sym run_none)
run_take (b ∷ l) (suc n) =
    by_byte b l (λ low e. run_data b (take n l) low ∙ ap suc (run_take l n) ∙ sym (suc-min-suc n (data_run l)) ∙ ap (min (suc n)) (sym e))
    (λ high e. run_other b (take n l) high ∙ sym (min-zero (suc n)) ∙ ap (min (suc n)) (sym e))

-- every byte is a data byte
abbrev pub AllData : List ℕ → Type 0
AllData [] = Unit {0}
AllData (b ∷ l) = (b < 0x80) × AllData l

-- every byte of the run is a data byte
pub run_front : (l : List ℕ) → AllData (take (data_run l) l)
run_front [] = rw run_none (tt)
run_front (b ∷ l) = by_byte b l (λ low e. rw e ((low, run_front l))) (λ _ e. rw e (tt))

-- data bytes ahead of a list make its run as much longer
pub run_append : (l k : List ℕ) → AllData l → data_run (l ++ k) ≡ length l + data_run k
run_append [] k h = sym (zero-add (data_run k))
run_append (b ∷ l) k h = run_data b (l ++ k) h.0 ∙ ap suc (run_append l k h.1) ∙ sym (suc-add (length l) (data_run k))
