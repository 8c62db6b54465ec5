-- As many bits of a channel's two words are set as keys of the channel are held.
use Rattle.std.proofs.Common.{◌≡◌, ℕ, zero, suc, ◌+◌, ◌/◌, ◌%◌, ◌^◌, ◌<◌, Bool, true, false, List}
use Rattle.std.proofs.Common.{[], eqb, get_or, count_ones, refl, ap, ap₂, sym, ◌∙◌, arith, add_comm}
use native.Mathlib.Numerals.{unary_clauses}
use native.Mathlib.Nat.{mod-lt, mod-eq_of_lt}
use lib.Count.{ones-ones}
use Rattle.std.proofs.lemmas.Nat.{pow_pos, mod-pow-add, ones_cat, ones-le}
use Rattle.std.proofs.lemmas.Nat.Bits.{bit_at-lt}
use Rattle.std.specs.Int.{bit_at}
use borrow.Author.Tests.{eqb-true, eqb-false}
use Rattle.laws.specs.Choice.{pick}
use Rattle.laws.proofs.Tests.{split}
use Rattle.held_keys.specs.HeldKeys.{bit, is_held, count_below}

-- a number below 2 is its only bit
one_bit : (x : ℕ) → x < 2 → count_ones x ≡ pick (eqb x 1) 1 0
one_bit x h =
    split (eqb x 1) (λ (t : eqb x 1 ≡ true). rw (eqb-true x 1 t) (ones-ones 1))
    (λ (f : eqb x 1 ≡ false).
    let none : x ≡ 0 = omega (arith, eqb-false x 1 f) in
    rw (f, none) (omega (arith, ones-le 0 0 (omega arith))))

-- the bits that are set among the lowest k, counted from the last to the first
low_ones : (n k : ℕ) → count_ones (n % 2 ^ k) ≡ count_below (bit n) k
unfolding count_below
low_ones n zero =
    let none : n % 1 ≡ 0 = omega arith in
    rw none (omega (arith, ones-le 0 0 (omega arith)))
low_ones n (suc k) =
    let place : 1 + k ≡ suc k = omega arith in
    let small : n % 2 ^ k < 2 ^ k = mod-lt n (pow_pos k) in
    ap (λ (i : ℕ). count_ones (n % 2 ^ i)) (sym place) ∙ ap count_ones (mod-pow-add n 1 k)
    ∙ ones_cat k (bit_at n k) (n % 2 ^ k) small
    ∙ ap₂ (λ (x y : ℕ). x + y) (one_bit (bit_at n k) (bit_at-lt n k)) (low_ones n k)
    ∙ add_comm (pick (bit n k) 1 0) (count_below (bit n) k)

-- as many bits are set as are counted one by one
ones_counted : (n k : ℕ) → n < 2 ^ k → count_ones n ≡ count_below (bit n) k
ones_counted n k h = sym (ap count_ones (mod-eq_of_lt h)) ∙ low_ones n k

-- two counts of keys that are held alike
count_alike : (held other : ℕ → Bool) (n : ℕ) → ((j : ℕ) → j < n → held j ≡ other j) → count_below held n ≡ count_below other n
unfolding count_below
count_alike held other zero p = refl
count_alike held other (suc n) p = ap₂ (λ (x : ℕ) (t : Bool). x + pick t 1 0) (count_alike held other n (λ j h. p j (omega arith))) (p n (omega arith))

-- a count of the keys below m + n begins with those below m
count_parts : (held : ℕ → Bool) (m n : ℕ) → count_below held (m + n) ≡ count_below held m + count_below (λ j. held (m + j)) n
unfolding count_below
count_parts held m zero = simp unary_clauses refl
count_parts held m (suc n) = simp unary_clauses (omega (arith, count_parts held m n))

-- the channel's two words
pub channel_counted : (keys : List (List ℕ)) (c : ℕ) → get_or (get_or keys c []) 0 0 < 2 ^ 64 → get_or (get_or keys c []) 1 0 < 2 ^ 64
    → count_ones (get_or (get_or keys c []) 0 0) + count_ones (get_or (get_or keys c []) 1 0) ≡ count_below (is_held keys c) 128
unfolding is_held
channel_counted keys c p q =
    let words : List ℕ = get_or keys c [] in
    let at : ℕ → ℕ → Bool = λ w k. bit (get_or words w 0) k in
    ap₂ (λ (x y : ℕ). x + y) (ones_counted (get_or words 0 0) 64 p) (ones_counted (get_or words 1 0) 64 q)
    ∙ sym (count_parts (is_held keys c) 64 64
    ∙ ap₂ (λ (x y : ℕ). x + y)
    (count_alike (is_held keys c) (at 0) 64
    (λ j h.
    let word : j / 64 ≡ 0 = omega arith in
    let key : j % 64 ≡ j = omega arith in
    ap₂ at word key))
    (count_alike (λ j. is_held keys c (64 + j)) (at 1) 64
    (λ j h.
    let word : (64 + j) / 64 ≡ 1 = omega arith in
    let key : (64 + j) % 64 ≡ j = omega arith in
    ap₂ at word key)))
