-- A value that `from_byte` made is in range and holds the byte that it was made from, because the call tests that byte first and then only
-- wraps it.
use mathlib.Core.Path.{◌≡◌, refl, ap, ◌∙◌, sym}
use mathlib.Core.Bool.{Bool, true}
use mathlib.Core.List.{[], ◌∷◌}
use Prim.Native.Nat.{ℕ, ◌<◌}
use lib.Dec.{ltb}
use borrow.Author.Tests.{ltb-true}
use Rattle.refusal.specs.Outcome.{gives, unless}
use Rattle.refusal.proofs.Given.{passed, passed_on}
use Rattle.ids.specs.declared.bank.Bank.{Bank}
use Rattle.ids.specs.declared.program.ProgramNumber.{ProgramNumber}
use Rattle.ids.specs.declared.pattern.PatternNumber.{PatternNumber}
use Rattle.ids.specs.Numbers.{bank_of, program_of, pattern_of}

-- said once: a byte that passed a test and was wrapped
module _ {A : Type 0} (wrap : ℕ → A) (inside : A → ℕ) (unwrap : (k : ℕ) → inside (wrap k) ≡ k) (test : ℕ → Bool) (number : ℕ) where
  pub wrapped : (n : ℕ) (x : A) → unless (test n) number (n ∷ []) (gives (wrap n)) ≡ gives x → (inside x ≡ n) × (test n ≡ true)
  wrapped n x e =
      let given : gives (wrap n) ≡ gives x = passed_on (test n) number (n ∷ []) (gives (wrap n)) x e in
      let same : wrap n ≡ x = cc in
      (ap inside (sym same) ∙ unwrap n, passed (test n) number (n ∷ []) (gives (wrap n)) x e)

pub bank_in_range : (n : ℕ) (x : Bank) → bank_of n ≡ gives x → (x.0 ≡ n) × (n < 8)
bank_in_range n x e =
    let w = wrapped (λ k. record { 0 = k }) (λ (y : Bank). y.0) (λ k. refl) (λ k. ltb k 8) 9 n x e in
    (w.0, ltb-true n 8 w.1)

pub program_in_range : (n : ℕ) (x : ProgramNumber) → program_of n ≡ gives x → (x.0 ≡ n) × (n < 128)
program_in_range n x e =
    let w = wrapped (λ k. record { 0 = k }) (λ (y : ProgramNumber). y.0) (λ k. refl) (λ k. ltb k 128) 10 n x e in
    (w.0, ltb-true n 128 w.1)

pub pattern_in_range : (n : ℕ) (x : PatternNumber) → pattern_of n ≡ gives x → (x.0 ≡ n) × (n < 32)
pattern_in_range n x e =
    let w = wrapped (λ k. record { 0 = k }) (λ (y : PatternNumber). y.0) (λ k. refl) (λ k. ltb k 32) 11 n x e in
    (w.0, ltb-true n 32 w.1)
