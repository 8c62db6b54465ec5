-- An entry point answers what the call below it answered, in plain numbers.
use Rattle.std.specs.Prelude.{Result}
use mathlib.Core.Path.{◌≡◌, refl, ap, sym, ◌∙◌}
use mathlib.Core.Bool.{Bool, true, false}
use mathlib.Core.List.{List}
use Prim.Native.Nat.{ℕ}
use Rattle.laws.proofs.Tests.{true_is_not_false}
use Rattle.refusal.specs.declared.Refusal.{Refusal}
use Rattle.refusal.specs.Outcome.{Outcome, gives, refusal, and_then, answered, Writes}
use Rattle.host_answer.specs.declared.Answer.{Answer}
use Rattle.host_answer.specs.Answer.{answer_of, no_record, Sends, SendsIf}

module _ {A : Type 0} (o : Outcome A) (inside : A → ℕ) where
  -- the number inside what was made
  pub number_of_given : (x : A) (n : ℕ) (r : Answer) → gives x ≡ o → n ≡ inside x → r ≡ answer_of (gives n)
      → r ≡ answer_of (and_then o (λ y. gives (inside y)))
  number_of_given x n r e i a =
      a ∙ ap (λ (m : ℕ). answer_of (gives m)) i ∙ ap (λ (p : Outcome A). answer_of (and_then p (λ y. gives (inside y)))) e

  pub refusal_told : (e : Refusal) (r : Answer) → refusal e ≡ o → r ≡ answer_of (refusal e) → r ≡ answer_of (and_then o (λ y. gives (inside y)))
  refusal_told e r h a = a ∙ ap (λ (p : Outcome A). answer_of (and_then p (λ y. gives (inside y)))) h

-- a writer's entry point
pub writer_told : (o : Outcome (List ℕ)) (c : Result ℕ Refusal) (r : Answer) (before afterwards : List ℕ) → Writes o c before afterwards
    → r ≡ answer_of (answered c) → Sends o r before afterwards
writer_told o c r before afterwards w a = record { answers = a ∙ ap answer_of w.answers; leaves = w.leaves }

-- a writer's entry point whose flags name a record answers as the writer; one whose flags name none answers that
pub named_told : (t : Bool) (o : Outcome (List ℕ)) (r : Answer) (before afterwards : List ℕ) → t ≡ true → Sends o r before afterwards
    → SendsIf t o r before afterwards
named_told true o r before afterwards h s = s
named_told false o r before afterwards h s = absurd (true_is_not_false (sym h))

pub unnamed_told : (t : Bool) (o : Outcome (List ℕ)) (r : Answer) (before : List ℕ) → t ≡ false → r ≡ no_record → SendsIf t o r before before
unnamed_told true o r before h s = absurd (true_is_not_false h)
unnamed_told false o r before h s = record { answers = s; leaves = refl }
