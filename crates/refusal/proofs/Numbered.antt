-- A refusal's number stands in document 01's table, from 1 to 22, if each rule's number does: so a caller may take 0 for "not refused".
use mathlib.Core.Path.{◌≡◌, refl}
use mathlib.Core.Bool.{Bool, true, false, ◌&&◌}
use mathlib.Core.List.{List}
use Prim.Native.Nat.{ℕ}
use native.Mathlib.Omega.{arith}
use lib.Dec.{leb}
use borrow.Author.Tests.{leb-true}
use Rattle.laws.proofs.Tests.{both}
use Rattle.refusal.specs.Outcome.{Outcome, gives, refused, unless, and_then}

-- is a number the table's?
abbrev pub in_table : ℕ → Bool
in_table n = leb 1 n && leb n 22

-- does an outcome give a value, or a refusal whose number is the table's?
abbrev pub numbered : {A : Type 0} → Outcome A → Bool
numbered (gives a) = true
numbered (refused n values) = in_table n

pub unless_numbered : {A : Type 0} (t : Bool) (n : ℕ) (vs : List ℕ) (o : Outcome A) → in_table n ≡ true → numbered o ≡ true
    → numbered (unless t n vs o) ≡ true
unless_numbered true n vs o h rest = rest
unless_numbered false n vs o h rest = h

pub then_numbered : {A B : Type 0} (o : Outcome A) (next : A → Outcome B) → numbered o ≡ true → ((a : A) → numbered (next a) ≡ true)
    → numbered (and_then o next) ≡ true
then_numbered (gives a) next h rest = rest a
then_numbered (refused n vs) next h rest = h

-- what a caller is told first: 0 where a value is given, else the refusal's number
abbrev pub number_told : {A : Type 0} → Outcome A → ℕ
number_told (gives a) = 0
number_told (refused n values) = n

-- 0 is no refusal's number
pub given_where_0 : {A : Type 0} (o : Outcome A) → numbered o ≡ true → number_told o ≡ 0 → (a : A) × (o ≡ gives a)
given_where_0 (gives a) h e = (a, refl)
given_where_0 (refused n vs) h e = absurd (omega (arith, leb-true 1 n (both (leb 1 n) (leb n 22) h).0, e))
