-- The range of each field is that of the number which it says: a field is tested just as the call that makes that number from the byte
-- tests it, and refused with the same number and value, because both make one comparison. The other kinds of field take any byte.
use mathlib.Core.Path.{◌≡◌, refl}
use mathlib.Core.Bool.{Bool, true, false, ◌||◌}
use mathlib.Core.List.{[], ◌∷◌}
use Prim.Native.Nat.{ℕ}
use lib.Dec.{ltb, eqb}
use Rattle.refusal.specs.Outcome.{Outcome, gives, unless, and_then}
use Rattle.ids.specs.Numbers.{bank_of, program_of, pattern_of}
use Rattle.ids.specs.Version.{version_of}
use Rattle.ids.specs.Interface.{interface_of, interface_at}
use Rattle.command.specs.Payload as y
use Rattle.message.specs.Prefix.{field_ok}

-- said once: to test, or to make what is tested and go on
test_or_make : {A B : Type 0} (t : Bool) (number : ℕ) (b : ℕ) (made : A) (next : Outcome B)
    → unless t number (b ∷ []) next ≡ and_then (unless t number (b ∷ []) (gives made)) (λ _. next)
test_or_make true number b made next = refl
test_or_make false number b made next = refl

pub version_range : {A : Type 0} (b : ℕ) (next : Outcome A) → field_ok y.version b next ≡ and_then (version_of b) (λ _. next)
version_range b next = test_or_make (eqb b 6 || eqb b 7) 8 b (record { 0 = b }) next

pub bank_range : {A : Type 0} (b : ℕ) (next : Outcome A) → field_ok y.bank b next ≡ and_then (bank_of b) (λ _. next)
bank_range b next = test_or_make (ltb b 8) 9 b (record { 0 = b }) next

pub program_range : {A : Type 0} (b : ℕ) (next : Outcome A) → field_ok y.program b next ≡ and_then (program_of b) (λ _. next)
program_range b next = test_or_make (ltb b 128) 10 b (record { 0 = b }) next

pub pattern_range : {A : Type 0} (b : ℕ) (next : Outcome A) → field_ok y.pattern b next ≡ and_then (pattern_of b) (λ _. next)
pattern_range b next = test_or_make (ltb b 32) 11 b (record { 0 = b }) next

pub interface_range : {A : Type 0} (b : ℕ) (next : Outcome A) → field_ok y.interface b next ≡ and_then (interface_of b) (λ _. next)
interface_range b next = test_or_make (ltb b 3) 12 b (interface_at b) next
