-- The tests of a command's fields in wire order are the tests of its fields by kind, because in every payload the interface stands ahead
-- of the bank, the bank ahead of programs, and a field that is lacking is 0 and passes.
use mathlib.Core.Path.{◌≡◌, refl, ap, ap₂, sym}
use mathlib.Core.Bool.{Bool, true, false}
use mathlib.Core.List.{List, [], ◌∷◌}
use Prim.Native.Nat.{ℕ, zero, suc, ◌+◌, ◌≤◌, ◌<◌}
use native.Mathlib.Omega.{arith}
use lib.Dec.{eqb}
use lib.ListN.{length, get_or, drop}
use Rattle.laws.specs.Choice.{pick}
use Rattle.laws.proofs.Tests.{true_is_not_false}
use Rattle.refusal.specs.Outcome.{Outcome, gives}
use Rattle.command.specs.declared.Command.{Command}
use Rattle.command.specs.Payload as y
use Rattle.command.specs.Payload.{Field, carries_run}
use Rattle.command.proofs.Table.{of_every, same_at_every}
use Rattle.message.specs.declared.fields.Fields.{Fields}
use Rattle.message.specs.Prefix.{tag, value_of, second_of, field_list, fields_in, fields_at, checked, field_ok, wire}
use Rattle.message.specs.quick.Prefix.{small_checked}

-- fields are read by their bytes alone: two payloads that agree in the first n bytes give the same
value_same : (f : Field) (l : List Field) (p q : List ℕ) (i n : ℕ) → i + length l ≤ n → ((j : ℕ) → j < n → get_or p j 0 ≡ get_or q j 0)
    → value_of f l p i ≡ value_of f l q i
value_same f [] p q i n h same = refl
value_same f (g ∷ gs) p q i n h same =
    ap₂ (λ (x z : ℕ). pick (eqb (tag f) (tag g)) x z) (same i (omega arith)) (value_same f gs p q (suc i) n (omega arith) same)

second_same : (f : Field) (l : List Field) (p q : List ℕ) (i n : ℕ) → i + length l ≤ n → ((j : ℕ) → j < n → get_or p j 0 ≡ get_or q j 0)
    → second_of f l p i ≡ second_of f l q i
second_same f [] p q i n h same = refl
second_same f (g ∷ gs) p q i n h same =
    ap₂ (λ (x z : ℕ). pick (eqb (tag f) (tag g)) x z) (value_same f gs p q (suc i) n (omega arith) same) (second_same f gs p q (suc i) n (omega arith) same)

pub fields_same : (l : List Field) (has : Bool) (p q : List ℕ) (n : ℕ) → length l ≤ n → ((j : ℕ) → j < n → get_or p j 0 ≡ get_or q j 0)
    → fields_in l has p ≡ fields_in l has q
fields_same l has p q n h same =
    let v : (f : Field) → value_of f l p 0 ≡ value_of f l q 0 = λ f. value_same f l p q 0 n (omega arith) same in
    rw (v y.free, v y.version, v y.bank, v y.program, v y.pattern, v y.interface, v y.receive, v y.transmit, second_same y.program l p q 0 n (omega arith) same)

-- as many bytes as fields
pub length_wire : (first : Bool) (l : List Field) (f : Fields) → length (wire first l f) ≡ length l
length_wire first [] f = refl
length_wire first (y.free ∷ l) f = ap suc (length_wire first l f)
length_wire first (y.version ∷ l) f = ap suc (length_wire first l f)
length_wire first (y.bank ∷ l) f = ap suc (length_wire first l f)
length_wire first (y.program ∷ l) f = ap suc (length_wire false l f)
length_wire first (y.pattern ∷ l) f = ap suc (length_wire first l f)
length_wire first (y.receive ∷ l) f = ap suc (length_wire first l f)
length_wire first (y.transmit ∷ l) f = ap suc (length_wire first l f)
length_wire first (y.interface ∷ l) f = ap suc (length_wire first l f)

-- the first five bytes tell all fields
five : (p : List ℕ) (j : ℕ) → j < 5 → get_or (get_or p 0 0 ∷ get_or p 1 0 ∷ get_or p 2 0 ∷ get_or p 3 0 ∷ get_or p 4 0 ∷ []) j 0 ≡ get_or p j 0
five p zero h = refl
five p (suc zero) h = refl
five p (suc (suc zero)) h = refl
five p (suc (suc (suc zero))) h = refl
five p (suc (suc (suc (suc zero)))) h = refl
five p (suc (suc (suc (suc (suc j))))) h = absurd (omega arith)

-- does a list of fields begin with the version?
version_leads : List Field → Bool
version_leads [] = false
version_leads (f ∷ fs) = eqb (tag f) (tag y.version)

-- a number for each kind of field tells it
version_tagged : (f : Field) → eqb (tag f) (tag y.version) ≡ true → f ≡ y.version
version_tagged y.version h = refl
version_tagged y.free h = absurd (true_is_not_false (sym h))
version_tagged y.bank h = absurd (true_is_not_false (sym h))
version_tagged y.program h = absurd (true_is_not_false (sym h))
version_tagged y.pattern h = absurd (true_is_not_false (sym h))
version_tagged y.receive h = absurd (true_is_not_false (sym h))
version_tagged y.transmit h = absurd (true_is_not_false (sym h))
version_tagged y.interface h = absurd (true_is_not_false (sym h))

leading : (l : List Field) → version_leads l ≡ true → l ≡ y.version ∷ drop 1 l
unfolding version_leads
leading [] h = absurd (true_is_not_false (sym h))
leading (f ∷ fs) h = ap (λ (g : Field). g ∷ fs) (version_tagged f h)

-- a dump's fields begin with the version
pub version_comes_first : (k : Command) (b : Bool) → carries_run k ≡ true → field_list k b ≡ y.version ∷ drop 1 (field_list k b)
unfolding version_leads
version_comes_first k true h = leading (field_list k true) (rw h at (of_every (λ j. pick (carries_run j) (version_leads (field_list j true)) true) refl k))
version_comes_first k false h = leading (field_list k false) (rw h at (of_every (λ j. pick (carries_run j) (version_leads (field_list j false)) true) refl k))

-- the version of a dump is its first byte
pub version_first : (k : Command) (b : Bool) (p : List ℕ) → carries_run k ≡ true → (fields_at k b p).version ≡ get_or p 0 0
version_first k b p h = rw (version_comes_first k b h)

-- a command's fields tested in wire order, and by kind
abbrev wire_order : Bool → List ℕ → Command → Outcome Fields
wire_order b p k = checked (field_list k b) p 0 (gives (fields_at k b p))

abbrev by_kind : Bool → List ℕ → Command → Outcome Fields
by_kind b p k =
    pick (carries_run k) (field_ok y.version (fields_at k b p).version (small_checked (fields_at k b p))) (small_checked (fields_at k b p))

-- both orders give the same
pub checked_by_kind : (k : Command) (b : Bool) (p : List ℕ)
    → checked (field_list k b) p 0 (gives (fields_at k b p))
    ≡ pick (carries_run k) (field_ok y.version (fields_at k b p).version (small_checked (fields_at k b p))) (small_checked (fields_at k b p))
checked_by_kind k true p = same_at_every (wire_order true p) (by_kind true p) refl k
checked_by_kind k false p = same_at_every (wire_order false p) (by_kind false p) refl k
