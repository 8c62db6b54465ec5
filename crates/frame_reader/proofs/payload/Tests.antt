-- How the reader's tests of a payload come out, return by return: each test that the code made decides the definition's.
use mathlib.Core.Path.{◌≡◌, refl, sym, subst, ◌∙◌}
use mathlib.Core.Bool.{Bool, true, false, ◌&&◌, ◌||◌, not}
use mathlib.Core.List.{List, [], ◌∷◌}
use Prim.Native.Nat.{ℕ, ◌+◌, ◌-◌, ◌%◌, ◌≤◌, ◌<◌}
use native.Mathlib.Omega.{arith}
use lib.Dec.{eqb}
use lib.ListN.{length, get_or}
use borrow.Author.Tests.{le-leb, lt-leb, eq-eqb, ne_eqb, eqb-true}
use Rattle.laws.specs.Choice.{pick}
use Rattle.laws.proofs.Tests.{split}
use Rattle.refusal.specs.Outcome.{refused, unless}
use Rattle.command.specs.declared.Command.{Command}
use Rattle.command.specs.declared.Command.TheVariants as k
use Rattle.command.specs.Command.{code_of}
use Rattle.command.specs.Payload as y
use Rattle.command.specs.Payload.{payload_of, raw_length_for, carries_run}
use Rattle.command.proofs.Table.{same_code, same_at_every}
use Rattle.packed.specs.Packed.{packed_length}
use Rattle.message.specs.Prefix.{optional, fields_at, field_fits, field_ok}
use Rattle.message.specs.quick.Prefix.{small_checked}
use Rattle.message.proofs.prefix.ByKind.{checked_by_kind, version_first}
use Rattle.frame_reader.specs.Payload.{accepted, numbered_by, prefix_length, when_length, read_fields, is_any, read_run}

-- a pattern's number
pub numbered_short : (n : ℕ) → n < 2 → false ≡ numbered_by n
numbered_short n h =
    let one : n - 1 ≡ 0 = omega arith in
    let none : n - 2 ≡ 0 = omega arith in
    rw (one, none)

-- fields behind a version that was tested, and those of payloads without a version
pub fields_tested : (c : Command) (b : Bool) (p : List ℕ) → field_fits y.version (get_or p 0 0) ≡ true → read_fields c b p ≡ small_checked (fields_at c b p)
fields_tested c b p h = checked_by_kind c b p ∙ go (carries_run c) refl
  where
    go : (t : Bool) → carries_run c ≡ t
        → pick t (field_ok y.version (fields_at c b p).version (small_checked (fields_at c b p))) (small_checked (fields_at c b p)) ≡ small_checked (fields_at c b p)
    go true e = rw (version_first c b p e, h)
    go false e = refl

-- the one payload whose number may be missing is the pattern dump's
pub optional_is : (c : Command) → optional c ≡ true → c ≡ k.UserPatternDumpResponse
optional_is c e = same_code c k.UserPatternDumpResponse (eqb-true (code_of c) 0x08 e)

-- a run that is accepted as it stands has no number ahead of it
pub numbered_off : (c : Command) (v : ℕ) (p : List ℕ) → accepted (raw_length_for c v) (length p - prefix_length c) ≡ true
    → read_fields c (numbered_by (length p)) p ≡ read_fields c false p
numbered_off c v p h = split (optional c) (λ e. at_pattern (sym (optional_is c e)) h) (λ e. rw e)
  where
    at_pattern : {j : Command} → k.UserPatternDumpResponse ≡ j → accepted (raw_length_for j v) (length p - prefix_length j) ≡ true
        → read_fields j (numbered_by (length p)) p ≡ read_fields j false p
    at_pattern e = subst
        (λ (j : Command). accepted (raw_length_for j v) (length p - prefix_length j) ≡ true → read_fields j (numbered_by (length p)) p ≡ read_fields j false p)
        e (λ g. rw g)

-- a run of any length is the calibration's
any_is : (c : Command) → is_any (payload_of c).run ≡ eqb (code_of c) 0x12
any_is c = same_at_every (λ j. is_any (payload_of j).run) (λ j. eqb (code_of j) 0x12) refl c

unnumbered : (c : Command) (b : Bool) (p : List ℕ) → code_of c ≡ 0x12 → read_fields c b p ≡ read_fields c false p
unnumbered c b p h = rw h

-- a payload with a version but without all of its prefix is refused with 7
pub run_too_short : (c : Command) (v : ℕ) (p : List ℕ) → length p < prefix_length c → refused 7 (code_of c ∷ prefix_length c ∷ length p ∷ []) ≡ read_run c v p
unfolding read_run
run_too_short c v p h = rw (lt-leb (prefix_length c) (length p) h)

-- the calibration's run is refused with 13 where its length is 1 mod 8
pub any_run : (c : Command) (v : ℕ) (p : List ℕ) → prefix_length c ≤ length p → code_of c ≡ 0x12
    → unless (not (eqb ((length p - prefix_length c) % 8) 1)) 13 ((length p - prefix_length c) ∷ []) (read_fields c false p) ≡ read_run c v p
unfolding read_run
any_run c v p h e = rw (le-leb (prefix_length c) (length p) h, any_is c, eq-eqb (code_of c) 0x12 e, unnumbered c (numbered_by (length p)) p e)

-- every run but the calibration's is tested by the accepted lengths
pub named_run : (c : Command) (v : ℕ) (p : List ℕ) (a : Bool) → prefix_length c ≤ length p → (code_of c ≡ 0x12 → ⊥)
    → accepted (raw_length_for c v) (length p - prefix_length c) ≡ a
    → read_run c v p
    ≡ when_length (a || (optional c && numbered_by (length p))) c (prefix_length c + packed_length (raw_length_for c v)) p (read_fields c (numbered_by (length p)) p)
unfolding read_run
named_run c v p a h n e = rw (le-leb (prefix_length c) (length p) h, any_is c, ne_eqb (code_of c) 0x12 n, e)

pub run_accepted : (c : Command) (v : ℕ) (p : List ℕ) → prefix_length c ≤ length p → (code_of c ≡ 0x12 → ⊥)
    → accepted (raw_length_for c v) (length p - prefix_length c) ≡ true → read_run c v p ≡ read_fields c false p
run_accepted c v p h n e = named_run c v p true h n e ∙ numbered_off c v p e

pub run_with_number : (c : Command) (v : ℕ) (p : List ℕ) → prefix_length c ≤ length p → (code_of c ≡ 0x12 → ⊥)
    → accepted (raw_length_for c v) (length p - prefix_length c) ≡ false → code_of c ≡ 0x08 → numbered_by (length p) ≡ true → read_run c v p ≡ read_fields c true p
run_with_number c v p h n e o b = named_run c v p false h n e ∙ rw (eq-eqb (code_of c) 0x08 o, b)

pub run_refused : (c : Command) (v : ℕ) (p : List ℕ) → prefix_length c ≤ length p → (code_of c ≡ 0x12 → ⊥)
    → accepted (raw_length_for c v) (length p - prefix_length c) ≡ false → (optional c && numbered_by (length p)) ≡ false
    → refused 7 (code_of c ∷ (prefix_length c + packed_length (raw_length_for c v)) ∷ length p ∷ []) ≡ read_run c v p
run_refused c v p h n e o = sym (named_run c v p false h n e ∙ rw o)
