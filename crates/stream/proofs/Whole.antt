-- What the last byte of a message answers and leaves: a channel status stays in force, F1 to F3 do not.
use Rattle.std.specs.Prelude.{None, Option, Some}
use mathlib.Core.Path.{◌≡◌, refl, sym, ap, ◌∙◌}
use mathlib.Core.Bool.{false}
use mathlib.Core.List.{List}
use Prim.Native.Nat.{ℕ, ◌+◌, ◌*◌, ◌≤◌, ◌<◌}
use native.Mathlib.Omega.{arith}
use lib.ListN.{get_or, set}
use borrow.Author.Tests.{lt-ltb, le-leb, le-ltb}
use Rattle.wire.specs.Status.{data_length}
use Rattle.decoder.specs.Step.{kept, completed, message_report}
use Rattle.stream.specs.declared.FedAnswer.{FedAnswer}
use Rattle.stream.specs.State.{encoded}
use Rattle.stream.specs.Reports.{numbers_of}
use Rattle.stream.specs.quick.Bytes.{status_in, held_number, put_waiting}
use Rattle.stream.specs.quick.Going.{Under, FrontFree}
use Rattle.stream.proofs.Statuses.{waits_for_data}
use Rattle.stream.proofs.Told.{from_numbers, one_channel, one_common, two_plain, two_bend, two_common}
use Rattle.stream.proofs.Stores.{closed_of, waiting_stored, both_stored}

channel_status_stays : (v : ℕ) → 0x80 ≤ v → v < 0xF0 → kept v ≡ Some v
channel_status_stays v p q = rw (le-leb 0x80 v p, lt-ltb v 0xF0 q)

common_status_goes : (v : ℕ) → 0xF0 ≤ v → kept v ≡ None
common_status_goes v p = rw (le-leb 0x80 v (omega arith), le-ltb v 0xF0 p)

-- the status v that the number m says
module _ (l : List ℕ) (free : FrontFree l) (m v n : ℕ) (is : v ≡ status_in m) (r : FedAnswer) (later : List ℕ) where
  abbrev Ends : ℕ → ℕ → ℕ → Type 0
  Ends a b z = (r ≡ numbers_of n false (message_report (status_in m) a b)) × (later ≡ encoded (completed (status_in m) a z))

  -- the answer and the bytes are the definition's, given the status that is kept
  ends_so : (a b z : ℕ) (x : Option ℕ) → kept v ≡ x → r ≡ numbers_of n false (message_report v a b) → later ≡ encoded (closed_of x 0 a z) → Ends a b z
  ends_so a b z x e t q = (
    t ∙ ap (λ (y : ℕ). numbers_of n false (message_report y a b)) is,
    q ∙ ap (λ (k : Option ℕ). encoded (closed_of k 0 a z)) (sym e) ∙ ap (λ (y : ℕ). encoded (completed y a z)) is,
  )

  byte : v < 256
  byte = omega (arith, is)

  number : m ≡ held_number (status_in m) → m ≡ 256 * 1 + 65_536 * v + 16_777_216 * 0
  number e = omega (arith, e, is)

  module _ (k : ℕ) (some : 0 < k) (under : Under m k) where
    takes : data_length v ≡ k
    takes = ap data_length is ∙ under.1

    low : 0x80 ≤ v
    low = (waits_for_data v k takes some).0

  -- the only data byte of a message ends it
  module _ (a : ℕ) (under : Under m 1) (data_byte : a < 0x80) where
    pub channel_of_one : v < 0xF0 → r ≡ from_numbers n 1 v a 0 → later ≡ put_waiting m a l → Ends a 0 (get_or l 13 0)
    channel_of_one h t q =
        ends_so a 0 (get_or l 13 0) (Some v) (channel_status_stays v (low 1 (omega arith) under) h)
        (t ∙ (one_channel v a n (takes 1 (omega arith) under) h data_byte).numbers)
        (q ∙ waiting_stored l free (Some v) 0 a m byte (omega arith) (number under.0))

    pub common_of_one : 0xF0 ≤ v → r ≡ from_numbers n 3 v a 0 → later ≡ put_waiting 0 a l → Ends a 0 (get_or l 13 0)
    common_of_one h t q =
        ends_so a 0 (get_or l 13 0) None (common_status_goes v h) (t ∙ (one_common v a n (takes 1 (omega arith) under) h data_byte).numbers)
        (q ∙ waiting_stored l free None 0 a 0 (omega arith) (omega arith) refl)

  -- the second of two data bytes ends the message
  module _ (a b : ℕ) (under : Under m 2) (data_byte : a < 0x80) (data-byte₂ : b < 0x80) where
    stored : v < 0xF0 → later ≡ put_waiting m a (set l 13 b) → later ≡ encoded (closed_of (Some v) 0 a b)
    stored h q = q ∙ both_stored l free (Some v) 0 a m byte (omega arith) (number under.0) b

    pub plain_of_two : v < 0xC0 → r ≡ from_numbers n 1 v a b → later ≡ put_waiting m a (set l 13 b) → Ends a b b
    plain_of_two h t q =
        ends_so a b b (Some v) (channel_status_stays v (low 2 (omega arith) under) (omega arith))
        (t ∙ (two_plain v a b n (takes 2 (omega arith) under) h data_byte data-byte₂).numbers) (stored (omega arith) q)

    pub bend_of_two : 0xC0 ≤ v → v < 0xF0 → r ≡ from_numbers n 1 v (a + 128 * b) 0 → later ≡ put_waiting m a (set l 13 b) → Ends a b b
    bend_of_two p h t q =
        ends_so a b b (Some v) (channel_status_stays v (low 2 (omega arith) under) h)
        (t ∙ (two_bend v a b n (takes 2 (omega arith) under) p h data_byte data-byte₂).numbers) (stored h q)

    pub common_of_two : 0xF0 ≤ v → r ≡ from_numbers n 3 v (a + 128 * b) 0 → later ≡ put_waiting 0 a (set l 13 b) → Ends a b b
    common_of_two h t q =
        ends_so a b b None (common_status_goes v h) (t ∙ (two_common v a b n (takes 2 (omega arith) under) h data_byte data-byte₂).numbers)
        (q ∙ both_stored l free None 0 a 0 (omega arith) (omega arith) refl b)
