-- What each byte does outside a frame, to a state known by its numbers: the decoder's own step, class by class.
use Rattle.std.specs.Prelude.{None, Option, Some}
use mathlib.Core.Path.{◌≡◌, refl, sym, ap, ◌∙◌}
use mathlib.Core.Bool.{Bool, true, false, ◌&&◌, ◌||◌}
use mathlib.Core.List.{List}
use Prim.Native.Nat.{ℕ, ◌+◌, ◌-◌, ◌*◌, ◌/◌, ◌≤◌, ◌<◌}
use native.Mathlib.Omega.{arith}
use lib.Dec.{ltb, leb, eqb}
use lib.ListN.{get_or, set}
use borrow.Author.Tests.{eq-eqb, ne_eqb, eqb-true, eqb-false, leb-true, leb-false, ltb-true, ltb-false}
use Rattle.laws.specs.Choice.{pick}
use Rattle.laws.proofs.Tests.{split, both}
use Rattle.wire.specs.Status.{data_length}
use Rattle.wire.specs.declared.system_common.SystemCommon.TheVariants as y
use Rattle.decoder.specs.declared.Decoder.{Decoder}
use Rattle.decoder.specs.declared.Class.TheVariants as k
use Rattle.decoder.specs.declared.Report.TheVariants as report
use Rattle.decoder.specs.declared.Stepped.{Stepped}
use Rattle.decoder.specs.State.{sound, waits_soundly, cleared}
use Rattle.decoder.specs.Step.{step, stored, silent, opened, completed, collect, message_report}
use Rattle.decoder.specs.Call.{some_report}
use Rattle.decoder.proofs.Classes.{class_is}
use Rattle.decoder.proofs.Steps.{data_plain, end_plain, step_by}
use Rattle.decoder.proofs.SoundKept.{at_most_two, closed_part, sound_kept}
use Rattle.stream.specs.declared.FedAnswer.{FedAnswer}
use Rattle.stream.specs.State.{encoded}
use Rattle.stream.specs.Reports.{numbers_of}
use Rattle.stream.specs.quick.Bytes.{status_in, waiting_number, held_number, put_waiting}
use Rattle.stream.specs.quick.Going.{Answers, Under, FrontFree}
use Rattle.stream.proofs.Told.{message_some}
use Rattle.stream.proofs.Stores.{closed_of, closed_by, waiting_stored}
use Rattle.stream.proofs.FrameSteps.{answers_by}
use Rattle.decoder.specs.declared.Report.{Report}

-- a status and what is pending, by their number
pub status_known : (x h a z m : ℕ) → x < 256 → h < 256 → m ≡ 256 + 65_536 * x + 16_777_216 * h → closed_by m a z ≡ closed_of (Some x) h a z
status_known x h a z m p q e =
    let status : status_in m ≡ x = omega arith in
    let pending : m / 16_777_216 ≡ h = omega arith in
    rw (ne_eqb m 0 (λ n. omega (arith, n, e)), status, pending) refl

-- the number m and the data bytes say a sound closed state, and are all that it says
pub record SaysClosed (m a z : ℕ) : Type 0 where
  pub fine : sound (closed_by m a z) ≡ true
  pub number : waiting_number (closed_by m a z) ≡ m

-- a closed state whose number is not 0 has a status that takes data
pub record StatusInForce (m a z : ℕ) : Type 0 where
  pub is : closed_by m a z ≡ closed_of (Some (status_in m)) (m / 16_777_216) a z
  pub takes : 0 < data_length (status_in m)
  pub number : m ≡ 256 + 65_536 * status_in m + 16_777_216 * (m / 16_777_216)
  pub pending : 16_777_216 ≤ m → (m / 16_777_216 ≡ 1) × (a < 0x80) × (data_length (status_in m) ≡ 2)

pub status_in_force : (m a z : ℕ) → SaysClosed m a z → (m ≡ 0 → ⊥) → StatusInForce m a z
status_in_force m a z o h =
    let n : eqb m 0 ≡ false = ne_eqb m 0 h in
    let waits : waits_soundly (Some (status_in m)) (m / 16_777_216) a ≡ true =
    ap (λ (t : Bool). waits_soundly (pick t None (Some (status_in m))) (m / 16_777_216) a) (sym n) ∙ (closed_part (closed_by m a z) o.fine refl).1 in
    let p = both (ltb 0 (data_length (status_in m))) _ waits in
    record {
      is = rw n refl;
      takes = ltb-true 0 (data_length (status_in m)) p.0;
      number = sym o.number ∙ rw n refl;
      pending = λ l. some l p.1;
    }
  where
    some : 16_777_216 ≤ m → (eqb (m / 16_777_216) 0 || (eqb (m / 16_777_216) 1 && (leb a 127 && eqb (data_length (status_in m)) 2))) ≡ true
        → (m / 16_777_216 ≡ 1) × (a < 0x80) × (data_length (status_in m) ≡ 2)
    some l e =
        let q = both (eqb (m / 16_777_216) 1) _
        (ap (λ (t : Bool). t || (eqb (m / 16_777_216) 1 && (leb a 127 && eqb (data_length (status_in m)) 2))) (sym (ne_eqb (m / 16_777_216) 0 (λ z. omega (arith, z, l)))) ∙ e) in
        let r = both (leb a 127) _ q.1 in
        (eqb-true _ 1 q.0, omega (arith, leb-true a 127 r.0), eqb-true _ 2 r.1)

-- the bytes of what waits
pub outside_stored : (l : List ℕ) → FrontFree l → (m a : ℕ) → SaysClosed m a (get_or l 13 0) → put_waiting m a l ≡ encoded (closed_by m a (get_or l 13 0))
outside_stored l free m a o =
    split (eqb m 0)
    (λ t. waiting_stored l free None 0 a m (omega arith) (omega arith) (omega (arith, eqb-true m 0 t)) ∙ sym (ap encoded (none (eqb-true m 0 t))))
    (λ t. some (eqb-false m 0 t))
  where
    none : m ≡ 0 → closed_by m a (get_or l 13 0) ≡ closed_of None 0 a (get_or l 13 0)
    none e = rw e refl

    few : StatusInForce m a (get_or l 13 0) → m / 16_777_216 < 256
    few f = split (leb 16_777_216 m) (λ t. omega (arith, (f.pending (leb-true _ _ t)).0)) (λ t. omega (arith, leb-false 16_777_216 m t))

    some : (m ≡ 0 → ⊥) → put_waiting m a l ≡ encoded (closed_by m a (get_or l 13 0))
    some h =
        let f = status_in_force m a (get_or l 13 0) o h in
        waiting_stored l free (Some (status_in m)) (m / 16_777_216) a m (omega arith) (few f) f.number ∙ sym (ap encoded f.is)

-- a byte that reports nothing leads to other numbers
pub record Leads (m a z b m' a' : ℕ) (store : List ℕ) : Type 0 where
  pub steps : silent (closed_by m' a' z) ≡ step (closed_by m a z) b
  pub keeps : store ≡ stored (closed_by m a z) store b
  pub outside : SaysClosed m' a' z

leads : (m a z b m' a' : ℕ) (store : List ℕ) → SaysClosed m a z → (silent (closed_by m' a' z) ≡ step (closed_by m a z) b) × (store ≡ stored (closed_by m a z) store b)
    → waiting_number (closed_by m' a' z) ≡ m' → Leads m a z b m' a' store
leads m a z b m' a' store o p q =
    record {
      steps = p.0;
      keeps = p.1;
      outside = record { fine = ap (λ (x : Stepped). sound x.state) p.0 ∙ sound_kept (closed_by m a z) b o.fine; number = q };
    }

status_number : (x h a z m : ℕ) → x < 256 → h < 256 → m ≡ 256 + 65_536 * x + 16_777_216 * h → waiting_number (closed_by m a z) ≡ m
status_number x h a z m p q e = ap waiting_number (status_known x h a z m p q e) ∙ omega (arith, e)

module _ (m a z b : ℕ) (store : List ℕ) (o : SaysClosed m a z) where
  abbrev d : Decoder
  d = closed_by m a z

  -- a status byte that waits for data takes the last one's place
  pub held_leads : 0x80 ≤ b → b < 0xF4 → (b ≡ 0xF0 → ⊥) → Leads m a z b (held_number b) a store
  held_leads l h n =
      let known = status_known b 0 a z (held_number b) (omega arith) (omega arith) (omega arith) in
      leads m a z b (held_number b) a store o
      (step_by k.Held d store b (class_is b k.Held (l, h, n)) (silent (closed_by (held_number b) a z)) store (ap silent known) refl)
      (status_number b 0 a z (held_number b) (omega arith) (omega arith) (omega arith))

  -- F4, F5 and F7 clear the status
  undefined_leads : 0xF4 ≤ b → b < 0xF6 → Leads m a z b 0 a store
  undefined_leads l h = leads m a z b 0 a store o (step_by k.Undefined d store b (class_is b k.Undefined (l, h)) (silent (closed_by 0 a z)) store refl refl) refl

  end_leads : b ≡ 0xF7 → Leads m a z b 0 a store
  end_leads e =
      let eqs = end_plain d store b refl in
      leads m a z b 0 a store o (step_by k.End d store b (class_is b k.End e) (silent (closed_by 0 a z)) store (sym eqs.0) (sym eqs.1)) refl

  -- F4, F5 and F7 are what is left of F4 to F7 where a byte is not F6
  pub cleared_leads : 0xF4 ≤ b → b < 0xF8 → (b ≡ 0xF6 → ⊥) → Leads m a z b 0 a store
  cleared_leads l h tune =
      split (ltb b 0xF6) (λ t. undefined_leads l (ltb-true b 0xF6 t)) (λ t. end_leads (last (ltb-false b 0xF6 t)))
    where
      last : 0xF6 ≤ b → b ≡ 0xF7
      last q = omega arith

  -- the first of two data bytes waits for the second
  pub first_leads : b < 0x80 → Under m 2 → Leads m a z b (m + 16_777_216) b store
  first_leads low under =
      let f = status_in_force m a z o (λ e. omega (arith, e, under.0)) in
      let two = under.1 in
      let free : m / 16_777_216 ≡ 0 = omega (arith, under.0) in
      let more : m + 16_777_216 ≡ 256 + 65_536 * status_in m + 16_777_216 * 1 = omega (arith, f.number, free) in
      let known = status_known (status_in m) 1 b z (m + 16_777_216) (omega arith) (omega arith) more in
      let eqs = data_plain d store b refl in
      let waits : silent (closed_of (Some (status_in m)) 1 b z) ≡ collect d.status d b =
      sym (ap (λ (e : Decoder). collect e.status e b) f.is ∙ rw (eq-eqb (m / 16_777_216) 0 free, two) refl) in
      leads m a z b (m + 16_777_216) b store o
      (step_by k.Data d store b (class_is b k.Data low) (silent (closed_by (m + 16_777_216) b z)) store (ap silent known ∙ waits ∙ sym eqs.0) (sym eqs.1))
      (status_number (status_in m) 1 b z (m + 16_777_216) (omega arith) (omega arith) more)

  -- F0 opens a frame
  pub start_opens : b ≡ 0xF0 → (silent (opened d) ≡ step d b) × (set store 0 b ≡ stored d store b)
  start_opens e = step_by k.Start d store b (class_is b k.Start e) (silent (opened d)) (set store 0 b) refl refl

-- a pending data byte leaves the status in its place
pub status_stays : (m : ℕ) → status_in (m + 16_777_216) ≡ status_in m
status_stays m = omega arith

pub status_without_pending : (m : ℕ) → 16_777_216 ≤ m → status_in (m - 16_777_216) ≡ status_in m
status_without_pending m h = omega arith

-- the number of a status, without what is pending
module _ (m a z : ℕ) (o : SaysClosed m a z) (n : m ≡ 0 → ⊥) where
  pub takes_some : 0 < data_length (status_in m)
  takes_some = (status_in_force m a z o n).takes

  module _ (h : m < 16_777_216) where
    alone : m ≡ held_number (status_in m)
    alone = omega (arith, (status_in_force m a z o n).number, h)

    -- v is the number's status, and t says whether it takes one data byte
    module _ (v : ℕ) (t : Bool) (is : v ≡ status_in m) (test : t ≡ eqb (data_length v) 1) where
      tested : eqb (data_length (status_in m)) 1 ≡ t
      tested = ap (λ (x : ℕ). eqb (data_length x) 1) (sym is) ∙ sym test

      pub under_one : t ≡ true → Under m 1
      under_one e = (alone, eqb-true (data_length (status_in m)) 1 (tested ∙ e))

      pub under_two : t ≡ false → Under m 2
      under_two e = (alone, omega (arith, takes_some, at_most_two (status_in m), eqb-false (data_length (status_in m)) 1 (tested ∙ e)))

-- the bytes that report
module _ (l : List ℕ) (free : FrontFree l) (m a b n : ℕ) (out : SaysClosed m a (get_or l 13 0)) (r : FedAnswer) (later : List ℕ) (store : List ℕ) where
  abbrev e : Decoder
  e = closed_by m a (get_or l 13 0)

  -- F6 reports a tune request and clears the status
  pub tune_ends : b ≡ 0xF6 → r ≡ numbers_of n false (Some (report.Common y.TuneRequest)) → later ≡ put_waiting 0 a l → Answers e store b n r later store
  tune_ends is t q =
      answers_by k.Tune e store b n r later store (class_is b k.Tune is)
      (record { state = cleared e; interrupted = false; report = Some (report.Common y.TuneRequest) }) store refl refl refl t
      (q ∙ waiting_stored l free None 0 a 0 (omega arith) (omega arith) refl) refl

  module _ (low : b < 0x80) (h : m ≡ 0 → ⊥) where
    f : StatusInForce m a (get_or l 13 0)
    f = status_in_force m a (get_or l 13 0) out h

    whole : (x z : ℕ) (w : Option Report) → record { state = completed (status_in m) x z; interrupted = false; report = w } ≡ collect
        (Some (status_in m)) (closed_of (Some (status_in m)) (m / 16_777_216) a (get_or l 13 0)) b
        → some_report w ≡ true → r ≡ numbers_of n false w → later ≡ encoded (completed (status_in m) x z) → Answers e store b n r later store
    whole x z w c some t q =
        let eqs = data_plain e store b refl in
        answers_by k.Data e store b n r later store (class_is b k.Data low) (record { state = completed (status_in m) x z; interrupted = false; report = w }) store
        (c ∙ ap (λ (d : Decoder). collect d.status d b) (sym f.is) ∙ sym eqs.0) (sym eqs.1) some t q refl

    -- the second data byte, under the number v of its status
    pub second_ends : 16_777_216 ≤ m → (v : ℕ) → v ≡ status_in m → r ≡ numbers_of n false (message_report v a b) → later ≡ encoded (completed v a b) →
        Answers e store b n r later store
    second_ends p v is t q =
        let x = f.pending p in
        whole a b (message_report (status_in m) a b) (rw (ne_eqb (m / 16_777_216) 0 (λ z. omega (arith, z, x.0))) refl)
        (message_some (status_in m) a b f.takes x.1 low)
        (t ∙ ap (λ (y : ℕ). numbers_of n false (message_report y a b)) is) (q ∙ ap (λ (y : ℕ). encoded (completed y a b)) is)

    -- the only data byte of a message, under the number of its status
    pub only_ends : Under m 1 → r ≡ numbers_of n false (message_report (status_in m) b 0) → later ≡ encoded (completed (status_in m) b (get_or l 13 0)) →
        Answers e store b n r later store
    only_ends under t q =
        let one = under.1 in
        whole b (get_or l 13 0) (message_report (status_in m) b 0) (rw (eq-eqb (m / 16_777_216) 0 (omega (arith, under.0)), one) refl)
        (message_some (status_in m) b 0 f.takes low (omega arith)) t q
