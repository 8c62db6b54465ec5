-- What ends a call in an open frame: the decoder's own step, class by class.
use Rattle.std.specs.Prelude.{None, Some}
use mathlib.Core.Path.{◌≡◌, refl, sym, ap, ◌∙◌}
use mathlib.Core.Bool.{true, false}
use mathlib.Core.List.{List}
use Prim.Native.Nat.{ℕ, ◌+◌, ◌≤◌, ◌<◌}
use native.Mathlib.Omega.{arith}
use lib.Dec.{ltb}
use lib.ListN.{set}
use borrow.Author.Tests.{ltb-true, ltb-false}
use Rattle.laws.proofs.Tests.{split}
use Rattle.octets.specs.quick.Words.{put_word}
use Rattle.wire.specs.RealTime.{realtime_of}
use Rattle.wire.specs.declared.system_common.SystemCommon.TheVariants as y
use Rattle.decoder.specs.declared.Decoder.{Decoder}
use Rattle.decoder.specs.declared.Class.{Class}
use Rattle.decoder.specs.declared.Class.TheVariants as k
use Rattle.decoder.specs.declared.Report.TheVariants as report
use Rattle.decoder.specs.declared.Stepped.{Stepped}
use Rattle.decoder.specs.State.{limit, cleared}
use Rattle.decoder.specs.Step.{class_of, step_in, stored_in, reporting, too_long, opened, holding, realtime_report}
use Rattle.decoder.specs.Call.{reports}
use Rattle.decoder.proofs.Classes.{class_is}
use Rattle.decoder.proofs.Steps.{data_over, end_fits, end_over, step_by}
use Rattle.decoder.proofs.Limit.{room_for_three}
use Rattle.stream.specs.declared.FedAnswer.{FedAnswer}
use Rattle.stream.specs.State.{encoded}
use Rattle.stream.specs.Reports.{numbers_of}
use Rattle.stream.specs.quick.Bytes.{is_realtime, held_number, put_middle, open_state}
use Rattle.stream.specs.quick.Going.{Answers, MiddleFree}
use Rattle.stream.proofs.Told.{realtime_told}
use Rattle.stream.proofs.Tests.{realtime_high}
use Rattle.stream.proofs.Stores.{open_stored, closed_stored, status_stored}

-- a byte that reports, by its class
pub answers_by : (c : Class) (d : Decoder) (store : List ℕ) (b n : ℕ) (r : FedAnswer) (later left : List ℕ) → class_of b ≡ c → (x : Stepped) (kept : List ℕ) → x ≡ step_in c d b
    → kept ≡ stored_in c d store b → reports x ≡ true → r ≡ numbers_of n x.interrupted x.report → later ≡ encoded x.state → left ≡ kept
    → Answers d store b n r later left
answers_by c d store b n r later left is x kept p q some t e l =
    let same = step_by c d store b is x kept p q in
    record {
      some = ap reports (sym same.0) ∙ some;
      told = t ∙ ap (λ (z : Stepped). numbers_of n z.interrupted z.report) same.0;
      kept = e ∙ ap (λ (z : Stepped). encoded z.state) same.0;
      leaves = l ∙ same.1;
    }

-- a real-time message, whatever the state
pub realtime_answers : (d : Decoder) (store : List ℕ) (b n : ℕ) (r : FedAnswer) (later left : List ℕ) → b < 256 → is_realtime b ≡ true
    → r ≡ numbers_of n false (realtime_report (realtime_of b)) → later ≡ encoded d → left ≡ store → Answers d store b n r later left
realtime_answers d store b n r later left small t e l q =
    answers_by k.Realtime d store b n r later left (class_is b k.Realtime (realtime_high b t))
    (record { state = d; interrupted = false; report = realtime_report (realtime_of b) }) store refl refl (realtime_told b n small t).some e l q

module _ (l : List ℕ) (free : MiddleFree l) (at : ℕ) (store : List ℕ) (b n : ℕ) (r : FedAnswer) (later left : List ℕ) where
  abbrev d : Decoder
  d = open_state at l

  -- F0 breaks the frame off and begins another
  pub start_answers : b ≡ 0xF0 → r ≡ numbers_of n true None → later ≡ put_word 257 l 0 → left ≡ set store 0 b → Answers d store b n r later left
  start_answers is t e q =
      answers_by k.Start d store b n r later left (class_is b k.Start is) (record { state = opened d; interrupted = true; report = None }) (set store 0 b) refl refl refl t
      (e ∙ open_stored l free 1 (omega (arith, room_for_three))) q

  -- a status byte that waits for data breaks the frame off
  pub held_answers : 0x80 ≤ b → b < 0xF4 → (b ≡ 0xF0 → ⊥) → r ≡ numbers_of n true None → later ≡ put_middle (held_number b) (put_word 0 l 0) → left ≡ store
      → Answers d store b n r later left
  held_answers low high not t e q =
      answers_by k.Held d store b n r later left (class_is b k.Held (low, high, not)) (record { state = holding d b; interrupted = true; report = None }) store refl refl refl t
      (e ∙ status_stored l free at b (omega arith)) q

  -- F4 and F5 break the frame off and clear the status
  pub undefined_answers : 0xF4 ≤ b → b < 0xF6 → r ≡ numbers_of n true None → later ≡ put_word 0 l 0 → left ≡ store → Answers d store b n r later left
  undefined_answers low high t e q =
      answers_by k.Undefined d store b n r later left (class_is b k.Undefined (low, high))
      (record { state = cleared d; interrupted = true; report = None }) store refl refl refl t
      (e ∙ closed_stored l free at) q

  -- F6 breaks the frame off and reports itself
  pub tune_answers : b ≡ 0xF6 → r ≡ numbers_of n true (Some (report.Common y.TuneRequest)) → later ≡ put_word 0 l 0 → left ≡ store → Answers d store b n r later left
  tune_answers is t e q =
      answers_by k.Tune d store b n r later left (class_is b k.Tune is)
      (record { state = cleared d; interrupted = true; report = Some (report.Common y.TuneRequest) }) store refl refl refl t
      (e ∙ closed_stored l free at) q

  -- F7 within the limit ends the frame
  pub end_answers : b ≡ 0xF7 → at < limit → r ≡ numbers_of n false (Some (report.SysEx (at + 1))) → later ≡ put_word 0 l 0 → left ≡ set store at b
      → Answers d store b n r later left
  end_answers is fits t e q =
      let eqs = end_fits d store b refl fits in
      answers_by k.End d store b n r later left (class_is b k.End is) (reporting (cleared d) (report.SysEx (at + 1))) (set store at b) (sym eqs.0) (sym eqs.1) refl t
      (e ∙ closed_stored l free at) q

  -- a data byte, or F7, beyond the limit drops the frame with 19
  data_beyond : b < 0x80 → limit ≤ at → r ≡ numbers_of n false (Some (report.SysExTooLong limit)) → later ≡ put_word 0 l 0 → left ≡ store
      → Answers d store b n r later left
  data_beyond low full t e q =
      let eqs = data_over d store b refl full in
      answers_by k.Data d store b n r later left (class_is b k.Data low) (too_long d) store (sym eqs.0) (sym eqs.1) refl t (e ∙ closed_stored l free at) q

  end_beyond : b ≡ 0xF7 → limit ≤ at → r ≡ numbers_of n false (Some (report.SysExTooLong limit)) → later ≡ put_word 0 l 0 → left ≡ store → Answers d store b n r later left
  end_beyond is full t e q =
      let eqs = end_over d store b refl full in
      answers_by k.End d store b n r later left (class_is b k.End is) (too_long d) store (sym eqs.0) (sym eqs.1) refl t (e ∙ closed_stored l free at) q

  pub beyond_answers : b < 0xF8 → (0x80 ≤ b → b < 0xF7 → ⊥) → limit ≤ at → r ≡ numbers_of n false (Some (report.SysExTooLong limit)) → later ≡ put_word 0 l 0 → left ≡ store
      → Answers d store b n r later left
  beyond_answers high none full t e q =
      split (ltb b 0x80) (λ u. data_beyond (ltb-true b 0x80 u) full t e q)
      (λ u. end_beyond (last (ltb-false b 0x80 u) (split (ltb b 0xF7) (λ v. absurd (none (ltb-false b 0x80 u) (ltb-true b 0xF7 v))) (λ v. ltb-false b 0xF7 v))) full t e q)
    where
      last : 0x80 ≤ b → 0xF7 ≤ b → b ≡ 0xF7
      last p v = omega arith
