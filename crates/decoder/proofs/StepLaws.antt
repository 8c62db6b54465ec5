-- What one byte does, said as laws: each follows from the step by its class.
use Rattle.std.specs.Prelude.{None, Option, Some}
use mathlib.Core.Path.{◌≡◌, refl, sym, ◌∙◌, ap}
use mathlib.Core.Bool.{Bool, true, false}
use mathlib.Core.List.{List, [], ◌∷◌}
use Prim.Native.Nat.{ℕ, ◌+◌, ◌≤◌, ◌<◌}
use native.Mathlib.Omega.{arith}
use lib.Dec.{ltb, leb, eqb}
use lib.ListN.{length}
use borrow.Author.Tests.{lt-ltb, le-ltb, le-leb}
use Rattle.laws.specs.Choice.{pick}
use Rattle.laws.proofs.Tests.{by_test, true_is_not_false}
use Rattle.wire.specs.Status.{data_length}
use Rattle.wire.specs.RealTime.{realtime_of}
use Rattle.wire.specs.declared.system_common.SystemCommon.TheVariants as y
use Rattle.decoder.specs.declared.Decoder.{Decoder}
use Rattle.decoder.specs.declared.Class.{Class}
use Rattle.decoder.specs.declared.Class.TheVariants as k
use Rattle.decoder.specs.declared.Report.{Report}
use Rattle.decoder.specs.declared.Report.TheVariants as r
use Rattle.decoder.specs.declared.Stepped.{Stepped}
use Rattle.decoder.specs.State.{limit, sound, reset}
use Rattle.decoder.specs.Step.{class_of, step_in, step, stored, message_report, realtime_report, collect, kept}
use Rattle.decoder.specs.Reports.{own_report, report_list}
use Rattle.decoder.specs.declared.Fed.{Fed}
use Rattle.decoder.specs.Call.{some_report, reports, stopped, further, walk}
use Rattle.decoder.proofs.Classes.{Range, range_of, class_is}

-- F4, F5, F6 and F7 clear running status, whatever the state
pub cleared_by_f4_to_f7 : (d : Decoder) (b : ℕ) → 0xF4 ≤ b → b < 0xF8 → (step d b).state.status ≡ None
unfolding step
cleared_by_f4_to_f7 d b l h = go (class_of b) (range_of b)
  where
    P : Stepped → Type 0
    P x = x.state.status ≡ None

    go : (c : Class) → Range c b → P (step_in c d b)
    go k.Data r = absurd (omega arith)
    go k.Held r = absurd (omega arith)
    go k.Start r = absurd (omega arith)
    go k.Undefined r = refl
    go k.Tune r = refl
    go k.End r = by_test P d.in_sysex _ _ (λ e. by_test P (ltb d.len limit) _ _ (λ l. refl) (λ l. refl)) (λ e. refl)
    go k.Realtime r = absurd (omega arith)

-- every status byte below F8 drops pending data
pub pending_dropped : (d : Decoder) (b : ℕ) → 0x80 ≤ b → b < 0xF8 → (step d b).state.have ≡ 0
unfolding step
pending_dropped d b l h = go (class_of b) (range_of b)
  where
    P : Stepped → Type 0
    P x = x.state.have ≡ 0

    go : (c : Class) → Range c b → P (step_in c d b)
    go k.Data r = absurd (omega arith)
    go k.Held r = refl
    go k.Start r = refl
    go k.Undefined r = refl
    go k.Tune r = refl
    go k.End r = by_test P d.in_sysex _ _ (λ e. by_test P (ltb d.len limit) _ _ (λ l. refl) (λ l. refl)) (λ e. refl)
    go k.Realtime r = absurd (omega arith)

-- a reset leaves a sound state, whatever the state was
pub reset_sound : (d : Decoder) → sound (reset d) ≡ true
reset_sound d = refl

-- F1, F2 and F3 lose their status once their data are there; a channel status stays
pub common_status_lost : (b : ℕ) → 0xF0 ≤ b → kept b ≡ None
common_status_lost b h = rw (le-ltb b 0xF0 h, le-leb 0x80 b (omega arith))

pub channel_status_kept : (b : ℕ) → 0x80 ≤ b → b < 0xF0 → kept b ≡ Some b
channel_status_kept b l h = rw (lt-ltb b 0xF0 h, le-leb 0x80 b l)

pub whole_common_clears : (d : Decoder) (v b : ℕ) → 0xF0 ≤ v → some_report (collect (Some v) d b).report ≡ true
    → (collect (Some v) d b).state.status ≡ None
whole_common_clears d v b h =
    by_test P (eqb d.have 0) _ _
    (λ e. by_test P (leb (data_length v) 1) _ _ (λ l q. common_status_lost v h) (λ l q. absurd (true_is_not_false (sym q))))
    (λ e q. common_status_lost v h)
  where
    P : Stepped → Type 0
    P x = some_report x.report ≡ true → x.state.status ≡ None

-- real-time bytes touch no state and no store
pub realtime_touches_nothing : (d : Decoder) (store : List ℕ) (b : ℕ) → 0xF8 ≤ b → ((step d b).state ≡ d) × (stored d store b ≡ store)
unfolding step stored
realtime_touches_nothing d store b h = (rw (class_is b k.Realtime h), rw (class_is b k.Realtime h))

-- the data bytes keep their values but for the one that a data byte overwrites; a reset keeps both
pub record Kept (d e : Decoder) : Type 0 where
  pub first : e.data0 ≡ d.data0
  pub second : e.data1 ≡ d.data1

pub status_bytes_keep_data : (d : Decoder) (b : ℕ) → 0x80 ≤ b → Kept d (step d b).state
unfolding step
status_bytes_keep_data d b h = go (class_of b) (range_of b)
  where
    P : Stepped → Type 0
    P x = Kept d x.state

    same : Kept d (reset d)
    same = record { first = refl; second = refl }

    go : (c : Class) → Range c b → P (step_in c d b)
    go k.Data r = absurd (omega arith)
    go k.Held r = record { first = refl; second = refl }
    go k.Start r = record { first = refl; second = refl }
    go k.Undefined r = same
    go k.Tune r = same
    go k.End r = by_test P d.in_sysex _ _ (λ e. by_test P (ltb d.len limit) _ _ (λ l. same) (λ l. same)) (λ e. same)
    go k.Realtime r = record { first = refl; second = refl }

pub frame_bytes_keep_data : (d : Decoder) (b : ℕ) → d.in_sysex ≡ true → b < 0x80 → Kept d (step d b).state
unfolding step
frame_bytes_keep_data d b inside h =
    rw (class_is b k.Data h)
    (by_test P d.in_sysex _ _
    (λ e. by_test P (ltb d.len limit) _ _ (λ l. record { first = refl; second = refl }) (λ l. record { first = refl; second = refl }))
    (λ e. absurd (true_is_not_false (sym inside ∙ e))))
  where
    P : Stepped → Type 0
    P x = Kept d x.state

pub reset_keeps_data : (d : Decoder) → Kept d (reset d)
reset_keeps_data d = record { first = refl; second = refl }

-- a data byte overwrites the second only where one waits, and the first only where none does
pub data_byte_keeps_other : (d : Decoder) (v : Option ℕ) (b : ℕ)
    → (eqb d.have 0 ≡ true → (collect v d b).state.data1 ≡ d.data1) × (eqb d.have 0 ≡ false → (collect v d b).state.data0 ≡ d.data0)
data_byte_keeps_other d None b = (λ e. refl, λ e. refl)
data_byte_keeps_other d (Some v) b =
    (λ e. rw e (by_test (λ (x : Stepped). x.state.data1 ≡ d.data1) (leb (data_length v) 1) _ _ (λ l. refl) (λ l. refl)), λ e. rw e)

-- a byte causes at most two reports, and two only as 18 followed by its own effect, which only F6 has
abbrev pub reports_at : Decoder → ℕ → List Report
reports_at d b = report_list (step d b).interrupted (step d b).report

pub at_most_two_reports : (d : Decoder) (b : ℕ) → length (reports_at d b) ≤ 2
at_most_two_reports d b = go (step d b).interrupted (step d b).report
  where
    go : (t : Bool) (x : Option Report) → length (report_list t x) ≤ 2
    go true None = omega arith
    go true (Some x) = omega arith
    go false None = omega arith
    go false (Some x) = omega arith

pub two_reports_are : (d : Decoder) (b : ℕ) (u w : Report) → reports_at d b ≡ u ∷ w ∷ []
    → (b ≡ 0xF6) × (u ≡ r.SysExInterrupted) × (w ≡ r.Common y.TuneRequest)
unfolding step
two_reports_are d b u w = go (class_of b) (range_of b)
  where
    Goal : Type 0
    Goal = (b ≡ 0xF6) × (u ≡ r.SysExInterrupted) × (w ≡ r.Common y.TuneRequest)

    P : Stepped → Type 0
    P z = report_list z.interrupted z.report ≡ u ∷ w ∷ [] → Goal

    never : ◌≡◌ {A = ℕ} 0 1 → Goal
    never z = absurd (omega arith)

    one : (own : Option Report) → own_report own ≡ u ∷ w ∷ [] → Goal
    one None e = never (cc)
    one (Some n) e = never (cc)

    lone : (t : Bool) → report_list t None ≡ u ∷ w ∷ [] → Goal
    lone true e = never (cc)
    lone false e = never (cc)

    tune : (t : Bool) → b ≡ 0xF6 → report_list t (Some (r.Common y.TuneRequest)) ≡ u ∷ w ∷ [] → Goal
    tune true h e = (h, cc, cc)
    tune false h e = never (cc)

    collected : (v : Option ℕ) → P (collect v d b)
    collected None = one None
    collected (Some v) = by_test P (eqb d.have 0) _ _
        (λ e. by_test P (leb (data_length v) 1) _ _ (λ l. one (message_report v b 0)) (λ l. one None)) (λ e. one (message_report v d.data0 b))

    go : (c : Class) → Range c b → P (step_in c d b)
    go k.Data h = by_test P d.in_sysex _ _ (λ e. by_test P (ltb d.len limit) _ _ (λ l. one None) (λ l. one (Some (r.SysExTooLong limit)))) (λ e. collected d.status)
    go k.Held h = lone d.in_sysex
    go k.Start h = lone d.in_sysex
    go k.Undefined h = lone d.in_sysex
    go k.Tune h = tune d.in_sysex h
    go k.End h = by_test P d.in_sysex _ _
        (λ e. by_test P (ltb d.len limit) _ _ (λ l. one (Some (r.SysEx (d.len + 1)))) (λ l. one (Some (r.SysExTooLong limit))))
        (λ e. one None)
    go k.Realtime h = one (realtime_report (realtime_of b))

-- what the store holds plays no part in a call's answer: bytes used, state and reports are the same over any two stores
pub store_plays_no_part : (d : Decoder) (bytes store other : List ℕ) → (walk d store bytes).fed ≡ (walk d other bytes).fed
unfolding walk
store_plays_no_part d [] store other = refl
store_plays_no_part d (b ∷ bs) store other =
    go (reports (step d b)) (store_plays_no_part (step d b).state bs (stored d store b) (stored d other b))
  where
    go : (t : Bool) → (walk (step d b).state (stored d store b) bs).fed ≡ (walk (step d b).state (stored d other b) bs).fed
        → (pick t (stopped (step d b) (stored d store b)) (further 1 (walk (step d b).state (stored d store b) bs))).fed
        ≡ (pick t (stopped (step d b) (stored d other b)) (further 1 (walk (step d b).state (stored d other b) bs))).fed
    go true e = refl
    go false e = ap (λ (f : Fed). record { used = 1 + f.used; state = f.state; interrupted = f.interrupted; report = f.report }) e
