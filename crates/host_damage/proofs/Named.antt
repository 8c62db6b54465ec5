-- A channel that the decoder reports is below 16, because it is the low four bits of a status byte.
use Rattle.std.specs.Prelude.{None, Option, Some}
use mathlib.Core.List.{List, [], ◌∷◌}
use Prim.Native.Nat.{ℕ, ◌<◌}
use native.Mathlib.Omega.{arith}
use lib.Dec.{ltb, leb, eqb}
use Rattle.laws.proofs.Tests.{by_test}
use Rattle.wire.specs.Status.{data_length}
use Rattle.wire.specs.ChannelMessage.{channel_message}
use Rattle.wire.specs.SystemCommon.{common_message}
use Rattle.wire.specs.RealTime.{realtime_of}
use Rattle.decoder.specs.declared.Decoder.{Decoder}
use Rattle.decoder.specs.declared.Class.{Class}
use Rattle.decoder.specs.declared.Class.TheVariants as k
use Rattle.decoder.specs.declared.Report.{Report}
use Rattle.decoder.specs.declared.Report.TheVariants as r
use Rattle.decoder.specs.declared.Stepped.{Stepped}
use Rattle.decoder.specs.State.{limit}
use Rattle.decoder.specs.Step.{class_of, step_in, step, stored, message_report, or_common, common_report, realtime_report, collect}
use Rattle.decoder.specs.Call.{Walked, reports, walk}
use Rattle.wire.specs.declared.system_common.SystemCommon.{SystemCommon}
use Rattle.wire.specs.declared.channel_message.ChannelMessage.{ChannelMessage}
use Rattle.wire.specs.declared.real_time.Realtime.{Realtime}

-- a report that names no channel of 16 or more
abbrev pub NamedReport : Report → Type 0
NamedReport (r.Channel ch x) = ch.0 < 16
NamedReport (r.SysEx n) = Unit {0}
NamedReport (r.Common x) = Unit {0}
NamedReport (r.Realtime x) = Unit {0}
NamedReport r.SysExInterrupted = Unit {0}
NamedReport (r.SysExTooLong n) = Unit {0}

abbrev pub Named : Option Report → Type 0
Named None = Unit {0}
Named (Some x) = NamedReport x

common_is_named : (x : Option SystemCommon) → Named (common_report x)
common_is_named (Some x) = tt
common_is_named None = tt

realtime_is_named : (x : Option Realtime) → Named (realtime_report x)
realtime_is_named (Some x) = tt
realtime_is_named None = tt

message_is_named : (v first second : ℕ) → Named (message_report v first second)
unfolding message_report
message_is_named v first second = go (channel_message v first second)
  where
    go : (x : Option ChannelMessage) → Named (or_common x v first second)
    go (Some x) = omega arith
    go None = common_is_named (common_message v first second)

step_named : (d : Decoder) (b : ℕ) → Named (step d b).report
unfolding step
step_named d b = go (class_of b)
  where
    P : Stepped → Type 0
    P x = Named x.report

    collected : (v : Option ℕ) → P (collect v d b)
    collected None = tt
    collected (Some v) =
        by_test P (eqb d.have 0) _ _ (λ e. by_test P (leb (data_length v) 1) _ _ (λ l. message_is_named v b 0) (λ l. tt)) (λ e. message_is_named v d.data0 b)

    go : (c : Class) → P (step_in c d b)
    go k.Data = by_test P d.in_sysex _ _ (λ e. by_test P (ltb d.len limit) _ _ (λ l. tt) (λ l. tt)) (λ e. collected d.status)
    go k.Held = tt
    go k.Start = tt
    go k.Undefined = tt
    go k.Tune = tt
    go k.End = by_test P d.in_sysex _ _ (λ e. by_test P (ltb d.len limit) _ _ (λ l. tt) (λ l. tt)) (λ e. tt)
    go k.Realtime = realtime_is_named (realtime_of b)

pub walk_named : (bytes : List ℕ) (d : Decoder) (store : List ℕ) → Named (walk d store bytes).fed.report
unfolding walk
walk_named [] d store = tt
walk_named (b ∷ bs) d store =
    by_test (λ (w : Walked). Named w.fed.report) (reports (step d b)) _ _ (λ e. step_named d b) (λ e. walk_named bs (step d b).state (stored d store b))
