-- One byte: what it does to the state, what it reports, and what it leaves in the store.
use Rattle.std.specs.Prelude.{true, false, ◌&&◌, List, ℕ, ◌+◌, ◌%◌, ltb, leb, eqb, set, None, Option, Some}
use Rattle.laws.specs.Choice.{pick}
use Rattle.wire.specs.Status.{data_length, is_channel_status}
use Rattle.wire.specs.ChannelMessage.{channel_message}
use Rattle.wire.specs.SystemCommon.{common_message}
use Rattle.wire.specs.RealTime.{realtime_of}
use Rattle.wire.specs.declared.system_common.SystemCommon.TheVariants as y
use Rattle.decoder.specs.declared.Decoder.{Decoder}
use Rattle.decoder.specs.declared.Class.{Class}
use Rattle.decoder.specs.declared.Class.TheVariants as k
use Rattle.decoder.specs.declared.Report.{Report}
use Rattle.decoder.specs.declared.Report.TheVariants as r
use Rattle.decoder.specs.declared.Stepped.{Stepped}
use Rattle.decoder.specs.State.{limit, cleared}
use Rattle.wire.specs.declared.system_common.SystemCommon.{SystemCommon}
use Rattle.wire.specs.declared.channel_message.ChannelMessage.{ChannelMessage}
use Rattle.wire.specs.declared.real_time.Realtime.{Realtime}

-- the class of each byte value: data 00 to 7F; status bytes that wait for data 80 to EF and F1 to F3; F0; F4 and F5, which are
-- undefined; F6; F7; real-time from F8
unfoldable pub class_of : ℕ → Class
class_of b =
    pick (ltb b 0x80) k.Data
    (pick (ltb b 0xF0) k.Held
    (pick (eqb b 0xF0) k.Start
    (pick (ltb b 0xF4) k.Held
    (pick (ltb b 0xF6) k.Undefined
    (pick (eqb b 0xF6) k.Tune
    (pick (eqb b 0xF7) k.End k.Realtime))))))

-- "F0 opens a frame and clears running status"
abbrev pub opened : Decoder → Decoder
opened d = record { in_sysex = true; len = 1; status = None; have = 0; data0 = d.data0; data1 = d.data1 }

-- a status byte that waits for data; "every status byte below F8 drops pending data"
abbrev pub holding : Decoder → ℕ → Decoder
holding d b = record { in_sysex = false; len = 0; status = Some b; have = 0; data0 = d.data0; data1 = d.data1 }

-- the open frame with one byte more
abbrev pub longer : Decoder → Decoder
longer d = record { in_sysex = true; len = d.len + 1; status = None; have = 0; data0 = d.data0; data1 = d.data1 }

-- the first of two data bytes, kept until the second comes
abbrev pub waiting : Decoder → ℕ → ℕ → Decoder
waiting d v b = record { in_sysex = false; len = 0; status = Some v; have = 1; data0 = b; data1 = d.data1 }

-- after a whole message a channel status stays in force; "F1, F2, F3 lose their status after their data"
abbrev pub kept : ℕ → Option ℕ
kept b = pick (is_channel_status b) (Some b) None

-- the state after a whole message with these data bytes
abbrev pub completed : ℕ → ℕ → ℕ → Decoder
completed b first second = record { in_sysex = false; len = 0; status = kept b; have = 0; data0 = first; data1 = second }

-- a system common message is reported as itself; where no record names the status, nothing is
abbrev pub common_report : Option SystemCommon → Option Report
common_report (Some x) = Some (r.Common x)
common_report None = None

-- a channel message is reported with its channel, the status byte's low four bits; where the status is no channel status, it may be a
-- common one
abbrev pub or_common : Option ChannelMessage → ℕ → ℕ → ℕ → Option Report
or_common (Some x) s first second = Some (r.Channel (record { 0 = s % 16 }) x)
or_common None s first second = common_report (common_message s first second)

-- the message of a status byte and its data bytes; the channel is the status byte's low four bits
unfoldable pub message_report : ℕ → ℕ → ℕ → Option Report
message_report s first second = or_common (channel_message s first second) s first second

-- "F9 and FD report nothing", every other real-time byte itself
abbrev pub realtime_report : Option Realtime → Option Report
realtime_report (Some x) = Some (r.Realtime x)
realtime_report None = None

-- no report
abbrev pub silent : Decoder → Stepped
silent d = record { state = d; interrupted = false; report = None }

-- one report, and no frame broken off
abbrev pub reporting : Decoder → Report → Stepped
reporting d x = record { state = d; interrupted = false; report = Some x }

-- 19: a byte beyond the limit drops the frame
abbrev pub too_long : Decoder → Stepped
too_long d = reporting (cleared d) (r.SysExTooLong limit)

-- a data byte under a status: the message is whole, or one byte waits for the second
abbrev pub collect : Option ℕ → Decoder → ℕ → Stepped
collect None d b = silent d
collect (Some v) d b =
    pick (eqb d.have 0)
    (pick (leb (data_length v) 1)
    (record { state = completed v b d.data1; interrupted = false; report = message_report v b 0 })
    (silent (waiting d v b)))
    (record { state = completed v d.data0 b; interrupted = false; report = message_report v d.data0 b })

-- a status byte 80 to F6: "in a frame gives report 18, then its own effect"
abbrev pub interrupting : Decoder → Decoder → Option Report → Stepped
interrupting d next effect = record { state = next; interrupted = d.in_sysex; report = effect }

-- one byte's effect by its class. What the store holds plays no part
abbrev pub step_in : Class → Decoder → ℕ → Stepped
step_in k.Data d b = pick d.in_sysex (pick (ltb d.len limit) (silent (longer d)) (too_long d)) (collect d.status d b)
step_in k.Held d b = interrupting d (holding d b) None
step_in k.Start d b = interrupting d (opened d) None
step_in k.Undefined d b = interrupting d (cleared d) None
step_in k.Tune d b = interrupting d (cleared d) (Some (r.Common y.TuneRequest))
step_in k.End d b =
    pick d.in_sysex (pick (ltb d.len limit) (reporting (cleared d) (r.SysEx (d.len + 1))) (too_long d)) (silent (cleared d))
step_in k.Realtime d b = record { state = d; interrupted = false; report = realtime_report (realtime_of b) }

-- one byte, by its class
unfoldable pub step : Decoder → ℕ → Stepped
step d b = step_in (class_of b) d b

-- the store after the byte: a frame's bytes fill it from the front, F0 first, as far as the limit
abbrev pub stored_in : Class → Decoder → List ℕ → ℕ → List ℕ
stored_in k.Data d store b = pick (d.in_sysex && ltb d.len limit) (set store d.len b) store
stored_in k.Held d store b = store
stored_in k.Start d store b = set store 0 b
stored_in k.Undefined d store b = store
stored_in k.Tune d store b = store
stored_in k.End d store b = pick (d.in_sysex && ltb d.len limit) (set store d.len b) store
stored_in k.Realtime d store b = store

-- the store after one byte, by its class
unfoldable pub stored : Decoder → List ℕ → ℕ → List ℕ
stored d store b = stored_in (class_of b) d store b
