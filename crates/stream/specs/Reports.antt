-- The decoder's reports in plain numbers: a kind, a status byte and two numbers.
use Rattle.std.specs.Prelude.{Bool, ℕ, ◌+◌, get_or, None, Option, Some}
use Rattle.laws.specs.Choice.{flag}
use Rattle.wire.specs.declared.channel_message.ChannelMessage.{ChannelMessage}
use Rattle.wire.specs.declared.channel_message.ChannelMessage.TheVariants as m
use Rattle.wire.specs.declared.system_common.SystemCommon.{SystemCommon}
use Rattle.wire.specs.declared.system_common.SystemCommon.TheVariants as y
use Rattle.wire.specs.ChannelMessage.{status_nibble}
use Rattle.wire.specs.SystemCommon.{common_bytes}
use Rattle.wire.specs.RealTime.{realtime_byte}
use Rattle.decoder.specs.declared.Report.{Report}
use Rattle.decoder.specs.declared.Report.TheVariants as r
use Rattle.stream.specs.declared.FedAnswer.{FedAnswer}

-- a report's kind: 1 a channel message, 2 a frame, 3 a system common message, 4 a real-time message; 18 and 19 as document 01's numbers
abbrev pub report_kind : Report → ℕ
report_kind (r.Channel c x) = 1
report_kind (r.SysEx n) = 2
report_kind (r.Common x) = 3
report_kind (r.Realtime x) = 4
report_kind r.SysExInterrupted = 18
report_kind (r.SysExTooLong n) = 19

-- a report's status byte, where it has one; a system common message's is the first of its bytes
abbrev pub report_status : Report → ℕ
report_status (r.Channel c x) = status_nibble x + c.0
report_status (r.SysEx n) = 0
report_status (r.Common x) = get_or (common_bytes x) 0 0
report_status (r.Realtime x) = realtime_byte x
report_status r.SysExInterrupted = 0
report_status (r.SysExTooLong n) = 0

-- a channel message's first number: its first data byte, or a bend whole
abbrev pub message_first : ChannelMessage → ℕ
message_first (m.NoteOff k v) = k
message_first (m.NoteOn k v) = k
message_first (m.PolyKeyPressure k p) = k
message_first (m.ControlChange n v) = n
message_first (m.ProgramChange p) = p
message_first (m.ChannelPressure p) = p
message_first (m.PitchBend v) = v

-- a channel message's second data byte; 0 where it has none, and for a bend
abbrev pub message_second : ChannelMessage → ℕ
message_second (m.NoteOff k v) = v
message_second (m.NoteOn k v) = v
message_second (m.PolyKeyPressure k p) = p
message_second (m.ControlChange n v) = v
message_second (m.ProgramChange p) = 0
message_second (m.ChannelPressure p) = 0
message_second (m.PitchBend v) = 0

-- a system common message's value or position; 0 for a tune request
abbrev pub common_value : SystemCommon → ℕ
common_value (y.TimeCodeQuarterFrame v) = v
common_value (y.SongPosition p) = p
common_value (y.SongSelect v) = v
common_value y.TuneRequest = 0

-- a report's first number: data, a bend, a value, a frame's length, or 19's limit
abbrev pub report_first : Report → ℕ
report_first (r.Channel c x) = message_first x
report_first (r.SysEx n) = n
report_first (r.Common x) = common_value x
report_first (r.Realtime x) = 0
report_first r.SysExInterrupted = 0
report_first (r.SysExTooLong n) = n

-- a report's second number: a channel message's second data byte, else 0
abbrev pub report_second : Report → ℕ
report_second (r.Channel c x) = message_second x
report_second (r.SysEx n) = 0
report_second (r.Common x) = 0
report_second (r.Realtime x) = 0
report_second r.SysExInterrupted = 0
report_second (r.SysExTooLong n) = 0

-- what a call used and reported, in numbers
abbrev pub numbers_of : ℕ → Bool → Option Report → FedAnswer
numbers_of used interrupted None =
    record { number = 0; used = used; interrupted = flag interrupted; kind = 0; status = 0; first = 0; second = 0 }
numbers_of used interrupted (Some x) =
    record { number = 0; used = used; interrupted = flag interrupted; kind = report_kind x; status = report_status x; first = report_first x; second = report_second x }
