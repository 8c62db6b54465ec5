-- The 22 messages: the command of each, its fields, and the message that some fields make.
use Rattle.std.specs.Prelude.{Bool, true, false, ℕ, None, Option, Some}
use Rattle.refusal.specs.Outcome.{Outcome, gives, and_then}
use Rattle.ids.specs.declared.device.DeviceId.{DeviceId}
use Rattle.ids.specs.Device.{when_device}
use Rattle.command.specs.declared.Command.{Command}
use Rattle.command.specs.declared.Command.TheVariants as k
use Rattle.command.specs.Command.{command_of}
use Rattle.message.specs.declared.fields.Fields.{Fields}
use Rattle.message.specs.declared.head.Head.{Head}
use Rattle.message.specs.declared.head.Head.TheVariants as h
use Rattle.message.specs.declared.head.FrameHead.{FrameHead}
use Rattle.ids.specs.Interface.{interface_at, interface_byte}
use Rattle.message.specs.Fields.{free_fields, request_fields, dump_fields, pattern_fields, notify_fields}
use Rattle.message.specs.Prefix.{checked_fields}
use Rattle.ids.specs.declared.pattern.PatternNumber.{PatternNumber}
use Rattle.ids.specs.declared.version.ProtocolVersion.{ProtocolVersion}

-- a pattern's number where there is one
abbrev pub pattern_at : Bool → ℕ → Option PatternNumber
pattern_at true n = Some (record { 0 = n })
pattern_at false n = None

-- the fields of a pattern dump, its number 0 where it has none
abbrev pub pattern_in : ℕ → Option PatternNumber → Fields
pattern_in v (Some n) = pattern_fields v n.0 true
pattern_in v None = pattern_fields v 0 false

-- the command of a message
abbrev pub command_of_head : Head → Command
command_of_head (h.ControlAppNotifyRequest a) = k.ControlAppNotifyRequest
command_of_head (h.ProgramDumpRequest a b) = k.ProgramDumpRequest
command_of_head (h.ProgramDumpResponse a b c) = k.ProgramDumpResponse
command_of_head h.EditBufferDumpRequest = k.EditBufferDumpRequest
command_of_head (h.EditBufferDumpResponse a) = k.EditBufferDumpResponse
command_of_head h.GlobalParameterDumpRequest = k.GlobalParameterDumpRequest
command_of_head (h.GlobalParameterDumpResponse a) = k.GlobalParameterDumpResponse
command_of_head (h.SingleUserPatternDumpRequest a) = k.SingleUserPatternDumpRequest
command_of_head (h.UserPatternDumpResponse a b) = k.UserPatternDumpResponse
command_of_head (h.ProgramBankDumpRequest a b c) = k.ProgramBankDumpRequest
command_of_head (h.BankProgramNamesDumpRequest a) = k.BankProgramNamesDumpRequest
command_of_head (h.BankProgramNamesDumpResponse a b) = k.BankProgramNamesDumpResponse
command_of_head (h.SingleProgramNameDumpRequest a b) = k.SingleProgramNameDumpRequest
command_of_head (h.SingleProgramNameDumpResponse a b) = k.SingleProgramNameDumpResponse
command_of_head h.EditBufferPatternDumpRequest = k.EditBufferPatternDumpRequest
command_of_head (h.ControlAppNotifyResponse a b c d e) = k.ControlAppNotifyResponse
command_of_head h.CalibrationDataDumpRequest = k.CalibrationDataDumpRequest
command_of_head (h.CalibrationDataDumpResponse a) = k.CalibrationDataDumpResponse
command_of_head h.ChordMemoryDumpRequest = k.ChordMemoryDumpRequest
command_of_head (h.ChordMemoryDumpResponse a) = k.ChordMemoryDumpResponse
command_of_head h.PolyChordMemoryDumpRequest = k.PolyChordMemoryDumpRequest
command_of_head (h.PolyChordMemoryDumpResponse a) = k.PolyChordMemoryDumpResponse

-- a message's fields
abbrev pub fields_of : Head → Fields
fields_of (h.ControlAppNotifyRequest a) = free_fields a
fields_of (h.ProgramDumpRequest a b) = request_fields a.0 b.0 0 0
fields_of (h.ProgramDumpResponse a b c) = dump_fields a.0 b.0 c.0
fields_of h.EditBufferDumpRequest = request_fields 0 0 0 0
fields_of (h.EditBufferDumpResponse a) = dump_fields a.0 0 0
fields_of h.GlobalParameterDumpRequest = request_fields 0 0 0 0
fields_of (h.GlobalParameterDumpResponse a) = dump_fields a.0 0 0
fields_of (h.SingleUserPatternDumpRequest a) = request_fields 0 0 0 a.0
fields_of (h.UserPatternDumpResponse a b) = pattern_in a.0 b
fields_of (h.ProgramBankDumpRequest a b c) = request_fields a.0 b.0 c.0 0
fields_of (h.BankProgramNamesDumpRequest a) = request_fields a.0 0 0 0
fields_of (h.BankProgramNamesDumpResponse a b) = dump_fields a.0 b.0 0
fields_of (h.SingleProgramNameDumpRequest a b) = request_fields a.0 b.0 0 0
fields_of (h.SingleProgramNameDumpResponse a b) = dump_fields a.0 b.0 0
fields_of h.EditBufferPatternDumpRequest = request_fields 0 0 0 0
fields_of (h.ControlAppNotifyResponse a b c d e) = notify_fields a b (interface_byte c) d.0 e.0
fields_of h.CalibrationDataDumpRequest = request_fields 0 0 0 0
fields_of (h.CalibrationDataDumpResponse a) = dump_fields a.0 0 0
fields_of h.ChordMemoryDumpRequest = request_fields 0 0 0 0
fields_of (h.ChordMemoryDumpResponse a) = dump_fields a.0 0 0
fields_of h.PolyChordMemoryDumpRequest = request_fields 0 0 0 0
fields_of (h.PolyChordMemoryDumpResponse a) = dump_fields a.0 0 0

-- the message of a command and its fields; only the fields that the command has are read
abbrev pub head_from : Command → Fields → Head
head_from k.ControlAppNotifyRequest f = h.ControlAppNotifyRequest f.free
head_from k.ProgramDumpRequest f = h.ProgramDumpRequest (record { 0 = f.bank }) (record { 0 = f.program })
head_from k.ProgramDumpResponse f = h.ProgramDumpResponse (record { 0 = f.version }) (record { 0 = f.bank }) (record { 0 = f.program })
head_from k.EditBufferDumpRequest f = h.EditBufferDumpRequest
head_from k.EditBufferDumpResponse f = h.EditBufferDumpResponse (record { 0 = f.version })
head_from k.GlobalParameterDumpRequest f = h.GlobalParameterDumpRequest
head_from k.GlobalParameterDumpResponse f = h.GlobalParameterDumpResponse (record { 0 = f.version })
head_from k.SingleUserPatternDumpRequest f = h.SingleUserPatternDumpRequest (record { 0 = f.pattern })
head_from k.UserPatternDumpResponse f = h.UserPatternDumpResponse (record { 0 = f.version }) (pattern_at f.has_pattern f.pattern)
head_from k.ProgramBankDumpRequest f = h.ProgramBankDumpRequest (record { 0 = f.bank }) (record { 0 = f.program }) (record { 0 = f.last })
head_from k.BankProgramNamesDumpRequest f = h.BankProgramNamesDumpRequest (record { 0 = f.bank })
head_from k.BankProgramNamesDumpResponse f = h.BankProgramNamesDumpResponse (record { 0 = f.version }) (record { 0 = f.bank })
head_from k.SingleProgramNameDumpRequest f = h.SingleProgramNameDumpRequest (record { 0 = f.bank }) (record { 0 = f.program })
head_from k.SingleProgramNameDumpResponse f = h.SingleProgramNameDumpResponse (record { 0 = f.version }) (record { 0 = f.bank })
head_from k.EditBufferPatternDumpRequest f = h.EditBufferPatternDumpRequest
head_from k.ControlAppNotifyResponse f = h.ControlAppNotifyResponse f.rx f.tx (interface_at f.interface) (record { 0 = f.bank }) (record { 0 = f.program })
head_from k.CalibrationDataDumpRequest f = h.CalibrationDataDumpRequest
head_from k.CalibrationDataDumpResponse f = h.CalibrationDataDumpResponse (record { 0 = f.version })
head_from k.ChordMemoryDumpRequest f = h.ChordMemoryDumpRequest
head_from k.ChordMemoryDumpResponse f = h.ChordMemoryDumpResponse (record { 0 = f.version })
head_from k.PolyChordMemoryDumpRequest f = h.PolyChordMemoryDumpRequest
head_from k.PolyChordMemoryDumpResponse f = h.PolyChordMemoryDumpResponse (record { 0 = f.version })

-- the version, for the messages that carry one
abbrev pub version_of_head : Head → Option ProtocolVersion
version_of_head (h.ControlAppNotifyRequest a) = None
version_of_head (h.ProgramDumpRequest a b) = None
version_of_head (h.ProgramDumpResponse a b c) = Some a
version_of_head h.EditBufferDumpRequest = None
version_of_head (h.EditBufferDumpResponse a) = Some a
version_of_head h.GlobalParameterDumpRequest = None
version_of_head (h.GlobalParameterDumpResponse a) = Some a
version_of_head (h.SingleUserPatternDumpRequest a) = None
version_of_head (h.UserPatternDumpResponse a b) = Some a
version_of_head (h.ProgramBankDumpRequest a b c) = None
version_of_head (h.BankProgramNamesDumpRequest a) = None
version_of_head (h.BankProgramNamesDumpResponse a b) = Some a
version_of_head (h.SingleProgramNameDumpRequest a b) = None
version_of_head (h.SingleProgramNameDumpResponse a b) = Some a
version_of_head h.EditBufferPatternDumpRequest = None
version_of_head (h.ControlAppNotifyResponse a b c d e) = None
version_of_head h.CalibrationDataDumpRequest = None
version_of_head (h.CalibrationDataDumpResponse a) = Some a
version_of_head h.ChordMemoryDumpRequest = None
version_of_head (h.ChordMemoryDumpResponse a) = Some a
version_of_head h.PolyChordMemoryDumpRequest = None
version_of_head (h.PolyChordMemoryDumpResponse a) = Some a

-- "5, also for a unit above 0F, then 6 where the command is given as a byte, then 8, 12, 9, 10, 11 in wire order"
abbrev pub record_frame : DeviceId → ℕ → Fields → Outcome FrameHead
record_frame d c f =
    when_device d (and_then (command_of c) (λ k. and_then (checked_fields k f) (λ own. gives (record { device = d; head = head_from k own }))))
