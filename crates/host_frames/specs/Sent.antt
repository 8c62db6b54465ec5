-- Frames to be written, as they cross from C: every field a plain number.
use Rattle.std.specs.Prelude.{Bool, ◌&&◌, ◌||◌, not, List, ℕ, leb, eqb, length}
use Rattle.refusal.specs.Outcome.{Outcome, and_then}
use Rattle.command.specs.Command.{command_of}
use Rattle.message.specs.declared.fields.Fields.{Fields}
use Rattle.message.specs.Prefix.{field_list}
use Rattle.frame_writer.specs.Writer.{length_for, record_write}
use Rattle.host_answer.specs.declared.Answer.{Answer}
use Rattle.host_answer.specs.Answer.{SendsIf}
use Rattle.host_answer.specs.Device.{device_from}

-- does has_pattern name a record? "08 v [pattern] run" has a number or none, 1 or 0. No other command has the field, and what a command lacks is
-- not checked: there every value does
abbrev pub pattern_flag_fits : ℕ → ℕ → Bool
pattern_flag_fits command has = leb has 1 || not (eqb command 0x08)

-- plain numbers as fields; a flag other than 1 says no pattern
abbrev pub fields_from : ℕ → ℕ → ℕ → ℕ → ℕ → ℕ → ℕ → ℕ → ℕ → ℕ → Fields
fields_from free version bank program last pattern has interface rx tx =
    record { free = free; version = version; bank = bank; program = program; last = last; pattern = pattern; has_pattern = eqb has 1; interface = interface; rx = rx; tx = tx }

-- how long a command's frame is beside a run, as the row is: eight bytes, one for each field of the command, and the run where it has one. No
-- field's value plays a part, and the flag says whether a pattern's number is there. 6, then 22
abbrev pub length_asked : ℕ → ℕ → ℕ → Outcome ℕ
length_asked code has run = and_then (command_of code) (λ k. length_for k (length (field_list k (eqb has 1))) run)

-- the whole of what dm_frame_write does with its numbers, the run and the lent buffer: no record names its flags, or it is the writer of plain
-- fields; its answer, and every byte of the buffer afterwards
abbrev pub FrameSent : ℕ → ℕ → ℕ → ℕ → Fields → List ℕ → Answer → List ℕ → List ℕ → Type 0
FrameSent everyone unit command has fields run answer before afterwards =
    SendsIf (leb everyone 1 && pattern_flag_fits command has) (record_write (device_from everyone unit) command fields run (length before)) answer before
    afterwards
