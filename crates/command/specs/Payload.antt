-- The payloads of document 01: "Twenty-two codes with their payloads (v version, b bank, p program, run packed)".
use Rattle.std.specs.Prelude.{Bool, true, false, ◌||◌, List, [], ◌∷◌, map, ℕ, eqb, length}
use Rattle.laws.specs.Choice.{pick}
use Rattle.ids.specs.Version.{program_data_length}
use Rattle.command.specs.declared.Command.{Command}
use Rattle.command.specs.declared.Command.TheVariants as k
use Rattle.command.specs.declared.Direction.{Direction}
use Rattle.command.specs.declared.Direction.TheVariants as d
use Rattle.command.specs.declared.Row.{Row}
use Rattle.command.specs.Command.{code_of, commands}

-- one byte of a payload, by what it says
pub data Field : Type 0 where
  free : Field
  version : Field
  bank : Field
  program : Field
  pattern : Field
  receive : Field
  transmit : Field
  interface : Field

-- the packed run behind them: none; the raw length that the version gives; a raw length of its own; or any
pub data Run : Type 0 where
  none : Run
  program_data : Run
  fixed : ℕ → Run
  any : Run

-- a payload: its bytes in wire order, then its run
pub record Payload : Type 0 where
  pub fields : List Field
  pub run : Run

-- the list of the paper, code by code. "08 v [pattern] run": the pattern number may be missing and is not counted here
abbrev pub payload_of : Command → Payload
-- 00
payload_of k.ControlAppNotifyRequest = record { fields = free ∷ []; run = none }
-- 01
payload_of k.ProgramDumpRequest = record { fields = bank ∷ program ∷ []; run = none }
-- 02
payload_of k.ProgramDumpResponse = record { fields = version ∷ bank ∷ program ∷ []; run = program_data }
-- 03
payload_of k.EditBufferDumpRequest = record { fields = []; run = none }
-- 04
payload_of k.EditBufferDumpResponse = record { fields = version ∷ []; run = program_data }
-- 05
payload_of k.GlobalParameterDumpRequest = record { fields = []; run = none }
-- 06
payload_of k.GlobalParameterDumpResponse = record { fields = version ∷ []; run = fixed 45 }
-- 07
payload_of k.SingleUserPatternDumpRequest = record { fields = pattern ∷ []; run = none }
-- 08
payload_of k.UserPatternDumpResponse = record { fields = version ∷ []; run = fixed 65 }
-- 09
payload_of k.ProgramBankDumpRequest = record { fields = bank ∷ program ∷ program ∷ []; run = none }
-- 0A
payload_of k.BankProgramNamesDumpRequest = record { fields = bank ∷ []; run = none }
-- 0B
payload_of k.BankProgramNamesDumpResponse = record { fields = version ∷ bank ∷ []; run = fixed 2048 }
-- 0C
payload_of k.SingleProgramNameDumpRequest = record { fields = bank ∷ program ∷ []; run = none }
-- 0D
payload_of k.SingleProgramNameDumpResponse = record { fields = version ∷ bank ∷ []; run = fixed 16 }
-- 0E
payload_of k.EditBufferPatternDumpRequest = record { fields = []; run = none }
-- 10
payload_of k.ControlAppNotifyResponse = record { fields = receive ∷ transmit ∷ interface ∷ bank ∷ program ∷ []; run = none }
-- 11
payload_of k.CalibrationDataDumpRequest = record { fields = []; run = none }
-- 12
payload_of k.CalibrationDataDumpResponse = record { fields = version ∷ []; run = any }
-- 1B
payload_of k.ChordMemoryDumpRequest = record { fields = []; run = none }
-- 1C
payload_of k.ChordMemoryDumpResponse = record { fields = version ∷ []; run = fixed 26 }
-- 1D
payload_of k.PolyChordMemoryDumpRequest = record { fields = []; run = none }
-- 1E
payload_of k.PolyChordMemoryDumpResponse = record { fields = version ∷ []; run = fixed 512 }

-- does a payload end with a run?
abbrev pub is_run : Run → Bool
is_run none = false
is_run program_data = true
is_run (fixed n) = true
is_run any = true

-- does a command's message carry a run? The list says so by the word "run"
abbrev pub carries_run : Command → Bool
carries_run k = is_run (payload_of k).run

-- which way a message travels: the dumps and the answer to a control application (10) come from the synthesizer (the Rust's command)
abbrev pub direction_of : Command → Direction
direction_of k = pick (carries_run k || eqb (code_of k) 0x10) d.FromDevice d.ToDevice

-- the raw length that a run names for a version: "program, edit" 245 or 242; 0 where none is named
abbrev pub run_length : Run → ℕ → ℕ
run_length none v = 0
run_length program_data v = program_data_length v
run_length (fixed n) v = n
run_length any v = 0

-- how many raw bytes a command's run holds in a version
abbrev pub raw_length_for : Command → ℕ → ℕ
raw_length_for k v = run_length (payload_of k).run v

-- the raw length in the table, which knows no version
abbrev pub table_length : Run → ℕ
table_length none = 0
table_length program_data = 0
table_length (fixed n) = n
table_length any = 0

-- the table's row of a command
abbrev pub row_of : Command → Row
row_of k = record { code = code_of k; prefix_len = length (payload_of k).fields; raw_len = table_length (payload_of k).run }

-- the whole table
abbrev pub table : List Row
table = map row_of commands
