-- Document 01's twenty-two codes.
use Rattle.std.specs.Prelude.{List, [], ◌∷◌, ℕ, eqb}
use Rattle.laws.specs.Choice.{pick}
use Rattle.refusal.specs.Outcome.{Outcome, gives, refused}
use Rattle.command.specs.declared.Command.{Command}
use Rattle.command.specs.declared.Command.TheVariants as k

-- each command's code
abbrev pub code_of : Command → ℕ
code_of k.ControlAppNotifyRequest = 0x00
code_of k.ProgramDumpRequest = 0x01
code_of k.ProgramDumpResponse = 0x02
code_of k.EditBufferDumpRequest = 0x03
code_of k.EditBufferDumpResponse = 0x04
code_of k.GlobalParameterDumpRequest = 0x05
code_of k.GlobalParameterDumpResponse = 0x06
code_of k.SingleUserPatternDumpRequest = 0x07
code_of k.UserPatternDumpResponse = 0x08
code_of k.ProgramBankDumpRequest = 0x09
code_of k.BankProgramNamesDumpRequest = 0x0A
code_of k.BankProgramNamesDumpResponse = 0x0B
code_of k.SingleProgramNameDumpRequest = 0x0C
code_of k.SingleProgramNameDumpResponse = 0x0D
code_of k.EditBufferPatternDumpRequest = 0x0E
code_of k.ControlAppNotifyResponse = 0x10
code_of k.CalibrationDataDumpRequest = 0x11
code_of k.CalibrationDataDumpResponse = 0x12
code_of k.ChordMemoryDumpRequest = 0x1B
code_of k.ChordMemoryDumpResponse = 0x1C
code_of k.PolyChordMemoryDumpRequest = 0x1D
code_of k.PolyChordMemoryDumpResponse = 0x1E

-- all of them, in the paper's order
abbrev pub commands : List Command
commands =
    k.ControlAppNotifyRequest ∷ k.ProgramDumpRequest ∷ k.ProgramDumpResponse ∷ k.EditBufferDumpRequest ∷ k.EditBufferDumpResponse ∷
    k.GlobalParameterDumpRequest ∷ k.GlobalParameterDumpResponse ∷ k.SingleUserPatternDumpRequest ∷ k.UserPatternDumpResponse ∷
    k.ProgramBankDumpRequest ∷ k.BankProgramNamesDumpRequest ∷ k.BankProgramNamesDumpResponse ∷ k.SingleProgramNameDumpRequest ∷
    k.SingleProgramNameDumpResponse ∷ k.EditBufferPatternDumpRequest ∷ k.ControlAppNotifyResponse ∷ k.CalibrationDataDumpRequest ∷
    k.CalibrationDataDumpResponse ∷ k.ChordMemoryDumpRequest ∷ k.ChordMemoryDumpResponse ∷ k.PolyChordMemoryDumpRequest ∷
    k.PolyChordMemoryDumpResponse ∷ []

-- the command among some that has a code; 6 with the byte where none has
abbrev pub among : List Command → ℕ → Outcome Command
among [] b = refused 6 (b ∷ [])
among (k ∷ ks) b = pick (eqb b (code_of k)) (gives k) (among ks b)

-- the command of a byte: "Twenty-two codes"; 6 with the byte for every other
abbrev pub command_of : ℕ → Outcome Command
command_of b = among commands b
