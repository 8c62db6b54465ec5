-- Document 01's table of accepted run lengths, as it is printed: stretches of lengths from the first to the last, dump by dump.
use Rattle.std.specs.Prelude.{Bool, false, ◌&&◌, ◌||◌, not, List, [], ◌∷◌, ℕ, ◌%◌, leb, eqb}
use Rattle.laws.specs.Choice.{pick}
use Rattle.command.specs.declared.Command.{Command}
use Rattle.command.specs.declared.Command.TheVariants as k

-- the lengths from the first number to the second, both counted; or all that are not 1 mod 8
pub data Stretch : Type 0 where
  lengths : ℕ → ℕ → Stretch
  not1mod8 : Stretch

-- does a length stand in one of the stretches?
abbrev pub listed : List Stretch → ℕ → Bool
listed [] n = false
listed (lengths a b ∷ rest) n = (leb a n && leb n b) || listed rest n
listed (not1mod8 ∷ rest) n = not (eqb (n % 8) 1) || listed rest n

-- program, edit, v 7 (raw 245)
abbrev pub programs7 : List Stretch
programs7 = lengths 280 280 ∷ lengths 282 287 ∷ []

-- program, edit, v 6 (raw 242)
abbrev pub programs6 : List Stretch
programs6 = lengths 277 280 ∷ lengths 282 284 ∷ []

-- global (45)
abbrev pub globals : List Stretch
globals = lengths 52 56 ∷ lengths 58 59 ∷ []

-- bank names (2,048)
abbrev pub bank_names : List Stretch
bank_names = lengths 2341 2344 ∷ lengths 2346 2348 ∷ []

-- one name (16)
abbrev pub one_name : List Stretch
one_name = lengths 19 24 ∷ lengths 26 26 ∷ []

-- chord (26)
abbrev pub chords : List Stretch
chords = lengths 30 32 ∷ lengths 34 37 ∷ []

-- poly chord (512)
abbrev pub poly_chords : List Stretch
poly_chords = lengths 586 592 ∷ []

-- "Pattern, after v: 75-80 or 82 bytes mean no pattern number"
abbrev pub pattern_alone : List Stretch
pattern_alone = lengths 75 80 ∷ lengths 82 82 ∷ []

-- "81 or 83 mean one"
abbrev pub pattern_numbered : List Stretch
pattern_numbered = lengths 81 81 ∷ lengths 83 83 ∷ []

-- calibration (any): "not 1 mod 8"
abbrev pub calibrations : List Stretch
calibrations = not1mod8 ∷ []

-- a command without a run: no byte
abbrev pub no_run : List Stretch
no_run = lengths 0 0 ∷ []

-- each command's row, by its version and, for a pattern, by whether it has a number. A pattern's lengths are those of all that stands after v,
-- every other row's those of the run
abbrev pub lengths_of : Command → ℕ → Bool → List Stretch
lengths_of k.ProgramDumpResponse v numbered = pick (eqb v 6) programs6 programs7
lengths_of k.EditBufferDumpResponse v numbered = pick (eqb v 6) programs6 programs7
lengths_of k.GlobalParameterDumpResponse v numbered = globals
lengths_of k.BankProgramNamesDumpResponse v numbered = bank_names
lengths_of k.SingleProgramNameDumpResponse v numbered = one_name
lengths_of k.ChordMemoryDumpResponse v numbered = chords
lengths_of k.PolyChordMemoryDumpResponse v numbered = poly_chords
lengths_of k.CalibrationDataDumpResponse v numbered = calibrations
lengths_of k.UserPatternDumpResponse v numbered = pick numbered pattern_numbered pattern_alone
lengths_of k.ControlAppNotifyRequest v numbered = no_run
lengths_of k.ProgramDumpRequest v numbered = no_run
lengths_of k.EditBufferDumpRequest v numbered = no_run
lengths_of k.GlobalParameterDumpRequest v numbered = no_run
lengths_of k.SingleUserPatternDumpRequest v numbered = no_run
lengths_of k.ProgramBankDumpRequest v numbered = no_run
lengths_of k.BankProgramNamesDumpRequest v numbered = no_run
lengths_of k.SingleProgramNameDumpRequest v numbered = no_run
lengths_of k.EditBufferPatternDumpRequest v numbered = no_run
lengths_of k.ControlAppNotifyResponse v numbered = no_run
lengths_of k.CalibrationDataDumpRequest v numbered = no_run
lengths_of k.ChordMemoryDumpRequest v numbered = no_run
lengths_of k.PolyChordMemoryDumpRequest v numbered = no_run
