-- The small numbers of document 01: "Bank 0 to 7, program 0 to 127, pattern 0 to 31".
-- Each is read from a byte, and a byte out of range is refused with its number and the byte itself.
use Rattle.std.specs.Prelude.{[], ◌∷◌, ℕ, ltb}
use Rattle.refusal.specs.Outcome.{Outcome, gives, unless}
use Rattle.ids.specs.declared.bank.Bank.{Bank}
use Rattle.ids.specs.declared.program.ProgramNumber.{ProgramNumber}
use Rattle.ids.specs.declared.pattern.PatternNumber.{PatternNumber}

-- "Bank 0 to 7"; 9 with the byte
abbrev pub bank_of : ℕ → Outcome Bank
bank_of n = unless (ltb n 8) 9 (n ∷ []) (gives (record { 0 = n }))

-- "program 0 to 127"; 10 with the byte
abbrev pub program_of : ℕ → Outcome ProgramNumber
program_of n = unless (ltb n 128) 10 (n ∷ []) (gives (record { 0 = n }))

-- "pattern 0 to 31"; 11 with the byte
abbrev pub pattern_of : ℕ → Outcome PatternNumber
pattern_of n = unless (ltb n 32) 11 (n ∷ []) (gives (record { 0 = n }))
