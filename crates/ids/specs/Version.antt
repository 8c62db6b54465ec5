-- The protocol version of document 01, "protocol version 6 or 7", and the raw length that hangs on it.
use Rattle.std.specs.Prelude.{◌||◌, [], ◌∷◌, ℕ, eqb}
use Rattle.laws.specs.Choice.{pick}
use Rattle.refusal.specs.Outcome.{Outcome, gives, unless}
use Rattle.ids.specs.declared.version.ProtocolVersion.{ProtocolVersion}

-- "protocol version 6 or 7"; 8 with the byte
abbrev pub version_of : ℕ → Outcome ProtocolVersion
version_of n = unless (eqb n 6 || eqb n 7) 8 (n ∷ []) (gives (record { 0 = n }))

-- program and edit buffer: 242 raw bytes in version 6, else 245. (A version made by hand counts as 7, as in the Rust.)
abbrev pub program_data_length : ℕ → ℕ
program_data_length n = pick (eqb n 6) 242 245
