-- Software versions: in one byte, and their order.
use Rattle.std.specs.Prelude.{Bool, ◌&&◌, ℕ, ◌+◌, ◌*◌, ◌/◌, ◌%◌, ltb, leb, eqb}
use Rattle.laws.specs.Choice.{pick}
use Rattle.inquiry.specs.declared.identity.Version.{Version}

-- "firmware (minor in the high four bits)"
abbrev pub firmware_of : ℕ → Version
firmware_of b = record { major = b % 16; minor = b / 16 }

-- "the writer masks firmware minor to three bits, major to four"
abbrev pub packed_of : Version → ℕ
packed_of v = 16 * (v.minor % 8) + v.major % 16

-- versions by major number, then minor
abbrev pub at_least : Version → ℕ → ℕ → Bool
at_least v major minor = pick (eqb v.major major) (leb minor v.minor) (ltb major v.major)

-- just this version
abbrev pub is_version : Version → ℕ → ℕ → Bool
is_version v major minor = eqb v.major major && eqb v.minor minor
