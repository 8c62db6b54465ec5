-- The decoder's state: the frame limit, which states are sound, the fresh state, and what a reset leaves.
use Rattle.std.specs.Prelude.{Bool, true, false, ◌&&◌, ◌||◌, ℕ, ltb, leb, eqb, None, Option, Some}
use Rattle.laws.specs.Choice.{pick}
use Rattle.wire.specs.Status.{data_length}
use Rattle.decoder.specs.declared.Decoder.{Decoder}

-- the frame limit: the longest frame that is kept, F0 and F7 counted
unfoldable pub limit : ℕ
limit = 2354

-- no status byte in force
abbrev pub no_status : Option ℕ → Bool
no_status None = true
no_status (Some b) = false

-- a closed state's status and pending data: no status and nothing pending; or a status that takes data (80 to EF, F1 to F3)
-- with nothing pending, or with one byte of at most 127 pending under a status that takes two (80 to BF, E0 to EF, F2)
abbrev pub waits_soundly : Option ℕ → ℕ → ℕ → Bool
waits_soundly None have data0 = eqb have 0
waits_soundly (Some b) have data0 = ltb 0 (data_length b) && (eqb have 0 || (eqb have 1 && (leb data0 127 && eqb (data_length b) 2)))

-- document 01's "sound": an open frame has 1 to the limit's bytes, no status and nothing pending; a closed one has 0 bytes
abbrev pub sound : Decoder → Bool
sound d =
    pick d.in_sysex
    (leb 1 d.len && (leb d.len limit && (no_status d.status && eqb d.have 0)))
    (eqb d.len 0 && waits_soundly d.status d.have d.data0)

-- no open frame, no status, nothing pending; the data bytes keep their values
abbrev pub cleared : Decoder → Decoder
cleared d = record { in_sysex = false; len = 0; status = None; have = 0; data0 = d.data0; data1 = d.data1 }

-- a state that has seen nothing
abbrev pub fresh : Decoder
fresh = record { in_sysex = false; len = 0; status = None; have = 0; data0 = 0; data1 = 0 }

-- reset "closes the frame and clears status and pending data", whatever the state
abbrev pub reset : Decoder → Decoder
reset d = cleared d
