-- The decoder's state as it crosses to C: written to the bytes that keep it, and what it tells.
use Rattle.std.specs.Prelude.{List, [], ℕ, eqb, length}
use Rattle.refusal.specs.Outcome.{Outcome, gives, unless}
use Rattle.decoder.specs.declared.Decoder.{Decoder}
use Rattle.decoder.specs.State.{reset}
use Rattle.laws.specs.Choice.{flag}
use Rattle.stream.specs.State.{is_state, state_of, encoded}

-- a state that is written to the lent bytes; 20 where they are not fourteen
abbrev pub state_write : Decoder → List ℕ → Outcome (List ℕ)
state_write d bytes = unless (eqb (length bytes) 14) 20 [] (gives (encoded d))

-- a reset takes every content of fourteen bytes
abbrev pub reset_write : List ℕ → Outcome (List ℕ)
reset_write bytes = state_write (reset (state_of bytes)) bytes

-- is a frame open? 20 for bytes that are no state
abbrev pub open_of : List ℕ → Outcome ℕ
open_of bytes = unless (is_state bytes) 20 [] (gives (flag (state_of bytes).in_sysex))
