-- The writer's state as a host keeps it between calls: two bytes.
use Rattle.std.specs.Prelude.{Bool, ◌&&◌, ◌||◌, List, [], ◌∷◌, ℕ, eqb, length, get_or, None, Option, Some}
use Rattle.laws.specs.Choice.{pick}
use Rattle.wire.specs.Status.{is_channel_status}

-- a state's bytes: 00 00 for none, else 01 and the status byte
abbrev pub running_bytes : Option ℕ → List ℕ
running_bytes None = 0 ∷ 0 ∷ []
running_bytes (Some b) = 1 ∷ b ∷ []

-- two bytes that are a state's: 00 00, or 01 and a byte 80 to EF. Any others get 20, as a state "neither none nor 80 to EF" does
abbrev pub says_running : List ℕ → Bool
says_running bytes =
    eqb (length bytes) 2
    && ((eqb (get_or bytes 0 0) 0 && eqb (get_or bytes 1 0) 0) || (eqb (get_or bytes 0 0) 1 && is_channel_status (get_or bytes 1 0)))

-- the state that two such bytes say
abbrev pub running_of : List ℕ → Option ℕ
running_of bytes = pick (eqb (get_or bytes 0 0) 0) None (Some (get_or bytes 1 0))
