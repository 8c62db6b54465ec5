-- What the bytes that arrived ahead of a byte say about it. They are listed latest first.
use Rattle.std.specs.Prelude.{Bool, ◌&&◌, List, [], ◌∷◌, ◌++◌, ℕ, ltb, eqb, length}
use Rattle.laws.specs.Choice.{pick}
use Rattle.decoder.specs.State.{limit}

-- the bytes ahead, latest first, once these have arrived too
abbrev pub past_after : List ℕ → List ℕ → List ℕ
past_after past [] = past
past_after past (b ∷ bs) = past_after (b ∷ past) bs

-- the last status byte 80 to F7 among the bytes ahead; 0, which is no status byte, where there is none
abbrev pub last_status : List ℕ → ℕ
last_status [] = 0
last_status (b ∷ past) = pick (ltb b 0x80) (last_status past) (pick (ltb b 0xF8) b (last_status past))

-- the bytes 00 to 7F that came after it, in the order in which they came
abbrev pub data_since : List ℕ → List ℕ
data_since [] = []
data_since (b ∷ past) = pick (ltb b 0x80) (data_since past ++ (b ∷ [])) (pick (ltb b 0xF8) [] (data_since past))

-- a frame that began with the last status byte takes another byte
abbrev pub is_open : ℕ → List ℕ → Bool
is_open status bytes = eqb status 0xF0 && ltb (length bytes) limit

-- document 01's "open at a byte": the last status byte ahead of it is F0, and fewer data bytes than the limit came between
abbrev pub open_at : List ℕ → Bool
open_at past = is_open (last_status past) (data_since past)
