-- How far data bytes go.
use Rattle.std.specs.Prelude.{Bool, List, [], ◌∷◌, ℕ, suc, ◌+◌, ◌*◌, ◌/◌, ltb, leb, length, get_or}
use Rattle.laws.specs.Choice.{pick}

-- how many data bytes (00 to 7F) stand ahead of the first other byte
unfoldable pub data_run : List ℕ → ℕ
data_run [] = 0
data_run (b ∷ bs) = pick (ltb b 0x80) (suc (data_run bs)) 0

-- the run goes to the end
abbrev pub all_data : List ℕ → Bool
all_data l = leb (length l) (data_run l)

-- the top bits of eight bytes, each where it stands in the number that they join to
abbrev pub top_bits : ℕ → ℕ → ℕ → ℕ → ℕ → ℕ → ℕ → ℕ → ℕ
top_bits a b c d e f g h =
    a / 128 * 0x80 + b / 128 * 0x8000 + c / 128 * 0x80_0000 + d / 128 * 0x8000_0000 + e / 128 * 0x80_0000_0000
    + f / 128 * 0x8000_0000_0000
    + g / 128 * 0x80_0000_0000_0000
    + h / 128 * 0x8000_0000_0000_0000

-- the top bits of the eight bytes from a place on
abbrev pub top_bits_at : List ℕ → ℕ → ℕ
top_bits_at l i =
    top_bits (get_or l i 0) (get_or l (i + 1) 0) (get_or l (i + 2) 0) (get_or l (i + 3) 0) (get_or l (i + 4) 0) (get_or l (i + 5) 0) (get_or l (i + 6) 0)
    (get_or l (i + 7) 0)
