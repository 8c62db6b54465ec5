-- Eight bytes as one number.
use Rattle.std.specs.Prelude.{List, ℕ, ◌+◌, ◌*◌, ◌/◌, ◌%◌, ◌^◌, get_or, set}

-- eight bytes as one number, the first lowest
abbrev pub word : ℕ → ℕ → ℕ → ℕ → ℕ → ℕ → ℕ → ℕ → ℕ
word a b c d e f g h =
    a + b * 0x100 + c * 0x1_0000 + d * 0x100_0000 + e * 0x1_0000_0000 + f * 0x100_0000_0000 + g * 0x1_0000_0000_0000
    + h * 0x100_0000_0000_0000

-- the eight bytes from a place on as one number
abbrev pub word_at : List ℕ → ℕ → ℕ
word_at l i = word (get_or l i 0) (get_or l (i + 1) 0) (get_or l (i + 2) 0) (get_or l (i + 3) 0) (get_or l (i + 4) 0) (get_or l (i + 5) 0) (get_or l (i + 6) 0) (get_or l (i + 7) 0)

-- a list with the eight bytes of a number stored from a place on
abbrev pub put_word : ℕ → List ℕ → ℕ → List ℕ
put_word w l i =
    set (set (set (set (set (set (set (set l i (w % 256)) (i + 1) (w / 0x100 % 256)) (i + 2) (w / 0x1_0000 % 256)) (i + 3) (w / 0x100_0000 % 256))
    (i + 4) (w / 0x1_0000_0000 % 256)) (i + 5) (w / 0x100_0000_0000 % 256)) (i + 6) (w / 0x1_0000_0000_0000 % 256)) (i + 7) (w / 0x100_0000_0000_0000 % 256)

-- byte k of a number, the lowest first
abbrev pub octet : ℕ → ℕ → ℕ
octet w k = w / 2 ^ (8 * k) % 256
