-- The held keys as they cross to C: 256 bytes, 16 for each channel. Key k of channel c is bit k % 8 of byte 16 * c + k / 8.
use Rattle.std.specs.Prelude.{Bool, List, ℕ, ◌+◌, ◌*◌, ◌/◌, ◌%◌, get_or}
use Rattle.laws.specs.Tabulate.{tab}
use Rattle.held_keys.specs.HeldKeys.{bit, is_held}
use Rattle.held_keys.specs.Record.{word_of, record_of}

-- is a key held, as the bytes say?
abbrev pub held_in : List ℕ → ℕ → ℕ → Bool
held_in bytes c k = bit (get_or bytes (16 * c + k / 8) 0) (k % 8)

-- the record that the bytes say
abbrev pub keys_of : List ℕ → List (List ℕ)
keys_of bytes = record_of (held_in bytes)

-- a record's byte: eight keys of a channel, the lowest in the lowest bit
abbrev pub byte_of : List (List ℕ) → ℕ → ℕ
byte_of keys i = word_of (λ j. is_held keys (i / 16) (8 * (i % 16) + j)) 8

-- a record's bytes
unfoldable pub bytes_of_keys : List (List ℕ) → List ℕ
bytes_of_keys keys = tab (byte_of keys) 256
