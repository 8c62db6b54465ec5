-- The decoder's state as its host keeps it: fourteen bytes.
use Rattle.std.specs.Prelude.{Bool, ◌&&◌, ◌||◌, List, [], ◌∷◌, ℕ, ◌+◌, ◌*◌, ◌/◌, ◌%◌, leb, eqb, length, get_or, None, Option, Some}
use Rattle.laws.specs.Choice.{pick, flag}
use Rattle.decoder.specs.declared.Decoder.{Decoder}

-- the status flag and the status byte; with no status both are 0
abbrev pub status_flag : Option ℕ → ℕ
status_flag None = 0
status_flag (Some b) = 1

-- the status byte itself; a status 00, which is unsound, is told from none by the flag
abbrev pub status_byte : Option ℕ → ℕ
status_byte None = 0
status_byte (Some b) = b

-- a state's fourteen bytes
abbrev pub encoded : Decoder → List ℕ
encoded d =
    flag d.in_sysex
    ∷ d.len % 256 ∷ d.len / 0x100 % 256 ∷ d.len / 0x1_0000 % 256 ∷ d.len / 0x100_0000 % 256
    ∷ d.len / 0x1_0000_0000 % 256 ∷ d.len / 0x100_0000_0000 % 256 ∷ d.len / 0x1_0000_0000_0000 % 256 ∷ d.len / 0x100_0000_0000_0000 % 256
    ∷ status_flag d.status ∷ status_byte d.status ∷ d.have ∷ d.data0 ∷ d.data1 ∷ []

-- bytes that are a state's: fourteen, flags 0 or 1, and no status byte without its flag
abbrev pub is_state : List ℕ → Bool
is_state bytes =
    eqb (length bytes) 14
    && (leb (get_or bytes 0 0) 1 && (leb (get_or bytes 9 0) 1 && (eqb (get_or bytes 9 0) 1 || eqb (get_or bytes 10 0) 0)))

-- the frame's length so far, low byte first
abbrev pub state_length : List ℕ → ℕ
state_length bytes =
    (get_or bytes 1 0 + 256 * get_or bytes 2 0 + 65_536 * get_or bytes 3 0 + 16_777_216 * get_or bytes 4 0)
    + 4_294_967_296 * (get_or bytes 5 0 + 256 * get_or bytes 6 0 + 65_536 * get_or bytes 7 0 + 16_777_216 * get_or bytes 8 0)

-- the status that two bytes say: one where the flag is 1
abbrev pub status_of : ℕ → ℕ → Option ℕ
status_of given b = pick (eqb given 1) (Some b) None

-- the state that bytes say
abbrev pub state_of : List ℕ → Decoder
state_of bytes =
    record {
      in_sysex = eqb (get_or bytes 0 0) 1;
      len = state_length bytes;
      status = status_of (get_or bytes 9 0) (get_or bytes 10 0);
      have = get_or bytes 11 0;
      data0 = get_or
          bytes 12 0;
      data1 = get_or bytes 13 0;
    }
