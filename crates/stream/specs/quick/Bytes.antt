-- A state's bytes as numbers, and the tests of bytes that the loops make.
use Rattle.std.specs.Prelude.{Bool, true, ◌&&◌, not, List, ℕ, ◌+◌, ◌*◌, ◌/◌, ◌%◌, leb, eqb, get_or, set, None, Some}
use Rattle.laws.specs.Choice.{pick}
use Rattle.decoder.specs.declared.Decoder.{Decoder}
use Rattle.decoder.specs.State.{limit, waits_soundly}
use Rattle.stream.specs.State.{status_flag, status_byte}

-- a byte that is a real-time message: F8, FA to FC, FE, FF
abbrev pub is_realtime : ℕ → Bool
is_realtime b = leb 0xF8 b && (not (eqb b 0xF9) && not (eqb b 0xFD))

-- four bytes from a place on as one number, low byte first
abbrev pub four_at : List ℕ → ℕ → ℕ
four_at l i = get_or l i 0 + 256 * get_or l (i + 1) 0 + 65_536 * get_or l (i + 2) 0 + 16_777_216 * get_or l (i + 3) 0

-- bytes 8 to 11 of a closed state as a number: the length's highest byte, which is 0, the status flag, the status, and how many data bytes are
-- pending
abbrev pub waiting_number : Decoder → ℕ
waiting_number d = 256 * status_flag d.status + 65_536 * status_byte d.status + 16_777_216 * d.have

-- the status in the number of what waits, 0 for none
abbrev pub status_in : ℕ → ℕ
status_in m = m / 65_536 % 256

-- the number of a status with nothing pending
abbrev pub held_number : ℕ → ℕ
held_number b = 256 + 65_536 * b

-- a state's bytes with the four bytes of a number stored behind the first eight
abbrev pub put_middle : ℕ → List ℕ → List ℕ
put_middle w l = set (set (set (set l 8 (w % 256)) 9 (w / 0x100 % 256)) 10 (w / 0x1_0000 % 256)) 11 (w / 0x100_0000 % 256)

-- a state's bytes with what waits stored: its number behind the first eight bytes, and the first data byte
abbrev pub put_waiting : ℕ → ℕ → List ℕ → List ℕ
put_waiting w a l = set (put_middle w l) 12 a

-- does the number of an open frame's first four bytes say its flag, and a length within the limit?
abbrev pub open_taken : ℕ → Bool
open_taken f = eqb (f % 256) 1 && (leb 1 (f / 256) && leb (f / 256) limit)

-- does the number of a closed state's middle say a status, with what may be pending under it?
abbrev pub waiting_taken : ℕ → ℕ → Bool
waiting_taken m a = eqb (m % 65_536) 256 && waits_soundly (Some (status_in m)) (m / 16_777_216) a

-- does a call take the state that these numbers say: its first four bytes, the next four, the next four, and the first data byte?
abbrev pub taken : ℕ → ℕ → ℕ → ℕ → Bool
taken f h m a = eqb h 0 && pick (eqb f 0) (pick (eqb m 0) true (waiting_taken m a)) (eqb m 0 && open_taken f)

-- an open frame of n bytes, with the data bytes that stand last in a state's bytes
abbrev pub open_state : ℕ → List ℕ → Decoder
open_state n l = record { in_sysex = true; len = n; status = None; have = 0; data0 = get_or l 12 0; data1 = get_or l 13 0 }
