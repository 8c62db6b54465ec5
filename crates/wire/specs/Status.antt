-- How many data bytes follow a status byte, as MIDI 1.0 lists them.
use Rattle.std.specs.Prelude.{ℕ, ltb, eqb, leb, Bool, ◌&&◌}
use Rattle.laws.specs.Choice.{pick}

-- note off, note on, key pressure and control change (80 to BF): 2; program change and channel pressure (C0 to DF): 1;
-- pitch bend (E0 to EF): 2; F1: 1; F2: 2; F3: 1. Every other of the 256 values takes none: a data byte is no status, a frame
-- has no fixed length, F4 and F5 are undefined, F6, F7 and real-time stand alone
unfoldable pub data_length : ℕ → ℕ
data_length b =
    pick (ltb b 0x80) 0
    (pick (ltb b 0xC0) 2
    (pick (ltb b 0xE0) 1
    (pick (ltb b 0xF0) 2
    (pick (eqb b 0xF1) 1
    (pick (eqb b 0xF2) 2
    (pick (eqb b 0xF3) 1 0))))))

-- a channel status byte: 80 to EF
abbrev pub is_channel_status : ℕ → Bool
is_channel_status b = leb 0x80 b && ltb b 0xF0
