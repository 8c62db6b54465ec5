-- The first bytes of three are a channel message's bytes, because each message has two or three of them.
use Prim.Native.Nat.{◌≤◌}
use native.Mathlib.Omega.{arith}
use lib.ListN.{length}
use Rattle.wire.specs.declared.channel_message.ChannelMessage.{ChannelMessage}
use Rattle.wire.specs.declared.channel_message.ChannelMessage.TheVariants as m
use Rattle.wire.specs.ChannelMessage.{status_nibble, data_bytes}

pub channel_length : (m : ChannelMessage) → (1 ≤ length (data_bytes m)) × (length (data_bytes m) ≤ 2)
channel_length (m.NoteOff k v) = omega arith
channel_length (m.NoteOn k v) = omega arith
channel_length (m.PolyKeyPressure k p) = omega arith
channel_length (m.ControlChange n v) = omega arith
channel_length (m.ProgramChange p) = omega arith
channel_length (m.ChannelPressure p) = omega arith
channel_length (m.PitchBend v) = omega arith

-- a status byte of a channel message is 80 to EF
pub nibble_range : (m : ChannelMessage) → (0x80 ≤ status_nibble m) × (status_nibble m ≤ 0xE0)
nibble_range (m.NoteOff k v) = omega arith
nibble_range (m.NoteOn k v) = omega arith
nibble_range (m.PolyKeyPressure k p) = omega arith
nibble_range (m.ControlChange n v) = omega arith
nibble_range (m.ProgramChange p) = omega arith
nibble_range (m.ChannelPressure p) = omega arith
nibble_range (m.PitchBend v) = omega arith
