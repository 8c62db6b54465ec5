-- Channel messages: what they are on the wire, and what three bytes mean.
use Rattle.std.specs.Prelude.{Bool, ◌&&◌, List, [], ◌∷◌, ℕ, ◌+◌, ◌*◌, ◌/◌, ◌%◌, leb, eqb, None, Option, Some}
use Rattle.laws.specs.Choice.{pick}
use Rattle.refusal.specs.Outcome.{Outcome, with_room}
use Rattle.wire.specs.declared.Channel.{Channel}
use Rattle.wire.specs.Channel.{when_channel}
use Rattle.wire.specs.Status.{data_length, is_channel_status}
use Rattle.wire.specs.declared.channel_message.ChannelMessage.{ChannelMessage}
use Rattle.wire.specs.declared.channel_message.ChannelMessage.TheVariants as m

-- how many data bytes follow a status byte, asked of channel status bytes alone
abbrev pub channel_data_length : ℕ → Option ℕ
channel_data_length b = pick (is_channel_status b) (Some (data_length b)) None

-- MIDI 1.0: the high four bits of each message's status byte
abbrev pub status_nibble : ChannelMessage → ℕ
status_nibble (m.NoteOff k v) = 0x80
status_nibble (m.NoteOn k v) = 0x90
status_nibble (m.PolyKeyPressure k p) = 0xA0
status_nibble (m.ControlChange n v) = 0xB0
status_nibble (m.ProgramChange p) = 0xC0
status_nibble (m.ChannelPressure p) = 0xD0
status_nibble (m.PitchBend v) = 0xE0

-- the data bytes: "keeps the low seven bits of data and fourteen of a bend, low seven first"
abbrev pub data_bytes : ChannelMessage → List ℕ
data_bytes (m.NoteOff k v) = k % 128 ∷ v % 128 ∷ []
data_bytes (m.NoteOn k v) = k % 128 ∷ v % 128 ∷ []
data_bytes (m.PolyKeyPressure k p) = k % 128 ∷ p % 128 ∷ []
data_bytes (m.ControlChange n v) = n % 128 ∷ v % 128 ∷ []
data_bytes (m.ProgramChange p) = p % 128 ∷ []
data_bytes (m.ChannelPressure p) = p % 128 ∷ []
data_bytes (m.PitchBend v) = v % 128 ∷ v / 128 % 128 ∷ []

-- the message's bytes on a channel: its status byte, then its data
abbrev pub channel_bytes : Channel → ChannelMessage → List ℕ
channel_bytes c m = (status_nibble m + c.0) ∷ data_bytes m

-- the writer: 17, then 14
abbrev pub channel_write : Channel → ChannelMessage → ℕ → Outcome (List ℕ)
channel_write c m room = when_channel c.0 (with_room room (channel_bytes c m))

-- what a status byte and its data mean; the data's top bits are ignored, and of one-byte messages the second byte too
abbrev pub channel_message : ℕ → ℕ → ℕ → Option ChannelMessage
channel_message status first second =
    pick (eqb (status / 16) 0x8) (Some (m.NoteOff (first % 128) (second % 128)))
    (pick (eqb (status / 16) 0x9) (Some (m.NoteOn (first % 128) (second % 128)))
    (pick (eqb (status / 16) 0xA) (Some (m.PolyKeyPressure (first % 128) (second % 128)))
    (pick (eqb (status / 16) 0xB) (Some (m.ControlChange (first % 128) (second % 128)))
    (pick (eqb (status / 16) 0xC) (Some (m.ProgramChange (first % 128)))
    (pick (eqb (status / 16) 0xD) (Some (m.ChannelPressure (first % 128)))
    (pick (eqb (status / 16) 0xE) (Some (m.PitchBend (first % 128 + 128 * (second % 128)))) None))))))

-- a channel message by its status nibble (80, 90 .. E0) and two numbers: a bend is the first of them whole, every other message has
-- the first's low byte and the second
abbrev pub channel_kind : ℕ → ℕ → ℕ → Option ChannelMessage
channel_kind nibble a b =
    pick (eqb nibble 0x80) (Some (m.NoteOff (a % 256) b))
    (pick (eqb nibble 0x90) (Some (m.NoteOn (a % 256) b))
    (pick (eqb nibble 0xA0) (Some (m.PolyKeyPressure (a % 256) b))
    (pick (eqb nibble 0xB0) (Some (m.ControlChange (a % 256) b))
    (pick (eqb nibble 0xC0) (Some (m.ProgramChange (a % 256)))
    (pick (eqb nibble 0xD0) (Some (m.ChannelPressure (a % 256)))
    (pick (eqb nibble 0xE0) (Some (m.PitchBend a)) None))))))

-- "in range": data to 127, a bend to 16,383
abbrev pub message_in_range : ChannelMessage → Bool
message_in_range (m.NoteOff k v) = leb k 127 && leb v 127
message_in_range (m.NoteOn k v) = leb k 127 && leb v 127
message_in_range (m.PolyKeyPressure k p) = leb k 127 && leb p 127
message_in_range (m.ControlChange n v) = leb n 127 && leb v 127
message_in_range (m.ProgramChange p) = leb p 127
message_in_range (m.ChannelPressure p) = leb p 127
message_in_range (m.PitchBend v) = leb v 16383
