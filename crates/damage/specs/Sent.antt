-- What a sender writes: messages, each with its own status byte, and real-time bytes anywhere among them.
use Rattle.std.specs.Prelude.{Bool, true, false, ◌&&◌, List, [], ◌∷◌, ◌++◌, map, ℕ, ◌≤◌, ltb, leb, length}
use Rattle.refusal.specs.Outcome.{gives}
use Rattle.wire.specs.declared.Channel.{Channel}
use Rattle.wire.specs.declared.channel_message.ChannelMessage.{ChannelMessage}
use Rattle.wire.specs.declared.system_common.SystemCommon.{SystemCommon}
use Rattle.wire.specs.ChannelMessage.{channel_bytes, message_in_range}
use Rattle.wire.specs.SystemCommon.{common_bytes, common_in_range}
use Rattle.wire.specs.RealTime.{realtime_of}
use Rattle.decoder.specs.State.{limit}
use Rattle.decoder.specs.Reports.{Event, channel, common, frame}
use Rattle.damage.specs.Reported.{Reported, heard_realtime}

-- a channel, common or frame message; a frame is given by its bytes between F0 and F7
pub data Message : Type 0 where
  Voice : Channel → ChannelMessage → Message
  Common : SystemCommon → Message
  Frame : List ℕ → Message

-- a message's bytes, its own status byte first: those that the writers of wire write; a frame's from F0 to F7
abbrev pub bytes_of : Message → List ℕ
bytes_of (Voice c m) = channel_bytes c m
bytes_of (Common m) = common_bytes m
bytes_of (Frame xs) = 0xF0 ∷ xs ++ (0xF7 ∷ [])

-- "then any bytes 00 to 7F": what a frame in range has between F0 and F7
abbrev pub seven_bit : List ℕ → Bool
seven_bit [] = true
seven_bit (x ∷ xs) = ltb x 0x80 && seven_bit xs

-- document 01's "in range": a channel below 16, data to 127, a bend or position to 16,383; a frame of bytes 00 to 7F
abbrev pub in_range : Message → Bool
in_range (Voice c m) = ltb c.0 16 && message_in_range m
in_range (Common m) = common_in_range m
in_range (Frame xs) = seven_bit xs

-- condition 3's messages: in range, and at most as long as the frame limit
abbrev pub sendable : Message → Bool
sendable m = in_range m && leb (length (bytes_of m)) limit

-- every message of a list is one of condition 3's; an empty list is allowed
abbrev pub all_sendable : List Message → Bool
all_sendable [] = true
all_sendable (m ∷ ms) = sendable m && all_sendable ms

-- what the message is reported as
abbrev pub event_of : Message → Event
event_of (Voice c m) = channel c m
event_of (Common m) = common m
event_of (Frame xs) = frame (bytes_of (Frame xs))

-- a sent byte: whether it is a message's own status byte, its first, and its intact reports
pub record Tag : Type 0 where
  pub byte : ℕ
  pub first : Bool
  pub intact : List Reported

-- "a message's last byte reports that message", every other of its bytes nothing
abbrev pub tags : Bool → Event → List ℕ → List Tag
tags first e [] = []
tags first e (b ∷ []) = record { byte = b; first = first; intact = gives e ∷ [] } ∷ []
tags first e (b ∷ c ∷ bs) = record { byte = b; first = first; intact = [] } ∷ tags false e (c ∷ bs)

-- a message's bytes, the first marked as such, with their intact reports
abbrev pub tagged : Message → List Tag
tagged m = tags true (event_of m) (bytes_of m)

-- a list of messages, one behind the other
abbrev pub all_tagged : List Message → List Tag
all_tagged [] = []
all_tagged (m ∷ ms) = tagged m ++ all_tagged ms

-- a real-time byte, which is no message's: "other than F9 and FD reports itself"
abbrev pub realtime_tag : ℕ → Tag
realtime_tag b = record { byte = b; first = false; intact = heard_realtime (realtime_of b) }

-- what is sent: the messages' bytes in their order, with real-time bytes put in anywhere
pub data Sent : List Tag → List Tag → Type 0 where
  nothing : Sent [] []
  own : {t : Tag} {ts us : List Tag} → Sent ts us → Sent (t ∷ ts) (t ∷ us)
  between : (b : ℕ) {ts us : List Tag} → 0xF8 ≤ b → Sent ts us → Sent ts (realtime_tag b ∷ us)

-- the bytes alone, as they go over the wire
abbrev pub bytes : List Tag → List ℕ
bytes ts = map (λ (t : Tag). t.byte) ts

-- the intact reports alone, byte by byte
abbrev pub intacts : List Tag → List (List Reported)
intacts ts = map (λ (t : Tag). t.intact) ts
