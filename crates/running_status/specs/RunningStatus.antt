-- Running status on the way out (document 02, order 2): what the writer writes of a message, the state behind it, and what it refuses.
use Rattle.std.specs.Prelude.{◌≡◌, Bool, true, false, List, [], ◌∷◌, ℕ, ◌+◌, eqb, leb, length, drop, None, Option, Some, Result}
use Rattle.laws.specs.Choice.{pick}
use Rattle.refusal.specs.declared.Refusal.{Refusal}
use Rattle.refusal.specs.Outcome.{Outcome, gives, unless, and_then, answered, with_room, after}
use Rattle.wire.specs.declared.real_time.Realtime.{Realtime}
use Rattle.wire.specs.Channel.{when_channel}
use Rattle.wire.specs.Status.{is_channel_status}
use Rattle.wire.specs.ChannelMessage.{status_nibble}
use Rattle.wire.specs.SystemCommon.{common, when_common}
use Rattle.wire.specs.RealTime.{realtime_byte}
use Rattle.decoder.specs.State.{limit}
use Rattle.framing.specs.Framing.{body, when_framed, when_seven_bit}
use Rattle.damage.specs.Sent.{Message, Voice, Common, Frame, bytes_of}
use Rattle.running_status.specs.declared.Outgoing.{Outgoing}
use Rattle.running_status.specs.declared.Outgoing.TheVariants as o
use Rattle.running_status.specs.declared.Emitted.{Emitted}

-- a state of the writer: none, or a channel status byte. 20 for one "neither none nor 80 to EF"
abbrev pub is_running : Option ℕ → Bool
is_running None = true
is_running (Some b) = is_channel_status b

-- "one message after another": a channel, common or frame message, or a real-time byte that a record names
pub data Item : Type 0 where
  OfMessage : Message → Item
  OfRealtime : Realtime → Item

-- "It omits the status byte of a channel message equal to the running status at that point"
abbrev pub omits : Option ℕ → Message → Bool
omits None m = false
omits (Some b) (Voice c m) = eqb b (status_nibble m + c.0)
omits (Some b) (Common m) = false
omits (Some b) (Frame xs) = false

-- what is written of a message: all its bytes, or all but its status byte
abbrev pub shortened : Option ℕ → Message → List ℕ
shortened st m = pick (omits st m) (drop 1 (bytes_of m)) (bytes_of m)

-- the running status behind a message: its own status byte. "A frame or a system common message clears that status"
abbrev pub running_after : Message → Option ℕ
running_after (Voice c m) = Some (status_nibble m + c.0)
running_after (Common m) = None
running_after (Frame xs) = None

-- what is written of whatever comes; of a real-time message its byte
abbrev pub item_bytes : Option ℕ → Item → List ℕ
item_bytes st (OfMessage m) = shortened st m
item_bytes st (OfRealtime x) = realtime_byte x ∷ []

-- the state behind whatever comes: a frame or a system common message clears it, "and a real-time byte does not"
abbrev pub state_behind : Option ℕ → Item → Option ℕ
state_behind st (OfMessage m) = running_after m
state_behind st (OfRealtime x) = st

-- the message that is no frame, as one of these
abbrev pub item_of : Outgoing → Item
item_of (o.Channel c m) = OfMessage (Voice c m)
item_of (o.Common k v) = OfMessage (Common (common k v))
item_of (o.Realtime x) = OfRealtime x

-- "then 17 or 21": 17 for a channel message, 21 for a system common one, neither for a real-time one
abbrev pub when_item : {A : Type 0} → Outgoing → Outcome A → Outcome A
when_item (o.Channel c m) next = when_channel c.0 next
when_item (o.Common k v) next = when_common k v next
when_item (o.Realtime x) next = next

-- a message that is no frame: 20, then 17 or 21, then 14
abbrev pub message_out : Option ℕ → Outgoing → ℕ → Outcome (List ℕ)
message_out st m room = unless (is_running st) 20 [] (when_item m (with_room room (item_bytes st (item_of m))))

-- "for a frame 1, 2, then 19 beyond the frame limit", with the limit
abbrev pub when_frame : {A : Type 0} → List ℕ → Outcome A → Outcome A
when_frame frame next = when_framed frame (when_seven_bit (body frame) (unless (leb (length frame) limit) 19 (limit ∷ []) next))

-- "A frame is given as its bytes from F0 to F7", and written so: 20, then 1, 2, 19, then 14
abbrev pub frame_out : Option ℕ → List ℕ → ℕ → Outcome (List ℕ)
frame_out st frame room = unless (is_running st) 20 [] (when_frame frame (with_room room frame))

-- what a call is handed: a message that is no frame, or a frame's bytes
pub data Handed : Type 0 where
  plain : Outgoing → Handed
  frame_bytes : List ℕ → Handed

-- the message that a call is handed
abbrev pub item_handed : Handed → Item
item_handed (plain m) = item_of m
item_handed (frame_bytes bytes) = OfMessage (Frame (body bytes))

-- what a call comes to, by the room of the buffer that it is lent
abbrev pub handed_out : Option ℕ → Handed → ℕ → Outcome (List ℕ)
handed_out st (plain m) room = message_out st m room
handed_out st (frame_bytes bytes) room = frame_out st bytes room

-- how many bytes a call wrote, with the state behind them; or its refusal, and no state
abbrev pub emitted_of : Outcome (List ℕ) → Option ℕ → Outcome Emitted
emitted_of o next = and_then o (λ (bytes : List ℕ). gives (record { count = length bytes; state = next }))

-- the whole of what a call does with what it is handed: its answer, and every byte of the lent buffer afterwards
pub record Emits (st : Option ℕ) (x : Handed) (answer : Result Emitted Refusal) (before afterwards : List ℕ) : Type 0 where
  pub answers : answered answer ≡ emitted_of (handed_out st x (length before)) (state_behind st (item_handed x))
  pub leaves : afterwards ≡ after (handed_out st x (length before)) before
