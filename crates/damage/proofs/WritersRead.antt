-- What the writers of channel, common and real-time messages write, a fresh decoder reports as exactly that message, because the
-- bytes that they put at the buffer's front are the sent message's bytes.
use Rattle.std.specs.Prelude.{Ok}
use mathlib.Core.Path.{◌≡◌, refl, sym, ◌∙◌, ap, subst}
use mathlib.Core.Bool.{Bool, true, false}
use mathlib.Core.List.{List, [], ◌∷◌, append-nil}
use Prim.Native.Nat.{ℕ, ◌≤◌, ◌<◌}
use native.Mathlib.Omega.{arith}
use lib.Dec.{leb}
use lib.ListN.{length, take}
use lib.Seq.{take_at}
use borrow.Author.Tests.{lt-ltb, le-leb}
use Rattle.laws.proofs.Tests.{split}
use Rattle.refusal.specs.Outcome.{gives, Writes, with_room}
use Rattle.refusal.proofs.Given.{given_not_refused}
use Rattle.wire.specs.declared.Channel.{Channel}
use Rattle.wire.specs.declared.channel_message.ChannelMessage.{ChannelMessage}
use Rattle.wire.specs.declared.system_common.SystemCommon.{SystemCommon}
use Rattle.wire.specs.declared.system_common.SystemCommon.TheVariants as y
use Rattle.wire.specs.declared.system_common.CommonStatus.{CommonStatus}
use Rattle.wire.specs.declared.real_time.Realtime.{Realtime}
use Rattle.wire.specs.declared.real_time.Realtime.TheVariants as t
use Rattle.wire.specs.ChannelMessage.{channel_bytes, channel_write, message_in_range}
use Rattle.wire.specs.SystemCommon.{common, common_bytes, common_in_range, common_write}
use Rattle.wire.specs.RealTime.{realtime_byte, realtime_write}
use Rattle.wire.proofs.channel_message.Bytes.{channel_length}
use Rattle.wire.proofs.ReadBack.{realtime_reads_back}
use Rattle.decoder.specs.State.{limit, fresh}
use Rattle.decoder.specs.Reports.{Event, realtime}
use Rattle.decoder.proofs.Limit.{room_for_three}
use Rattle.damage.specs.Reported.{Reported}
use Rattle.damage.specs.History.{heard, meaning}
use Rattle.damage.specs.Sent.{Message, Voice, Common, bytes_of, sendable, event_of, Tag, tags, tagged, all_tagged, Sent, nothing, own, bytes, intacts}
use Rattle.damage.specs.Calls.{singly}
use Rattle.damage.proofs.HistoryIsStep.{cleared_matches, history_is_step}
use Rattle.damage.proofs.MessagesRead.{messages_read}
use Rattle.damage.proofs.Woven.{realtime_heard, woven}

-- a writer that accepts leaves its bytes at the buffer's front
written_bytes : (bs out later : List ℕ) (count : ℕ) → Writes (with_room (length out) bs) (Ok count) out later → take count later ≡ bs
written_bytes bs out later count w = split (leb (length bs) (length out)) fits refused_instead
  where
    fits : leb (length bs) (length out) ≡ true → take count later ≡ bs
    fits e =
        let all : gives count ≡ gives (length bs) = rw e at w.answers in
        let same : length bs ≡ count = cc in
        ap (take count) (rw e at w.leaves) ∙ take_at bs _ count same

    refused_instead : leb (length bs) (length out) ≡ false → take count later ≡ bs
    refused_instead e = absurd (given_not_refused count 14 _ (sym (rw e at w.answers)))

-- messages' bytes without real-time bytes among them are sent too
all_own : (ts : List Tag) → Sent ts ts
all_own [] = nothing
all_own (t ∷ ts) = own (all_own ts)

pub bytes_of_tags : (first : Bool) (e : Event) (bs : List ℕ) → bytes (tags first e bs) ≡ bs
bytes_of_tags first e [] = refl
bytes_of_tags first e (b ∷ []) = refl
bytes_of_tags first e (b ∷ x ∷ bs) = ap (λ (l : List ℕ). b ∷ l) (bytes_of_tags false e (x ∷ bs))

-- a real-time message's byte is F8 or above
pub realtime_from_f8 : (m : Realtime) → 0xF8 ≤ realtime_byte m
realtime_from_f8 t.Clock = omega arith
realtime_from_f8 t.Start = omega arith
realtime_from_f8 t.Continue = omega arith
realtime_from_f8 t.Stop = omega arith
realtime_from_f8 t.ActiveSensing = omega arith
realtime_from_f8 t.SystemReset = omega arith

-- a message alone: its last byte reports it, and no other byte anything
pub read_alone : (m : Message) → sendable m ≡ true → (store : List ℕ) → limit ≤ length store → singly fresh store (bytes_of m) ≡ intacts (tagged m)
read_alone m ok store room =
    history_is_step [] fresh store (bytes_of m) (cleared_matches fresh store room)
    ∙ ap (meaning []) (sym (ap bytes none ∙ bytes_of_tags true (event_of m) (bytes_of m)))
    ∙ woven (all_own (all_tagged (m ∷ []))) [] (messages_read (m ∷ []) (rw ok) 0 [] refl) ∙ ap intacts none
  where
    none : all_tagged (m ∷ []) ≡ tagged m
    none = append-nil (tagged m)

-- a writer that accepted: its count is n, and the buffer's first n bytes read as the message
module _ (store : List ℕ) (room : limit ≤ length store) (out later : List ℕ) (count : ℕ) where
  pub channel_writer_reads : (c : Channel) (m : ChannelMessage) → c.0 < 16 → message_in_range m ≡ true
      → Writes (channel_write c m (length out)) (Ok count) out later → singly fresh store (take count later) ≡ intacts (tagged (Voice c m))
  channel_writer_reads c m h ok w =
      ap (singly fresh store) (written_bytes (channel_bytes c m) out later count (subst (λ o. Writes o (Ok count) out later) same w))
      ∙ read_alone (Voice c m) (rw (lt-ltb c.0 16 h, ok, le-leb (length (channel_bytes c m)) limit short)) store room
    where
      same : channel_write c m (length out) ≡ with_room (length out) (channel_bytes c m)
      same = rw (lt-ltb c.0 16 h)

      short : length (channel_bytes c m) ≤ limit
      short = omega (arith, channel_length m, room_for_three)

  pub common_writer_reads : (s : CommonStatus) (v : ℕ) → common_in_range (common s v) ≡ true
      → Writes (common_write s v (length out)) (Ok count) out later → singly fresh store (take count later) ≡ intacts (tagged (Common (common s v)))
  common_writer_reads s v ok w =
      ap (singly fresh store) (written_bytes (common_bytes (common s v)) out later count (subst (λ o. Writes o (Ok count) out later) same w))
      ∙ read_alone (Common (common s v)) (rw (ok, le-leb (length (common_bytes (common s v))) limit (short (common s v)))) store room
    where
      same : common_write s v (length out) ≡ with_room (length out) (common_bytes (common s v))
      same = rw ok

      short : (m : SystemCommon) → length (common_bytes m) ≤ limit
      short (y.TimeCodeQuarterFrame a) = omega (arith, room_for_three)
      short (y.SongPosition a) = omega (arith, room_for_three)
      short (y.SongSelect a) = omega (arith, room_for_three)
      short y.TuneRequest = omega (arith, room_for_three)

  pub realtime_writer_reads : (m : Realtime) → Writes (realtime_write m (length out)) (Ok count) out later
      → singly fresh store (take count later) ≡ (gives (realtime m) ∷ []) ∷ []
  unfolding meaning
  realtime_writer_reads m w =
      ap (singly fresh store) (written_bytes (realtime_byte m ∷ []) out later count w)
      ∙ history_is_step [] fresh store (realtime_byte m ∷ []) (cleared_matches fresh store room) ∙ ap (λ (x : List Reported). x ∷ []) (itself m)
    where
      itself : (x : Realtime) → heard 0 [] (realtime_byte x) ≡ gives (realtime x) ∷ []
      itself x = realtime_heard 0 [] (realtime_byte x) (realtime_from_f8 x) ∙ rw (realtime_reads_back x)
