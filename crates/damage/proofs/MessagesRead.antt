-- Every in-range message is read whole, because its own status byte forgets what came before it and nothing in it is masked away.
use mathlib.Core.Path.{◌≡◌, refl, sym, ◌∙◌, ap, subst}
use mathlib.Core.Bool.{Bool, true, false}
use mathlib.Core.List.{List, [], ◌∷◌, ◌++◌, append_assoc}
use Prim.Native.Nat.{ℕ, ◌+◌, ◌/◌, ◌%◌, ◌≤◌, ◌<◌}
use native.Mathlib.Omega.{arith}
use lib.ListN.{length, get_or, drop, length-append}
use borrow.Author.Tests.{ltb-true, leb-true, lt-ltb, le-leb, ne_eqb}
use Rattle.laws.proofs.Tests.{split, both}
use Rattle.refusal.specs.Outcome.{gives}
use Rattle.wire.specs.Status.{data_length, is_channel_status}
use Rattle.wire.specs.declared.Channel.{Channel}
use Rattle.wire.specs.declared.channel_message.ChannelMessage.{ChannelMessage}
use Rattle.wire.specs.declared.channel_message.ChannelMessage.TheVariants as w
use Rattle.wire.specs.declared.system_common.SystemCommon.{SystemCommon}
use Rattle.wire.specs.declared.system_common.SystemCommon.TheVariants as y
use Rattle.wire.specs.ChannelMessage.{status_nibble, data_bytes}
use Rattle.wire.specs.SystemCommon.{common_bytes, common_message, common_in_range}
use Rattle.wire.proofs.channel_message.Bytes.{nibble_range}
use Rattle.wire.proofs.ReadBack.{channel_reads_back, data_length_of_channel, common_reads_back}
use Rattle.decoder.specs.declared.Class.{Class}
use Rattle.decoder.specs.declared.Class.TheVariants as k
use Rattle.decoder.specs.State.{limit}
use Rattle.decoder.specs.Step.{class_of}
use Rattle.decoder.specs.Reports.{Event, channel, common, frame}
use Rattle.decoder.proofs.Classes.{Range, class_is}
use Rattle.damage.specs.Open.{is_open}
use Rattle.damage.specs.Reported.{Reported}
use Rattle.damage.specs.History.{heard_common, message, heard_in, heard}
use Rattle.damage.specs.Sent.{Message, Voice, Common, Frame, bytes_of, seven_bit, sendable, all_sendable, event_of, Tag, tags, tagged, all_tagged}
use Rattle.damage.proofs.Ahead.{next_status, next_data}

-- from this last status byte and these data bytes since it, each of the tags reports what it has to
abbrev pub Reads : ℕ → List ℕ → List Tag → Type 0
Reads v xs [] = Unit {0}
Reads v xs (t ∷ ts) =
    (heard v xs t.byte ≡ t.intact) × Reads (next_status (class_of t.byte) v t.byte) (next_data (class_of t.byte) xs t.byte) ts

-- one byte, by its class
pub reads_as : (c : Class) (v : ℕ) (xs : List ℕ) (b : ℕ) (first : Bool) (intact : List Reported) (ts : List Tag) → Range c b → heard_in c v xs b ≡ intact
    → Reads (next_status c v b) (next_data c xs b) ts → Reads v xs (record { byte = b; first = first; intact = intact } ∷ ts)
unfolding heard
reads_as c v xs b first intact ts h e r = rw (class_is b c h) (e, r)

-- a byte that is not a message's last reports nothing
tags_more : (first : Bool) (e : Event) (b : ℕ) (bs : List ℕ)
    → tags first e (b ∷ bs ++ (0xF7 ∷ [])) ≡ record { byte = b; first = first; intact = [] } ∷ tags false e (bs ++ (0xF7 ∷ []))
tags_more first e b [] = refl
tags_more first e b (x ∷ bs) = refl

-- the channel is the status byte's low four bits
low_four : (c : ℕ) (m : ChannelMessage) → c < 16 → (status_nibble m + c) % 16 ≡ c
low_four c (w.NoteOff a b) h = omega arith
low_four c (w.NoteOn a b) h = omega arith
low_four c (w.PolyKeyPressure a b) h = omega arith
low_four c (w.ControlChange a b) h = omega arith
low_four c (w.ProgramChange a) h = omega arith
low_four c (w.ChannelPressure a) h = omega arith
low_four c (w.PitchBend a) h = omega arith

-- what is known of an in-range channel message
pub record Known (c : Channel) (m : ChannelMessage) : Type 0 where
  pub held : Range k.Held (status_nibble m + c.0)
  pub takes : data_length (status_nibble m + c.0) ≡ length (data_bytes m)
  pub means : message (status_nibble m + c.0) (get_or (data_bytes m) 0 0) (get_or (data_bytes m) 1 0) ≡ gives (channel c m) ∷ []

pub voice : (c : Channel) (m : ChannelMessage) → sendable (Voice c m) ≡ true → Known c m
unfolding message
voice c m ok =
    let fit = both _ _ (both _ _ ok).0 in
    let in-channel : c.0 < 16 = ltb-true _ _ fit.0 in
    let range = nibble_range m in
    record {
      held = (omega arith, omega arith, λ q. omega arith);
      takes = data_length_of_channel c.0 m in-channel;
      means = rw (channel_reads_back c.0 m in-channel fit.1) (ap (λ (n : ℕ). gives (channel (record { 0 = n }) m) ∷ []) (low_four c.0 m in-channel));
    }

-- how many data bytes the common statuses take
pub common_lengths : (data_length 0xF1 ≡ 1) × (data_length 0xF2 ≡ 2) × (data_length 0xF3 ≡ 1)
unfolding data_length
common_lengths = (refl, refl, refl)

-- a common message's data bytes mean it
common_means : (m : SystemCommon) → common_in_range m ≡ true
    → heard_common (common_message (get_or (common_bytes m) 0 0) (get_or (common_bytes m) 1 0) (get_or (common_bytes m) 2 0)) ≡ gives (common m) ∷ []
common_means m ok = rw (common_reads_back m ok)

-- what history holds behind a message: its own status byte and its data bytes; behind a frame F7
abbrev pub end_status : Message → ℕ
end_status (Voice c m) = status_nibble m + c.0
end_status (Common m) = get_or (common_bytes m) 0 0
end_status (Frame xs) = 0xF7

abbrev pub end_data : Message → List ℕ
end_data (Voice c m) = data_bytes m
end_data (Common m) = drop 1 (common_bytes m)
end_data (Frame xs) = []

module _ (v : ℕ) (xs : List ℕ) (closed : is_open v xs ≡ false) (rest : List Tag) where
  -- a status byte and one data byte
  one_data : (status a : ℕ) (e : Event) → Range k.Held status → data_length status ≡ 1 → a < 0x80 → message status a 0 ≡ gives e ∷ []
      → Reads status (a ∷ []) rest → Reads v xs (tags true e (status ∷ a ∷ []) ++ rest)
  one_data status a e h n small m after =
      reads_as k.Held v xs status true [] (tags false e (a ∷ []) ++ rest) h (rw closed)
      (reads_as k.Data status [] a false (gives e ∷ []) rest small
      (rw (ne_eqb status 0xF0 h.2, n) (split (is_channel_status status) (λ c. rw c m) (λ c. rw c m))) after)

  -- a status byte and two data bytes
  two_data : (status a b : ℕ) (e : Event) → Range k.Held status → data_length status ≡ 2 → a < 0x80 → b < 0x80 → message status a b ≡ gives e ∷ []
      → Reads status (a ∷ b ∷ []) rest → Reads v xs (tags true e (status ∷ a ∷ b ∷ []) ++ rest)
  two_data status a b e h n small less m after =
      reads_as k.Held v xs status true [] (tags false e (a ∷ b ∷ []) ++ rest) h (rw closed)
      (reads_as k.Data status [] a false [] (tags false e (b ∷ []) ++ rest) small
      (rw (ne_eqb status 0xF0 h.2, n) (split (is_channel_status status) (λ c. rw c) (λ c. rw c)))
      (reads_as k.Data status (a ∷ []) b false (gives e ∷ []) rest less
      (rw (ne_eqb status 0xF0 h.2, n) (split (is_channel_status status) (λ c. rw c m) (λ c. rw c m))) after))

  -- F6 alone
  tune : Reads 0xF6 [] rest → Reads v xs (tagged (Common y.TuneRequest) ++ rest)
  tune after = reads_as k.Tune v xs 0xF6 true (gives (common y.TuneRequest) ∷ []) rest refl (rw closed) after

  -- the frame's bytes so far, and those to come
  frame_data : (done todo : List ℕ) (e : Event) → e ≡ frame (0xF0 ∷ done ++ (todo ++ (0xF7 ∷ []))) → seven_bit todo ≡ true
      → length done + length todo + 2 ≤ limit → Reads 0xF7 [] rest → Reads 0xF0 done (tags false e (todo ++ (0xF7 ∷ [])) ++ rest)
  frame_data done [] e is small fits after =
      reads_as k.End 0xF0 done 0xF7 false (gives e ∷ []) rest refl
      (rw (lt-ltb (length done) limit (omega arith), le-leb (length done + 2) limit (omega arith), is)) after
  frame_data done (x ∷ todo) e is small fits after =
      let bits = both _ _ small in
      rw (tags_more false e x todo)
      (reads_as k.Data 0xF0 done x false [] (tags false e (todo ++ (0xF7 ∷ [])) ++ rest) (ltb-true _ _ bits.0)
      (rw (ne_eqb (length done + 1) limit (λ q. omega arith)))
      (frame_data (done ++ (x ∷ [])) todo e (is ∙ ap (λ (l : List ℕ). frame (0xF0 ∷ l)) (sym (append_assoc done (x ∷ []) (todo ++ (0xF7 ∷ []))))) bits.1
      (rw (length-append done (x ∷ [])) (omega arith)) after))

  frame_reads : (bytes : List ℕ) → sendable (Frame bytes) ≡ true → Reads 0xF7 [] rest → Reads v xs (tagged (Frame bytes) ++ rest)
  frame_reads bytes ok after =
      let fit = both _ _ ok in
      let short : length (bytes_of (Frame bytes)) ≤ limit = leb-true _ _ fit.1 in
      let e = event_of (Frame bytes) in
      rw (tags_more true e 0xF0 bytes)
      (reads_as k.Start v xs 0xF0 true [] (tags false e (bytes ++ (0xF7 ∷ [])) ++ rest) refl (rw closed)
      (frame_data [] bytes e refl fit.0 (omega (arith, length-append bytes (0xF7 ∷ []))) after))

  -- a channel message of two data bytes, and of one
  two : (c : Channel) (m : ChannelMessage) (a b : ℕ) → sendable (Voice c m) ≡ true → data_bytes m ≡ a ∷ b ∷ [] → a < 0x80 → b < 0x80
      → Reads (status_nibble m + c.0) (a ∷ b ∷ []) rest → Reads v xs (tags true (channel c m) ((status_nibble m + c.0) ∷ a ∷ b ∷ []) ++ rest)
  two c m a b ok is small less after =
      let f = voice c m ok in
      two_data (status_nibble m + c.0) a b (channel c m) f.held (f.takes ∙ ap length is) small less
      (subst (λ (l : List ℕ). message (status_nibble m + c.0) (get_or l 0 0) (get_or l 1 0) ≡ gives (channel c m) ∷ []) is f.means) after

  one : (c : Channel) (m : ChannelMessage) (a : ℕ) → sendable (Voice c m) ≡ true → data_bytes m ≡ a ∷ [] → a < 0x80
      → Reads (status_nibble m + c.0) (a ∷ []) rest → Reads v xs (tags true (channel c m) ((status_nibble m + c.0) ∷ a ∷ []) ++ rest)
  one c m a ok is small after =
      let f = voice c m ok in
      one_data (status_nibble m + c.0) a (channel c m) f.held (f.takes ∙ ap length is) small
      (subst (λ (l : List ℕ). message (status_nibble m + c.0) (get_or l 0 0) (get_or l 1 0) ≡ gives (channel c m) ∷ []) is f.means) after

  voice_reads : (c : Channel) (m : ChannelMessage) → sendable (Voice c m) ≡ true → Reads (end_status (Voice c m)) (end_data (Voice c m)) rest
      → Reads v xs (tagged (Voice c m) ++ rest)
  voice_reads c (w.NoteOff a b) ok after = two c (w.NoteOff a b) (a % 128) (b % 128) ok refl (omega arith) (omega arith) after
  voice_reads c (w.NoteOn a b) ok after = two c (w.NoteOn a b) (a % 128) (b % 128) ok refl (omega arith) (omega arith) after
  voice_reads c (w.PolyKeyPressure a b) ok after = two c (w.PolyKeyPressure a b) (a % 128) (b % 128) ok refl (omega arith) (omega arith) after
  voice_reads c (w.ControlChange a b) ok after = two c (w.ControlChange a b) (a % 128) (b % 128) ok refl (omega arith) (omega arith) after
  voice_reads c (w.ProgramChange a) ok after = one c (w.ProgramChange a) (a % 128) ok refl (omega arith) after
  voice_reads c (w.ChannelPressure a) ok after = one c (w.ChannelPressure a) (a % 128) ok refl (omega arith) after
  voice_reads c (w.PitchBend a) ok after = two c (w.PitchBend a) (a % 128) (a / 128 % 128) ok refl (omega arith) (omega arith) after

  common_reads : (m : SystemCommon) → sendable (Common m) ≡ true → Reads (end_status (Common m)) (end_data (Common m)) rest
      → Reads v xs (tagged (Common m) ++ rest)
  unfolding message
  common_reads (y.TimeCodeQuarterFrame a) ok after =
      let fit = (both _ _ ok).0 in
      let small : a ≤ 127 = leb-true _ _ fit in
      one_data 0xF1 a _ (omega arith, omega arith, λ q. omega arith) common_lengths.0 (omega arith) (common_means (y.TimeCodeQuarterFrame a) fit) after
  common_reads (y.SongPosition a) ok after =
      let fit = (both _ _ ok).0 in
      let small : a ≤ 16383 = leb-true _ _ fit in
      two_data 0xF2 (a % 128) (a / 128) _ (omega arith, omega arith, λ q. omega arith) common_lengths.1 (omega arith) (omega arith)
      (common_means (y.SongPosition a) fit) after
  common_reads (y.SongSelect a) ok after =
      let fit = (both _ _ ok).0 in
      let small : a ≤ 127 = leb-true _ _ fit in
      one_data 0xF3 a _ (omega arith, omega arith, λ q. omega arith) common_lengths.2 (omega arith) (common_means (y.SongSelect a) fit) after
  common_reads y.TuneRequest ok after = tune after

  -- a message is read whole, and what comes behind it from what it leaves
  pub message_reads : (m : Message) → sendable m ≡ true → Reads (end_status m) (end_data m) rest → Reads v xs (tagged m ++ rest)
  message_reads (Voice c m) ok after = voice_reads c m ok after
  message_reads (Common m) ok after = common_reads m ok after
  message_reads (Frame bytes) ok after = frame_reads bytes ok after

-- behind a message no frame is open
pub closed_behind : (m : Message) → sendable m ≡ true → is_open (end_status m) (end_data m) ≡ false
closed_behind (Voice c m) ok = let known = voice c m ok in rw (ne_eqb (status_nibble m + c.0) 0xF0 known.held.2)
closed_behind (Common (y.TimeCodeQuarterFrame a)) ok = refl
closed_behind (Common (y.SongPosition a)) ok = refl
closed_behind (Common (y.SongSelect a)) ok = refl
closed_behind (Common y.TuneRequest) ok = refl
closed_behind (Frame xs) ok = refl

-- from wherever no frame is open, a list of messages is read whole
pub messages_read : (ms : List Message) → all_sendable ms ≡ true → (v : ℕ) (xs : List ℕ) → is_open v xs ≡ false → Reads v xs (all_tagged ms)
messages_read [] ok v xs closed = tt
messages_read (m ∷ ms) ok v xs closed =
    let each = both _ _ ok in
    message_reads v xs closed (all_tagged ms) m each.0 (messages_read ms each.1 (end_status m) (end_data m) (closed_behind m each.0))
