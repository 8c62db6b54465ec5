-- The byte that reports a message was the last one missing of it, because a report names its status byte; and behind it nothing waits, so that the next
-- message lacks just what the writer writes of it.
use Rattle.std.specs.Prelude.{None, Option, Some}
use mathlib.Core.Path.{◌≡◌, refl, sym, ◌∙◌, ap, subst}
use mathlib.Core.Bool.{Bool, true, false}
use mathlib.Core.List.{List, [], ◌∷◌, ◌++◌}
use Prim.Native.Nat.{ℕ, ◌+◌, ◌-◌, ◌*◌, ◌%◌, ◌/◌, ◌≤◌, ◌<◌}
use native.Mathlib.Omega.{arith}
use lib.Dec.{ltb, leb, eqb}
use lib.ListN.{length, length-append}
use borrow.Author.Tests.{eqb-true, leb-true, lt-ltb, le-ltb, eq-eqb, ne_eqb, le-leb}
use Rattle.laws.specs.Choice.{pick}
use Rattle.laws.proofs.Tests.{by_test, split, both, true_is_not_false}
use Rattle.refusal.specs.Outcome.{gives}
use Rattle.wire.specs.declared.Channel.{Channel}
use Rattle.wire.specs.declared.channel_message.ChannelMessage.{ChannelMessage}
use Rattle.wire.specs.declared.system_common.SystemCommon.{SystemCommon}
use Rattle.wire.specs.declared.system_common.SystemCommon.TheVariants as y
use Rattle.wire.specs.declared.real_time.Realtime.{Realtime}
use Rattle.wire.specs.Status.{data_length, is_channel_status}
use Rattle.wire.specs.ChannelMessage.{status_nibble, data_bytes, channel_message}
use Rattle.wire.specs.SystemCommon.{common_message}
use Rattle.wire.specs.RealTime.{realtime_of}
use Rattle.wire.proofs.DataLength.{none_above}
use Rattle.decoder.specs.declared.Class.{Class}
use Rattle.decoder.specs.declared.Class.TheVariants as k
use Rattle.decoder.specs.State.{limit}
use Rattle.decoder.specs.Reports.{Event, channel, common, frame}
use Rattle.decoder.proofs.Classes.{Range}
use Rattle.decoder.proofs.SoundKept.{at_most_two}
use Rattle.damage.specs.Open.{is_open}
use Rattle.damage.specs.Reported.{Reported, report19, heard_realtime}
use Rattle.damage.specs.History.{interruption, heard_common, heard_message, message, last_of, ends_message, heard_data, heard_in}
use Rattle.damage.specs.Sent.{Message, Voice, Common, Frame, sendable, event_of}
use Rattle.damage.proofs.Ahead.{next_status, next_data}
use Rattle.damage.proofs.MessagesRead.{common_lengths}
use Rattle.running_status.specs.RunningStatus.{shortened, running_after}
use Rattle.running_status.proofs.ChannelStatus.{left_over, channel_below, channel_fits, voice_status, voice_in_force}
use Rattle.running_status.proofs.Missing.{missing_once, common_byte, common_size, missing, frame_length, common_is_one_more, once_at_most}

-- whatever is said where 0 is 1
pub apart : {P : Type 0} → ◌≡◌ {A = ℕ} 0 1 → P
apart z = absurd (omega arith)

-- no report of a message where there is none
pub nothing_said : {P : Type 0} (e : Event) → ◌≡◌ {A = List Reported} [] (gives e ∷ []) → P
nothing_said e q = apart cc

-- report 19 is none of a message
pub too_long_said : {P : Type 0} (e : Event) → ◌≡◌ {A = List Reported} (report19 ∷ []) (gives e ∷ []) → P
too_long_said e q = apart cc

-- a status byte that only breaks off a frame reports no message
pub only_breaks_off : {P : Type 0} (t : Bool) (e : Event) → interruption t ≡ gives e ∷ [] → P
only_breaks_off true e q = apart cc
only_breaks_off false e q = apart cc

-- the kind of a status byte is the nibble of the channel message that it means
abbrev IsNibble : ℕ → Option ChannelMessage → Type 0
IsNibble v (Some x) = status_nibble x ≡ v / 16 * 16
IsNibble v None = Unit {0}

nibble_is : (v p q : ℕ) → IsNibble v (channel_message v p q)
nibble_is v p q =
    let P : Option ChannelMessage → Type 0 = λ (r : Option ChannelMessage). IsNibble v r in
    by_test P (eqb (v / 16) 0x8) _ _ (λ e. let h : v / 16 ≡ 0x8 = eqb-true _ _ e in omega arith)
    (λ f. by_test P (eqb (v / 16) 0x9) _ _ (λ e. let h : v / 16 ≡ 0x9 = eqb-true _ _ e in omega arith)
    (λ f. by_test P (eqb (v / 16) 0xA) _ _ (λ e. let h : v / 16 ≡ 0xA = eqb-true _ _ e in omega arith)
    (λ f. by_test P (eqb (v / 16) 0xB) _ _ (λ e. let h : v / 16 ≡ 0xB = eqb-true _ _ e in omega arith)
    (λ f. by_test P (eqb (v / 16) 0xC) _ _ (λ e. let h : v / 16 ≡ 0xC = eqb-true _ _ e in omega arith)
    (λ f. by_test P (eqb (v / 16) 0xD) _ _ (λ e. let h : v / 16 ≡ 0xD = eqb-true _ _ e in omega arith)
    (λ f. by_test P (eqb (v / 16) 0xE) _ _ (λ e. let h : v / 16 ≡ 0xE = eqb-true _ _ e in omega arith) (λ f. tt)))))))

-- a system common status byte is the one of the message that it means
abbrev IsCommonByte : ℕ → Option SystemCommon → Type 0
IsCommonByte v (Some x) = v ≡ common_byte x
IsCommonByte v None = Unit {0}

common_byte_is : (v p q : ℕ) → IsCommonByte v (common_message v p q)
common_byte_is v p q =
    let P : Option SystemCommon → Type 0 = λ (r : Option SystemCommon). IsCommonByte v r in
    by_test P (eqb v 0xF1) _ _ (λ e. eqb-true v 0xF1 e)
    (λ f. by_test P (eqb v 0xF2) _ _ (λ e. eqb-true v 0xF2 e)
    (λ f. by_test P (eqb v 0xF3) _ _ (λ e. eqb-true v 0xF3 e)
    (λ f. by_test P (eqb v 0xF6) _ _ (λ e. eqb-true v 0xF6 e) (λ f. tt))))

-- the status byte v is the message's own; of a frame it never is
abbrev OwnByte : ℕ → Message → Type 0
OwnByte v (Voice c m) = (v ≡ status_nibble m + c.0) × (c.0 < 16)
OwnByte v (Common m) = v ≡ common_byte m
OwnByte v (Frame ys) = ⊥

voice_own : (v : ℕ) (x : ChannelMessage) (m : Message) → status_nibble x ≡ v / 16 * 16
    → ◌≡◌ {A = List Reported} (gives (channel (record { 0 = v % 16 }) x) ∷ []) (gives (event_of m) ∷ []) → OwnByte v m
voice_own v x (Voice c z) h e =
    let same : x ≡ z = cc in
    let on : ◌≡◌ {A = Channel} (record { 0 = v % 16 }) c = cc in
    let low : v % 16 ≡ c.0 = ap (λ (d : Channel). d.0) on in
    let high : status_nibble z ≡ v / 16 * 16 = ap status_nibble (sym same) ∙ h in
    (omega arith, omega arith)
voice_own v x (Common z) h e = apart cc
voice_own v x (Frame ys) h e = apart cc

common_own : (v : ℕ) (x : SystemCommon) (m : Message) → v ≡ common_byte x
    → ◌≡◌ {A = List Reported} (gives (common x) ∷ []) (gives (event_of m) ∷ []) → OwnByte v m
common_own v x (Voice c z) h e = apart cc
common_own v x (Common z) h e = let same : x ≡ z = cc in h ∙ ap common_byte same
common_own v x (Frame ys) h e = apart cc

-- a report under a status byte is of a message whose own it is
message_own : (v p q : ℕ) (m : Message) → message v p q ≡ gives (event_of m) ∷ [] → OwnByte v m
unfolding message
message_own v p q m e = of_channel (channel_message v p q) (nibble_is v p q) e
  where
    of_common : (r : Option SystemCommon) → IsCommonByte v r → heard_common r ≡ gives (event_of m) ∷ [] → OwnByte v m
    of_common (Some x) h d = common_own v x m h d
    of_common None h d = nothing_said (event_of m) d

    of_channel : (r : Option ChannelMessage) → IsNibble v r → heard_message r v p q ≡ gives (event_of m) ∷ [] → OwnByte v m
    of_channel (Some x) h d = voice_own v x m h d
    of_channel None h d = of_common (common_message v p q) (common_byte_is v p q) d

-- behind a history nothing waits: what the next message lacks is what the writer writes of it
abbrev pub Settled : Option ℕ → ℕ → List ℕ → Type 0
Settled st v xs = (m : Message) → sendable m ≡ true → missing v xs m ≡ length (shortened st m)

-- a system common message has a status byte beyond EF, which takes its data, and it is no frame's
common_takes : (m : SystemCommon) → (0xF0 < common_byte m) × (data_length (common_byte m) ≡ common_size m)
common_takes (y.TimeCodeQuarterFrame a) = (omega arith, common_lengths.0)
common_takes (y.SongPosition a) = (omega arith, common_lengths.1)
common_takes (y.SongSelect a) = (omega arith, common_lengths.2)
common_takes y.TuneRequest = (omega arith, none_above 0xF6 (omega arith))

-- from F0 on there is no channel status
not_channel : (v : ℕ) → 0xF0 ≤ v → is_channel_status v ≡ false
not_channel v h = rw (le-leb 0x80 v (omega arith), le-ltb v 0xF0 h)

-- nothing in force: neither a channel status nor F0, and what a status that serves once takes has come
pub settled_without : (v : ℕ) (xs : List ℕ) → is_channel_status v ≡ false → (v ≡ 0xF0 → ⊥) → data_length v ≤ length xs → Settled None v xs
settled_without v xs plain start full (Voice c m) ok = rw (ne_eqb v (status_nibble m + c.0) other) (omega arith)
  where
    other : v ≡ status_nibble m + c.0 → ⊥
    other e = true_is_not_false (sym (voice_in_force c m (channel_fits c m ok)) ∙ ap is_channel_status (sym e) ∙ plain)
settled_without v xs plain start full (Common m) ok = served (common_byte m) (common_takes m).1 ∙ sym (common_is_one_more m)
  where
    served : (f : ℕ) → data_length f ≡ common_size m → missing_once (eqb v f) (common_size m) (length xs) ≡ 1 + common_size m
    served f takes =
        split (eqb v f)
        (λ (e : eqb v f ≡ true).
        let same : data_length v ≡ common_size m = ap data_length (eqb-true v f e) ∙ takes in
        rw (e, le-ltb (length xs) (common_size m) (omega arith)))
        (λ (e : eqb v f ≡ false). rw e)
settled_without v xs plain start full (Frame ys) ok = rw (ne_eqb v 0xF0 start) (sym (frame_length ys))

-- a channel status in force, and no data byte that waits for another
settled_running : (v : ℕ) (xs : List ℕ) → is_channel_status v ≡ true → left_over (data_length v) (length xs) ≡ 0 → Settled (Some v) v xs
settled_running v xs in-force none (Voice c m) ok =
    split (eqb v (status_nibble m + c.0))
    (λ (e : eqb v (status_nibble m + c.0) ≡ true).
    let same : data_length v ≡ length (data_bytes m) = ap data_length (eqb-true _ _ e) ∙ (voice_status c m (channel_fits c m ok)).2 in
    let no-part : left_over (length (data_bytes m)) (length xs) ≡ 0 = ap (λ (n : ℕ). left_over n (length xs)) (sym same) ∙ none in
    rw (e, no-part) (omega arith))
    (λ (e : eqb v (status_nibble m + c.0) ≡ false). rw e (omega arith))
settled_running v xs in-force none (Common m) ok =
    let below = channel_below v in-force in
    let above = (common_takes m).0 in
    rw (ne_eqb v (common_byte m) (λ e. omega arith)) (sym (common_is_one_more m))
settled_running v xs in-force none (Frame ys) ok = let below = channel_below v in-force in rw (ne_eqb v 0xF0 (λ e. omega arith)) (sym (frame_length ys))

-- what holds of the byte that reports a message: it was the last one missing, and what it leaves is settled
pub record LastMissing (c : Class) (v : ℕ) (xs : List ℕ) (b : ℕ) (m : Message) : Type 0 where
  pub last : missing v xs m ≤ 1
  pub after : Settled (running_after m) (next_status c v b) (next_data c xs b)

-- a data byte that ends a message of its status
module _ (v : ℕ) (xs : List ℕ) (b : ℕ) (end : ends_message v (data_length v) (length xs) ≡ true) where
  more : length (xs ++ (b ∷ [])) ≡ length xs + 1
  more = length-append xs (b ∷ [])

  ends_voice : (c : Channel) (m : ChannelMessage) → v ≡ status_nibble m + c.0 → c.0 < 16 → LastMissing k.Data v xs b (Voice c m)
  ends_voice c m e low =
      let in-force : is_channel_status v ≡ true = ap is_channel_status e ∙ voice_in_force c m low in
      let takes : data_length v ≡ length (data_bytes m) = ap data_length e ∙ (voice_status c m low).2 in
      let tested : pick (leb (data_length v) 1) true (eqb (length xs % 2) 1) ≡ true = rw in-force at end in
      record {
        last = rw (eq-eqb v (status_nibble m + c.0) e, sym takes) (few (leb (data_length v) 1) refl tested);
        after = subst (λ (n : ℕ). Settled (Some n) v (xs ++ (b ∷ []))) e
            (settled_running v (xs ++ (b ∷ [])) in-force (rw more (none (leb (data_length v) 1) refl tested)));
      }
    where
      two : data_length v ≤ 2
      two = at_most_two v

      few : (t : Bool) → leb (data_length v) 1 ≡ t → pick t true (eqb (length xs % 2) 1) ≡ true → data_length v - pick t 0 (length xs % 2) ≤ 1
      few true l q = omega (arith, leb-true (data_length v) 1 l)
      few false l q = let odd : length xs % 2 ≡ 1 = eqb-true (length xs % 2) 1 q in omega (arith, two)

      none : (t : Bool) → leb (data_length v) 1 ≡ t → pick t true (eqb (length xs % 2) 1) ≡ true → pick t 0 ((length xs + 1) % 2) ≡ 0
      none true l q = refl
      none false l q = let odd : length xs % 2 ≡ 1 = eqb-true (length xs % 2) 1 q in omega arith

  -- as many data bytes have come as a system common status takes
  ends_common : (m : SystemCommon) → v ≡ common_byte m → LastMissing k.Data v xs b (Common m)
  ends_common m e =
      let status = common_takes m in
      let above : 0xF0 < v = omega (arith, e, status.0) in
      let plain : is_channel_status v ≡ false = not_channel v (omega arith) in
      let takes : data_length v ≡ common_size m = ap data_length e ∙ status.1 in
      let full : length xs + 1 ≡ data_length v = eqb-true (length xs + 1) (data_length v) (rw plain at end) in
      record {
        last = rw (eq-eqb v (common_byte m) e, lt-ltb (length xs) (common_size m) (omega arith)) (omega arith);
        after = settled_without v (xs ++ (b ∷ [])) plain (λ q. omega arith) (omega (arith, more));
      }

  ends_own : (m : Message) → OwnByte v m → LastMissing k.Data v xs b m
  ends_own (Voice c m) h = ends_voice c m h.0 h.1
  ends_own (Common m) h = ends_common m h
  ends_own (Frame ys) h = absurd h

-- a data byte
last_data : (v : ℕ) (xs : List ℕ) (b : ℕ) (m : Message) → heard_in k.Data v xs b ≡ gives (event_of m) ∷ [] → LastMissing k.Data v xs b m
last_data v xs b m e = split (eqb v 0xF0) in_frame outside
  where
    in_frame : eqb v 0xF0 ≡ true → LastMissing k.Data v xs b m
    in_frame q = split (eqb (length xs + 1) limit) (λ l. too_long_said (event_of m) (rw (q, l) at e)) (λ l. nothing_said (event_of m) (rw (q, l) at e))

    at_end : ends_message v (data_length v) (length xs) ≡ true
        → pick (leb (data_length v) 1) (message v b 0) (message v (last_of xs) b) ≡ gives (event_of m) ∷ [] → LastMissing k.Data v xs b m
    at_end end r =
        split (leb (data_length v) 1)
        (λ l. ends_own v xs b end m (message_own v b 0 m (rw l at r)))
        (λ l. ends_own v xs b end m (message_own v (last_of xs) b m (rw l at r)))

    outside : eqb v 0xF0 ≡ false → LastMissing k.Data v xs b m
    outside q =
        let r : heard_data v xs b ≡ gives (event_of m) ∷ [] = rw q at e in
        split (ends_message v (data_length v) (length xs)) (λ l. at_end l (rw l at r)) (λ l. nothing_said (event_of m) (rw l at r))

-- behind F6 and F7 nothing is in force
settled_above : (b : ℕ) → 0xF4 ≤ b → Settled None b []
settled_above b h = settled_without b [] (not_channel b (omega arith)) (λ z. omega arith) (omega (arith, none_above b h))

-- F6
last_tune : (v : ℕ) (xs : List ℕ) (b : ℕ) (m : Message) → b ≡ 0xF6 → heard_in k.Tune v xs b ≡ gives (event_of m) ∷ [] → LastMissing k.Tune v xs b m
last_tune v xs b m f e = go (is_open v xs) m e
  where
    is_tune : (x : Message) → ◌≡◌ {A = List Reported} (gives (common y.TuneRequest) ∷ []) (gives (event_of x) ∷ []) → LastMissing k.Tune v xs b x
    is_tune (Voice c x) q = apart cc
    is_tune (Common x) q =
        let same : y.TuneRequest ≡ x = cc in
        record {
          last = subst (λ (z : SystemCommon). missing v xs (Common z) ≤ 1) same (once_at_most (eqb v 0xF6) 0 (length xs));
          after = settled_above b (omega arith);
        }
    is_tune (Frame ys) q = apart cc

    go : (t : Bool) (x : Message) → interruption t ++ (gives (common y.TuneRequest) ∷ []) ≡ gives (event_of x) ∷ [] → LastMissing k.Tune v xs b x
    go true x q = apart cc
    go false x q = is_tune x q

-- F7: a frame is as long as the bytes between F0 and F7
last_end : (v : ℕ) (xs : List ℕ) (b : ℕ) (m : Message) → b ≡ 0xF7 → heard_in k.End v xs b ≡ gives (event_of m) ∷ [] → LastMissing k.End v xs b m
last_end v xs b m f e = split (is_open v xs) inside (λ q. nothing_said (event_of m) (rw q at e))
  where
    is_frame : (x : Message) → eqb v 0xF0 ≡ true → ◌≡◌ {A = List Reported} (gives (frame (0xF0 ∷ xs ++ (b ∷ []))) ∷ []) (gives (event_of x) ∷ [])
        → LastMissing k.End v xs b x
    is_frame (Voice c x) o q = apart cc
    is_frame (Common x) o q = apart cc
    is_frame (Frame ys) o q =
        let same : ◌≡◌ {A = List ℕ} (0xF0 ∷ xs ++ (b ∷ [])) (0xF0 ∷ ys ++ (0xF7 ∷ [])) = cc in
        let long : length xs ≡ length ys = omega (arith, ap length same, length-append xs (b ∷ []), length-append ys (0xF7 ∷ [])) in
        record { last = rw o (omega arith); after = settled_above b (omega arith) }

    inside : is_open v xs ≡ true → LastMissing k.End v xs b m
    inside q =
        split (leb (length xs + 2) limit)
        (λ l. is_frame m (both (eqb v 0xF0) (ltb (length xs) limit) q).0 (rw (q, l) at e))
        (λ l. too_long_said (event_of m) (rw (q, l) at e))

-- F8 and above report no message that is not real-time
no_realtime : {P : Type 0} (r : Option Realtime) (m : Message) → heard_realtime r ≡ gives (event_of m) ∷ [] → P
no_realtime None m e = nothing_said (event_of m) e
no_realtime (Some x) (Voice c z) e = apart cc
no_realtime (Some x) (Common z) e = apart cc
no_realtime (Some x) (Frame ys) e = apart cc

-- whatever byte reports a message, behind whatever history
pub last_missing : (c : Class) (v : ℕ) (xs : List ℕ) (b : ℕ) (m : Message) → Range c b → heard_in c v xs b ≡ gives (event_of m) ∷ [] → LastMissing c v xs b m
last_missing k.Data v xs b m h e = last_data v xs b m e
last_missing k.Held v xs b m h e = only_breaks_off (is_open v xs) (event_of m) e
last_missing k.Start v xs b m h e = only_breaks_off (is_open v xs) (event_of m) e
last_missing k.Undefined v xs b m h e = only_breaks_off (is_open v xs) (event_of m) e
last_missing k.Tune v xs b m h e = last_tune v xs b m h e
last_missing k.End v xs b m h e = last_end v xs b m h e
last_missing k.Realtime v xs b m h e = no_realtime (realtime_of b) m e
