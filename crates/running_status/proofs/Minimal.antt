-- No shorter byte string reads as the same messages: what is missing of them falls by at most one with each byte, the byte that reports a message was the
-- last one missing of it, and at the start all that the writer writes is missing.
use Rattle.std.specs.Prelude.{None, Option, Some}
use mathlib.Core.Path.{◌≡◌, refl, sym, ◌∙◌, ap, subst}
use mathlib.Core.Bool.{Bool, true, false}
use mathlib.Core.List.{List, [], ◌∷◌, ◌++◌}
use Prim.Native.Nat.{ℕ, ◌+◌, ◌≤◌}
use native.Mathlib.Omega.{arith}
use lib.Dec.{leb, eqb}
use lib.ListN.{length, take, length-append}
use Rattle.std.proofs.lemmas.List.{length-take}
use Rattle.laws.specs.Choice.{pick}
use Rattle.laws.proofs.Tests.{split, both}
use Rattle.refusal.specs.Outcome.{gives}
use Rattle.wire.specs.declared.channel_message.ChannelMessage.{ChannelMessage}
use Rattle.wire.specs.declared.system_common.SystemCommon.{SystemCommon}
use Rattle.wire.specs.declared.system_common.SystemCommon.TheVariants as y
use Rattle.wire.specs.declared.real_time.Realtime.{Realtime}
use Rattle.wire.specs.Status.{data_length}
use Rattle.wire.specs.ChannelMessage.{channel_message}
use Rattle.wire.specs.SystemCommon.{common_message}
use Rattle.wire.specs.RealTime.{realtime_of}
use Rattle.wire.proofs.DataLength.{none_of_data}
use Rattle.decoder.specs.declared.Class.{Class}
use Rattle.decoder.specs.declared.Class.TheVariants as k
use Rattle.decoder.specs.declared.Decoder.{Decoder}
use Rattle.decoder.specs.State.{limit, reset}
use Rattle.decoder.specs.Step.{class_of}
use Rattle.decoder.specs.Reports.{realtime, common, frame}
use Rattle.decoder.proofs.Classes.{Range, range_of}
use Rattle.damage.specs.Open.{last_status, data_since, is_open}
use Rattle.damage.specs.Reported.{Reported, report18, heard_realtime}
use Rattle.damage.specs.History.{interruption, heard_common, heard_message, message, last_of, ends_message, heard_in, heard, meaning}
use Rattle.damage.specs.Sent.{sendable, event_of}
use Rattle.damage.specs.Caller.{Caller, total_used}
use Rattle.damage.specs.Calls.{by_value}
use Rattle.damage.specs.InPlaceCalls.{in_place}
use Rattle.damage.specs.Meaning.{CallsMean}
use Rattle.damage.proofs.Ahead.{next_status, next_data, status_and_data_after, meaning_take}
use Rattle.damage.proofs.ByValue.{promises_by_value}
use Rattle.damage.proofs.Condition3InPlace.{promises_in_place}
use Rattle.running_status.specs.RunningStatus.{Item, OfMessage, OfRealtime, shortened, running_after}
use Rattle.running_status.specs.Chain.{items_fit, chain, item_reports, reports_joined}
use Rattle.running_status.specs.ReadBack.{NoShorter}
use Rattle.running_status.specs.Sending.{WrittenFromNone}
use Rattle.running_status.proofs.Sends.{IsChain, written_is_chain}
use Rattle.running_status.proofs.Missing.{missing, one_byte_brings_one}
use Rattle.running_status.proofs.LastMissing.{apart, nothing_said, too_long_said, only_breaks_off, Settled, settled_without, last_missing}

-- how many bytes are missing of a list of messages behind a history: of the first what is missing of it, of the others what the writer writes
abbrev all_missing : ℕ → List ℕ → List Item → ℕ
all_missing v xs [] = 0
all_missing v xs (OfMessage m ∷ is) = missing v xs m + length (chain (running_after m) is)
all_missing v xs (OfRealtime x ∷ is) = 1 + all_missing v xs is

-- no byte brings more than itself
one_byte_of_all : (c : Class) (v : ℕ) (xs : List ℕ) (b : ℕ) (is : List Item)
    → all_missing v xs is ≤ 1 + all_missing (next_status c v b) (next_data c xs b) is
one_byte_of_all c v xs b [] = omega arith
one_byte_of_all c v xs b (OfMessage m ∷ is) = omega (arith, one_byte_brings_one c v xs b m)
one_byte_of_all c v xs b (OfRealtime x ∷ is) = omega (arith, one_byte_of_all c v xs b is)

-- where nothing waits, it is what the writer writes
missing_is_written : (st : Option ℕ) (v : ℕ) (xs : List ℕ) (is : List Item) → items_fit is ≡ true → Settled st v xs
    → all_missing v xs is ≡ length (chain st is)
unfolding chain
missing_is_written st v xs [] ok h = refl
missing_is_written st v xs (OfMessage m ∷ is) ok h =
    ap (λ (n : ℕ). n + length (chain (running_after m) is)) (h m (both (sendable m) (items_fit is) ok).0)
    ∙ sym (length-append (shortened st m) (chain (running_after m) is))
missing_is_written st v xs (OfRealtime x ∷ is) ok h = omega (arith, missing_is_written st v xs is ok h)

-- what a byte reports: nothing, one report, or 18 first
data ByteSays : List Reported → Type 0 where
  says_nothing : ByteSays []
  says_one : (x : Reported) → ByteSays (x ∷ [])
  says_18 : (rest : List Reported) → ByteSays (report18 ∷ rest)

either_says : (q : Bool) (x y : List Reported) → ByteSays x → ByteSays y → ByteSays (pick q x y)
either_says true x y h k = h
either_says false x y h k = k

message_says : (v a b : ℕ) → ByteSays (message v a b)
unfolding message
message_says v a b = of_channel (channel_message v a b)
  where
    of_common : (r : Option SystemCommon) → ByteSays (heard_common r)
    of_common (Some x) = says_one _
    of_common None = says_nothing

    of_channel : (r : Option ChannelMessage) → ByteSays (heard_message r v a b)
    of_channel (Some x) = says_one _
    of_channel None = of_common (common_message v a b)

interruption_says : (q : Bool) → ByteSays (interruption q)
interruption_says true = says_one _
interruption_says false = says_nothing

byte_says : (c : Class) (v : ℕ) (xs : List ℕ) (b : ℕ) → ByteSays (heard_in c v xs b)
byte_says k.Data v xs b =
    either_says (eqb v 0xF0) _ _ (either_says (eqb (length xs + 1) limit) _ _ (says_one _) says_nothing)
    (either_says (ends_message v (data_length v) (length xs)) _ _
    (either_says (leb (data_length v) 1) _ _ (message_says v b 0) (message_says v (last_of xs) b)) says_nothing)
byte_says k.Held v xs b = interruption_says (is_open v xs)
byte_says k.Start v xs b = interruption_says (is_open v xs)
byte_says k.Undefined v xs b = interruption_says (is_open v xs)
byte_says k.Tune v xs b = go (is_open v xs)
  where
    go : (q : Bool) → ByteSays (interruption q ++ (gives (common y.TuneRequest) ∷ []))
    go true = says_18 _
    go false = says_one _
byte_says k.End v xs b = either_says (is_open v xs) _ _ (either_says (leb (length xs + 2) limit) _ _ (says_one _) (says_one _)) says_nothing
byte_says k.Realtime v xs b = go (realtime_of b)
  where
    go : (r : Option Realtime) → ByteSays (heard_realtime r)
    go (Some x) = says_one _
    go None = says_nothing

-- a status byte and its data mean no real-time message
message_not_realtime : {P : Type 0} (v a b : ℕ) (x : Realtime) → message v a b ≡ gives (realtime x) ∷ [] → P
unfolding message
message_not_realtime {P} v a b x e = of_channel (channel_message v a b) e
  where
    of_common : (r : Option SystemCommon) → heard_common r ≡ gives (realtime x) ∷ [] → P
    of_common (Some z) q = apart cc
    of_common None q = nothing_said (realtime x) q

    of_channel : (r : Option ChannelMessage) → heard_message r v a b ≡ gives (realtime x) ∷ [] → P
    of_channel (Some z) q = apart cc
    of_channel None q = of_common (common_message v a b) q

-- a byte that reports a real-time message changes no history
realtime_alone : (c : Class) (v : ℕ) (xs : List ℕ) (b : ℕ) (x : Realtime) → heard_in c v xs b ≡ gives (realtime x) ∷ []
    → (next_status c v b ≡ v) × (next_data c xs b ≡ xs)
realtime_alone k.Data v xs b x e =
    split (eqb v 0xF0)
    (λ q. split (eqb (length xs + 1) limit) (λ l. too_long_said (realtime x) (rw (q, l) at e)) (λ l. nothing_said (realtime x) (rw (q, l) at e)))
    (λ q. split (ends_message v (data_length v) (length xs))
    (λ l. split (leb (data_length v) 1)
    (λ n. message_not_realtime v b 0 x (rw (q, l, n) at e))
    (λ n. message_not_realtime v (last_of xs) b x (rw (q, l, n) at e)))
    (λ l. nothing_said (realtime x) (rw (q, l) at e)))
realtime_alone k.Held v xs b x e = only_breaks_off (is_open v xs) (realtime x) e
realtime_alone k.Start v xs b x e = only_breaks_off (is_open v xs) (realtime x) e
realtime_alone k.Undefined v xs b x e = only_breaks_off (is_open v xs) (realtime x) e
realtime_alone k.Tune v xs b x e = go (is_open v xs) e
  where
    go : {P : Type 0} (q : Bool) → interruption q ++ (gives (common y.TuneRequest) ∷ []) ≡ gives (realtime x) ∷ [] → P
    go true z = apart cc
    go false z = apart cc
realtime_alone k.End v xs b x e =
    split (is_open v xs)
    (λ q. split (leb (length xs + 2) limit)
    (λ l. let z : ◌≡◌ {A = List Reported} (gives (frame (0xF0 ∷ xs ++ (b ∷ []))) ∷ []) (gives (realtime x) ∷ []) = rw (q, l) at e in apart cc)
    (λ l. too_long_said (realtime x) (rw (q, l) at e)))
    (λ q. nothing_said (realtime x) (rw q at e))
realtime_alone k.Realtime v xs b x e = (refl, refl)

-- one byte in front of others that are as many as are missing behind it
module _ (c : Class) (v : ℕ) (xs : List ℕ) (b : ℕ) (range : Range c b) (rest : List Reported) (n : ℕ)
    (next : (is : List Item) → items_fit is ≡ true → rest ≡ item_reports is → all_missing (next_status c v b) (next_data c xs b) is ≤ n) where
  one_more : (h : List Reported) → heard_in c v xs b ≡ h → ByteSays h → (is : List Item) → items_fit is ≡ true → h ++ rest ≡ item_reports is
      → all_missing v xs is ≤ 1 + n
  one_more h e says_nothing is ok says = omega (arith, one_byte_of_all c v xs b is, next is ok says)
  one_more h e (says_one x) [] ok says = omega arith
  one_more h e (says_one x) (OfMessage m ∷ is) ok says =
      let fit = (both (sendable m) (items_fit is) ok).1 in
      let same : x ≡ gives (event_of m) = cc in
      let others : rest ≡ item_reports is = cc in
      let r = last_missing c v xs b m range (e ∙ ap (λ (z : Reported). z ∷ []) same) in
      omega (arith, r.last, next is fit others, missing_is_written (running_after m) (next_status c v b) (next_data c xs b) is fit r.after)
  one_more h e (says_one x) (OfRealtime z ∷ is) ok says =
      let same : x ≡ gives (realtime z) = cc in
      let others : rest ≡ item_reports is = cc in
      let kept = realtime_alone c v xs b z (e ∙ ap (λ (w : Reported). w ∷ []) same) in
      let fewer : all_missing v xs is ≤ n =
      subst (λ (w : ℕ). all_missing w xs is ≤ n) kept.0
      (subst (λ (ws : List ℕ). all_missing (next_status c v b) ws is ≤ n) kept.1 (next is ok others)) in
      omega arith
  one_more h e (says_18 more) [] ok says = omega arith
  one_more h e (says_18 more) (OfMessage m ∷ is) ok says = let z : ◌≡◌ {A = Reported} report18 (gives (event_of m)) = cc in apart cc
  one_more h e (says_18 more) (OfRealtime x ∷ is) ok says = let z : ◌≡◌ {A = Reported} report18 (gives (realtime x)) = cc in apart cc

-- any bytes that read, behind a history, as exactly these messages are at least as many as are missing
as_many_as_missing : (u past : List ℕ) (is : List Item) → items_fit is ≡ true → reports_joined (meaning past u) ≡ item_reports is
    → all_missing (last_status past) (data_since past) is ≤ length u
unfolding meaning heard
as_many_as_missing [] past [] ok says = omega arith
as_many_as_missing [] past (OfMessage m ∷ is) ok says = apart cc
as_many_as_missing [] past (OfRealtime x ∷ is) ok says = apart cc
as_many_as_missing (b ∷ bs) past is ok says =
    let c = class_of b in
    let v = last_status past in
    let xs = data_since past in
    let same = status_and_data_after c past b (range_of b) in
    let next : (js : List Item) → items_fit js ≡ true → reports_joined (meaning (b ∷ past) bs) ≡ item_reports js
    → all_missing (next_status c v b) (next_data c xs b) js ≤ length bs =
    λ js fit e. subst (λ (w : ℕ). all_missing w (next_data c xs b) js ≤ length bs) same.0
    (subst (λ (ws : List ℕ). all_missing (last_status (b ∷ past)) ws js ≤ length bs) same.1 (as_many_as_missing bs (b ∷ past) js fit e)) in
    omega
    (arith, one_more c v xs b (range_of b) (reports_joined (meaning (b ∷ past) bs)) (length bs) next (heard_in c v xs b) refl (byte_says c v xs b) is ok says)

-- nothing has come yet
nothing_yet : Settled None 0 []
nothing_yet = settled_without 0 [] refl (λ e. omega arith) (omega (arith, none_of_data 0 (omega arith)))

-- MINIMALITY: every byte string that history reads as exactly these messages is at least as long as what the writer writes of them from the state none
pub no_shorter : (is : List Item) → items_fit is ≡ true → (u : List ℕ) → reports_joined (meaning [] u) ≡ item_reports is → length (chain None is) ≤ length u
no_shorter is ok u says = omega (arith, missing_is_written None 0 [] is ok nothing_yet, as_many_as_missing u [] is ok says)

-- MINIMALITY of whatever wrote the chain, and of every caller whose calls report what history says, since history of the bytes used is the first part of
-- history of them all
pub no_shorter_read : (wrote : List Item → List ℕ → Type 0) → IsChain wrote → (c : Caller) (start : c.State) → CallsMean c start → NoShorter wrote c start
no_shorter_read wrote chains c start mean is bytes written ok store room any cs log made says =
    let n = total_used log.answers in
    let same = (mean store room any cs log made).0 ∙ sym (meaning_take [] any n) in
    let sent : length bytes ≡ length (chain None is) = ap length (chains is bytes written) in
    let least = no_shorter is ok (take n any) (ap reports_joined (sym same) ∙ says) in
    (omega (arith, least, length-take n any, sent), omega (arith, least, length-take n any, sent))

-- MINIMALITY of the code's own calls, by value and in place, from every state that a reset leaves
pub no_shorter_by_value : (d : Decoder) → NoShorter WrittenFromNone by_value (reset d)
no_shorter_by_value d = no_shorter_read WrittenFromNone written_is_chain by_value (reset d) (promises_by_value d).calls_mean

pub no_shorter_in_place : (d : Decoder) → NoShorter WrittenFromNone in_place (reset d)
no_shorter_in_place d = no_shorter_read WrittenFromNone written_is_chain in_place (reset d) (promises_in_place d).calls_mean
