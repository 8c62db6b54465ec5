-- What the writer wrote from the state none reads back as the same messages, because it leaves a status byte out only where it is the running status:
-- so what it wrote is a stream that is read whole, with real-time bytes put in.
use Rattle.std.specs.Prelude.{None, Option, Some}
use mathlib.Core.Path.{◌≡◌, refl, sym, ◌∙◌, ap, ap₂, subst}
use mathlib.Core.Bool.{Bool, true, false}
use mathlib.Core.List.{List, [], ◌∷◌, ◌++◌, append_assoc, append-nil}
use Prim.Native.Nat.{ℕ, zero, suc, ◌≤◌}
use native.Mathlib.Omega.{arith}
use lib.ListN.{length, drop, replicate}
use lib.Seq.{take_all}
use Rattle.std.proofs.lemmas.List.{map-append}
use Rattle.laws.specs.Choice.{pick}
use Rattle.laws.proofs.Tests.{true_is_not_false, both, and_true}
use Rattle.refusal.specs.Outcome.{gives}
use Rattle.wire.specs.RealTime.{realtime_byte}
use Rattle.wire.proofs.channel_message.Bytes.{channel_length}
use Rattle.wire.proofs.ReadBack.{realtime_reads_back}
use Rattle.decoder.specs.declared.Decoder.{Decoder}
use Rattle.decoder.specs.State.{reset}
use Rattle.decoder.specs.Reports.{Event}
use Rattle.damage.specs.Reported.{Reported}
use Rattle.damage.specs.History.{meaning}
use Rattle.damage.specs.Sent.{Message, Voice, Common, Frame, bytes_of, sendable, all_sendable, event_of}
use Rattle.damage.specs.Sent.{Tag, tags, tagged, realtime_tag, Sent, nothing, own, between, bytes, intacts}
use Rattle.damage.specs.Caller.{Caller, belonging, total_used, Exactly}
use Rattle.damage.specs.Calls.{by_value}
use Rattle.damage.specs.InPlaceCalls.{in_place}
use Rattle.damage.specs.Meaning.{CallsMean}
use Rattle.damage.proofs.Condition3.{meaning_length}
use Rattle.damage.proofs.Woven.{woven}
use Rattle.damage.proofs.WritersRead.{bytes_of_tags, realtime_from_f8}
use Rattle.damage.proofs.ByValue.{promises_by_value}
use Rattle.damage.proofs.Condition3InPlace.{promises_in_place}
use Rattle.running_status.specs.RunningStatus.{Item, OfMessage, OfRealtime, omits, running_after, item_bytes, state_behind}
use Rattle.running_status.specs.Chain.{items_fit, chain, item_report, item_reports, reports_joined, chain_reports}
use Rattle.running_status.specs.Sending.{WrittenFromNone}
use Rattle.running_status.specs.Stream.{Stream}
use Rattle.running_status.specs.Stream as z
use Rattle.running_status.specs.ReadBack.{SameMessages, ReadsBack}
use Rattle.running_status.proofs.StreamRead.{stream_reads}
use Rattle.running_status.proofs.Missing.{common_is_one_more}
use Rattle.running_status.proofs.Sends.{IsChain, written_is_chain}

-- the bytes of a message as they are written, with what each of them reports
abbrev message_tags : Option ℕ → Message → List Tag
message_tags st m = pick (omits st m) (tags false (event_of m) (drop 1 (bytes_of m))) (tagged m)

abbrev one_tags : Option ℕ → Item → List Tag
one_tags st (OfMessage m) = message_tags st m
one_tags st (OfRealtime x) = realtime_tag (realtime_byte x) ∷ []

-- all that is written, with what each byte reports
abbrev item_tags : Option ℕ → List Item → List Tag
item_tags st [] = []
item_tags st (i ∷ is) = one_tags st i ++ item_tags (state_behind st i) is

-- the messages that are no real-time ones, and their tags alone
abbrev own_messages : List Item → List Message
own_messages [] = []
own_messages (OfMessage m ∷ is) = m ∷ own_messages is
own_messages (OfRealtime x ∷ is) = own_messages is

abbrev own_tags : Option ℕ → List Item → List Tag
own_tags st [] = []
own_tags st (OfMessage m ∷ is) = message_tags st m ++ own_tags (running_after m) is
own_tags st (OfRealtime x ∷ is) = own_tags st is

fit_messages : (is : List Item) → items_fit is ≡ true → all_sendable (own_messages is) ≡ true
fit_messages [] ok = refl
fit_messages (OfMessage m ∷ is) ok = let each = both _ _ ok in and_true (sendable m) (all_sendable (own_messages is)) each.0 (fit_messages is each.1)
fit_messages (OfRealtime x ∷ is) ok = fit_messages is ok

-- a sender may write so
chain_stream : (st : Option ℕ) (is : List Item) → Stream st (own_messages is) (own_tags st is)
chain_stream st [] = z.nothing
chain_stream st (OfMessage m ∷ is) = go (omits st m) refl (chain_stream (running_after m) is)
  where
    go : (t : Bool) → omits st m ≡ t → Stream (running_after m) (own_messages is) (own_tags (running_after m) is)
        → Stream st (m ∷ own_messages is) (pick t (tags false (event_of m) (drop 1 (bytes_of m))) (tagged m) ++ own_tags (running_after m) is)
    go true e r = z.bare m e r
    go false e r = z.whole m r
chain_stream st (OfRealtime x ∷ is) = chain_stream st is

own_all : (ts : List Tag) {us vs : List Tag} → Sent us vs → Sent (ts ++ us) (ts ++ vs)
own_all [] r = r
own_all (t ∷ ts) r = own (own_all ts r)

-- the real-time bytes stand among the messages' own
chain_sent : (st : Option ℕ) (is : List Item) → Sent (own_tags st is) (item_tags st is)
chain_sent st [] = nothing
chain_sent st (OfMessage m ∷ is) = own_all (message_tags st m) (chain_sent (running_after m) is)
chain_sent st (OfRealtime x ∷ is) = between (realtime_byte x) (realtime_from_f8 x) (chain_sent st is)

-- the bytes of the tags are those that are written
one_bytes : (st : Option ℕ) (i : Item) → bytes (one_tags st i) ≡ item_bytes st i
one_bytes st (OfMessage m) = go (omits st m)
  where
    go : (t : Bool) → bytes (pick t (tags false (event_of m) (drop 1 (bytes_of m))) (tagged m)) ≡ pick t (drop 1 (bytes_of m)) (bytes_of m)
    go true = bytes_of_tags false (event_of m) (drop 1 (bytes_of m))
    go false = bytes_of_tags true (event_of m) (bytes_of m)
one_bytes st (OfRealtime x) = refl

chain_bytes : (st : Option ℕ) (is : List Item) → bytes (item_tags st is) ≡ chain st is
unfolding chain
chain_bytes st [] = refl
chain_bytes st (i ∷ is) =
    map-append (λ (t : Tag). t.byte) (one_tags st i) (item_tags (state_behind st i) is)
    ∙ ap₂ (λ (x r : List ℕ). x ++ r) (one_bytes st i) (chain_bytes (state_behind st i) is)

-- a message has a byte, and one whose status byte is left out has a data byte
some_byte : (m : Message) → 1 ≤ length (bytes_of m)
some_byte (Voice c m) = omega arith
some_byte (Common m) = omega (arith, common_is_one_more m)
some_byte (Frame xs) = omega arith

some_data : (st : Option ℕ) (m : Message) → omits st m ≡ true → 1 ≤ length (drop 1 (bytes_of m))
some_data None m e = absurd (true_is_not_false (sym e))
some_data (Some b) (Voice c m) e = (channel_length m).0
some_data (Some b) (Common m) e = absurd (true_is_not_false (sym e))
some_data (Some b) (Frame xs) e = absurd (true_is_not_false (sym e))

-- the last of a message's bytes reports it, and no other anything
tags_report : (first : Bool) (e : Event) (bs : List ℕ) → 1 ≤ length bs → intacts (tags first e bs) ≡ belonging (length bs) (gives e ∷ [])
tags_report first e [] some = absurd (omega arith)
tags_report first e (b ∷ []) some = refl
tags_report first e (b ∷ c ∷ bs) some = ap (λ (l : List (List Reported)). [] ∷ l) (tags_report false e (c ∷ bs) (omega arith))

one_reports : (st : Option ℕ) (i : Item) → intacts (one_tags st i) ≡ belonging (length (item_bytes st i)) (item_report i ∷ [])
one_reports st (OfMessage m) = go (omits st m) refl
  where
    go : (t : Bool) → omits st m ≡ t → intacts (pick t (tags false (event_of m) (drop 1 (bytes_of m))) (tagged m))
        ≡ belonging (length (pick t (drop 1 (bytes_of m)) (bytes_of m))) (gives (event_of m) ∷ [])
    go true e = tags_report false (event_of m) (drop 1 (bytes_of m)) (some_data st m e)
    go false e = tags_report true (event_of m) (bytes_of m) (some_byte m)
one_reports st (OfRealtime x) = rw (realtime_reads_back x)

tags_are_reports : (st : Option ℕ) (is : List Item) → intacts (item_tags st is) ≡ chain_reports st is
unfolding chain_reports
tags_are_reports st [] = refl
tags_are_reports st (i ∷ is) =
    map-append (λ (t : Tag). t.intact) (one_tags st i) (item_tags (state_behind st i) is)
    ∙ ap₂ (λ (x r : List (List Reported)). x ++ r) (one_reports st i) (tags_are_reports (state_behind st i) is)

-- read-back byte by byte: each message's last byte reports it, and no other byte anything
pub reads_back_singly : (is : List Item) → items_fit is ≡ true → meaning [] (chain None is) ≡ chain_reports None is
reads_back_singly is ok =
    ap (meaning []) (sym (chain_bytes None is)) ∙ woven (chain_sent None is) [] (stream_reads (chain_stream None is) (fit_messages is ok) 0 [] refl tt)
    ∙ tags_are_reports None is

in_order_append : (xs ys : List (List Reported)) → reports_joined (xs ++ ys) ≡ reports_joined xs ++ reports_joined ys
in_order_append [] ys = refl
in_order_append (x ∷ xs) ys = ap (λ (l : List Reported). x ++ l) (in_order_append xs ys) ∙ sym (append_assoc x (reports_joined xs) (reports_joined ys))

-- reports that belong to a byte, in order
belonging_in_order : (n : ℕ) (xs : List Reported) → reports_joined (belonging n xs) ≡ xs
belonging_in_order zero [] = refl
belonging_in_order zero (x ∷ xs) = append-nil (x ∷ xs)
belonging_in_order (suc n) xs = silent n
  where
    silent : (k : ℕ) → reports_joined (replicate k [] ++ (xs ∷ [])) ≡ xs
    silent zero = append-nil xs
    silent (suc k) = silent k

-- what has to be reported byte by byte is, in order, one report for each message
pub told_in_order : (st : Option ℕ) (is : List Item) → reports_joined (chain_reports st is) ≡ item_reports is
unfolding chain_reports
told_in_order st [] = refl
told_in_order st (i ∷ is) =
    in_order_append (belonging (length (item_bytes st i)) (item_report i ∷ [])) (chain_reports (state_behind st i) is)
    ∙ ap₂ (λ (x r : List Reported). x ++ r) (belonging_in_order (length (item_bytes st i)) (item_report i ∷ [])) (told_in_order (state_behind st i) is)

-- READ-BACK byte by byte of whatever wrote the chain, by any caller whose calls report what history says
pub reads_back : (wrote : List Item → List ℕ → Type 0) → IsChain wrote → (c : Caller) (start : c.State) → CallsMean c start → ReadsBack wrote c start
reads_back wrote chains c start mean is bytes written fit store room cs log made =
    subst (λ (l : List (List Reported)). Exactly cs l log) (ap (meaning []) (chains is bytes written) ∙ reads_back_singly is fit)
    (mean store room bytes cs log made)

-- each byte of the chain has its reports
every_byte : (is : List Item) → items_fit is ≡ true → length (chain_reports None is) ≡ length (chain None is)
every_byte is fit = ap length (sym (reads_back_singly is fit)) ∙ meaning_length [] (chain None is)

-- READ-BACK to the end: the reports are the messages
pub same_messages : (wrote : List Item → List ℕ → Type 0) → IsChain wrote → (c : Caller) (start : c.State) → CallsMean c start → SameMessages wrote c start
same_messages wrote chains c start mean is bytes written fit store room cs log made all =
    let told = (reads_back wrote chains c start mean is bytes written fit store room cs log made).0 in
    let long : length (chain_reports None is) ≤ total_used log.answers = omega (arith, all, every_byte is fit, ap length (chains is bytes written)) in
    ap reports_joined (told ∙ take_all (total_used log.answers) (chain_reports None is) long) ∙ told_in_order None is

-- READ-BACK of the code's own calls, by value and in place, from every state that a reset leaves
pub same_messages_by_value : (d : Decoder) → SameMessages WrittenFromNone by_value (reset d)
same_messages_by_value d = same_messages WrittenFromNone written_is_chain by_value (reset d) (promises_by_value d).calls_mean

pub same_messages_in_place : (d : Decoder) → SameMessages WrittenFromNone in_place (reset d)
same_messages_in_place d = same_messages WrittenFromNone written_is_chain in_place (reset d) (promises_in_place d).calls_mean

pub reads_back_by_value : (d : Decoder) → ReadsBack WrittenFromNone by_value (reset d)
reads_back_by_value d = reads_back WrittenFromNone written_is_chain by_value (reset d) (promises_by_value d).calls_mean

pub reads_back_in_place : (d : Decoder) → ReadsBack WrittenFromNone in_place (reset d)
reads_back_in_place d = reads_back WrittenFromNone written_is_chain in_place (reset d) (promises_in_place d).calls_mean
