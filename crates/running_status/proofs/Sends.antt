-- Calls of the writer send the chain of the messages that they accepted, because an accepted call writes that message's bytes at the buffer's front
-- and a refused one sends nothing and keeps the state.
use Rattle.std.specs.Prelude.{None, Option, Some}
use mathlib.Core.Path.{◌≡◌, refl, sym, ◌∙◌, ap, ap₂, subst}
use mathlib.Core.Bool.{true}
use mathlib.Core.List.{List, [], ◌∷◌, ◌++◌}
use Prim.Native.Nat.{ℕ, ◌<◌}
use lib.Dec.{ltb, leb}
use lib.ListN.{length, take}
use lib.Seq.{take_at}
use borrow.Author.Tests.{ltb-true}
use Rattle.refusal.specs.Outcome.{Outcome, gives, refused, unless, with_room, after}
use Rattle.refusal.proofs.Given.{passed, passed_on}
use Rattle.wire.specs.SystemCommon.{common, common_in_range}
use Rattle.decoder.specs.State.{limit}
use Rattle.framing.specs.Framing.{framed, body, first_high, when_seven_bit}
use Rattle.framing.proofs.Bytes.{framed_is, no_high}
use Rattle.damage.specs.Sent.{Frame, bytes_of}
use Rattle.running_status.specs.declared.Outgoing.{Outgoing}
use Rattle.running_status.specs.declared.Outgoing.TheVariants as o
use Rattle.running_status.specs.declared.Emitted.{Emitted}
use Rattle.running_status.specs.RunningStatus.{is_running, shortened, Item, item_bytes, state_behind, item_of, when_item, when_frame, Handed, plain, frame_bytes, item_handed, handed_out, emitted_of}
use Rattle.running_status.specs.Chain.{chain, chain_state}
use Rattle.running_status.specs.Sending.{state_kept, gone_out, items_accepted, Sending, no_call, one_call, WrittenFromNone}
use Rattle.running_status.proofs.ChannelStatus.{voice_in_force}

-- what fitted was given
fitted : (room : ℕ) (bytes w : List ℕ) → with_room room bytes ≡ gives w → w ≡ bytes
fitted room bytes w e =
    let given : ◌≡◌ {A = Outcome (List ℕ)} (gives bytes) (gives w) = passed_on (leb (length bytes) room) 14 _ (gives bytes) w e in cc

-- a message that is no frame was in range, and so the state behind it is one of the writer's
item_passed : (st : Option ℕ) (m : Outgoing) (next : Outcome (List ℕ)) (w : List ℕ) → is_running st ≡ true → when_item m next ≡ gives w
    → (next ≡ gives w) × (is_running (state_behind st (item_of m)) ≡ true)
item_passed st (o.Channel c m) next w fine e =
    let small : c.0 < 16 = ltb-true _ _ (passed (ltb c.0 16) 17 _ next w e) in
    (passed_on (ltb c.0 16) 17 _ next w e, voice_in_force c m small)
item_passed st (o.Common k v) next w fine e = (passed_on (common_in_range (common k v)) 21 _ next w e, refl)
item_passed st (o.Realtime x) next w fine e = (e, cc)

-- a frame is written whole
frame_whole : (st : Option ℕ) (xs : List ℕ) → shortened st (Frame xs) ≡ bytes_of (Frame xs)
frame_whole None xs = refl
frame_whole (Some b) xs = refl

-- what an accepted call writes is its message's bytes, and the state behind it is one of the writer's
pub accepted_writes : (st : Option ℕ) (x : Handed) (room : ℕ) (w : List ℕ) → is_running st ≡ true → handed_out st x room ≡ gives w
    → (w ≡ item_bytes st (item_handed x)) × (is_running (state_behind st (item_handed x)) ≡ true)
accepted_writes st (plain m) room w fine e =
    let bytes = item_bytes st (item_of m) in
    let r = item_passed st m (with_room room bytes) w fine (passed_on (is_running st) 20 [] (when_item m (with_room room bytes)) w e) in
    (fitted room bytes w r.0, r.1)
accepted_writes st (frame_bytes bs) room w fine e =
    let short = unless (leb (length bs) limit) 19 (limit ∷ []) (with_room room bs) in
    let low = when_seven_bit (body bs) short in
    let e1 = passed_on (is_running st) 20 [] (when_frame bs (with_room room bs)) w e in
    let e2 = (no_high (first_high (body bs)) short w (passed_on (framed bs) 1 [] low w e1)).1 in
    let is = framed_is bs (passed (framed bs) 1 [] low w e1) in
    (fitted room bs w (passed_on (leb (length bs) limit) 19 (limit ∷ []) (with_room room bs) w e2) ∙ is ∙ sym (frame_whole st (body bs)), refl)

-- what is to be shown of the bytes that were sent and the state behind them
abbrev AllSent : Option ℕ → List Item → List ℕ → Option ℕ → Type 0
AllSent st is bytes last = (bytes ≡ chain st is) × (is_running last ≡ true) × (last ≡ chain_state st is)

-- one call in front of others, by what it comes to
abbrev CallInFront : Option ℕ → Handed → List ℕ → List Item → List ℕ → Option ℕ → Outcome Emitted → Type 0
CallInFront st x later is bytes last a =
    (is_running (state_kept a st) ≡ true → AllSent (state_kept a st) is bytes last)
    → AllSent st (items_accepted a x ++ is) (gone_out a later ++ bytes) last

call_in_front : (st : Option ℕ) (x : Handed) (out later : List ℕ) (is : List Item) (bytes : List ℕ) (last : Option ℕ) → is_running st ≡ true
    → (o : Outcome (List ℕ)) → handed_out st x (length out) ≡ o → later ≡ after o out
    → CallInFront st x later is bytes last (emitted_of o (state_behind st (item_handed x)))
unfolding chain
call_in_front st x out later is bytes last fine (gives w) e left rest =
    let r = accepted_writes st x (length out) w fine e in
    let behind = rest r.1 in
    (ap₂ (λ (k l : List ℕ). k ++ l) (ap (take (length w)) left ∙ take_at w _ (length w) refl ∙ r.0) behind.0, behind.1, behind.2)
call_in_front st x out later is bytes last fine (refused n values) e left rest = rest fine

all_sent : {st last : Option ℕ} {is : List Item} {bytes : List ℕ} → Sending st is bytes last → is_running st ≡ true → AllSent st is bytes last
unfolding chain
all_sent no_call fine = (refl, fine, refl)
all_sent (one_call {st} {last} {is} {bytes} x out later answer met rest) fine =
    subst (CallInFront st x later is bytes last) (sym met.answers) (call_in_front st x out later is bytes last fine _ refl met.leaves) (λ h. all_sent rest h)

-- what goes over the wire is the chain of the accepted messages, and the state stays one of the writer's: 20 never comes in such a list of calls
pub sending_is_chain : {st last : Option ℕ} {is : List Item} {bytes : List ℕ} → Sending st is bytes last → is_running st ≡ true
    → (bytes ≡ chain st is) × (is_running last ≡ true)
sending_is_chain made fine = let r = all_sent made fine in (r.0, r.1)

-- the state behind the calls is the one behind the accepted messages
pub state_is_theirs : {st last : Option ℕ} {is : List Item} {bytes : List ℕ} → Sending st is bytes last → is_running st ≡ true → last ≡ chain_state st is
state_is_theirs made fine = (all_sent made fine).2

-- what stands for messages is the chain of them
abbrev pub IsChain : (List Item → List ℕ → Type 0) → Type 0
IsChain wrote = (is : List Item) (bytes : List ℕ) → wrote is bytes → bytes ≡ chain None is

pub written_is_chain : IsChain WrittenFromNone
written_is_chain is bytes w = (sending_is_chain w.1 refl).0
