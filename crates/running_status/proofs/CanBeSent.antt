-- Every list of messages in range can be sent, because each of them is one that a call accepts where there is room for it.
use Rattle.std.specs.Prelude.{None, Ok, Option}
use mathlib.Core.Path.{◌≡◌, refl, ap, subst}
use mathlib.Core.Bool.{true}
use mathlib.Core.List.{List, [], ◌∷◌, ◌++◌}
use Prim.Native.Nat.{ℕ}
use native.Mathlib.Omega.{arith}
use lib.Dec.{ltb}
use lib.ListN.{length, take}
use borrow.Author.Tests.{lt-ltb, le-leb}
use Rattle.laws.proofs.Tests.{both}
use Rattle.refusal.specs.Outcome.{gives, with_room, after}
use Rattle.wire.specs.declared.system_common.SystemCommon.TheVariants as y
use Rattle.wire.specs.declared.system_common.CommonStatus.TheVariants as s
use Rattle.wire.specs.SystemCommon.{common_in_range}
use Rattle.wire.specs.RealTime.{realtime_byte}
use Rattle.framing.specs.Framing.{first_high}
use Rattle.framing.proofs.Bytes.{body_is, ends_framed}
use Rattle.damage.specs.Sent.{Voice, Common, Frame, bytes_of, seven_bit, sendable}
use Rattle.running_status.specs.declared.Outgoing.TheVariants as o
use Rattle.running_status.specs.RunningStatus.{is_running, shortened, Item, OfMessage, OfRealtime, state_behind, Handed, plain, frame_bytes, item_handed, handed_out}
use Rattle.running_status.specs.Chain.{items_fit}
use Rattle.running_status.specs.Sending.{Sending, no_call, one_call}
use Rattle.running_status.proofs.ChannelStatus.{channel_fits}
use Rattle.running_status.proofs.Sends.{accepted_writes}

-- seven bits each: no high byte
seven_bit_is_low : (bs : List ℕ) → seven_bit bs ≡ true → first_high bs ≡ None
seven_bit_is_low [] h = refl
seven_bit_is_low (b ∷ bs) h =
    let each = both (ltb b 0x80) (seven_bit bs) h in
    rw each.0 (seven_bit_is_low bs each.1)

-- bytes fit a buffer of their own length
just_room : (bs : List ℕ) → with_room (length bs) bs ≡ gives bs
just_room bs = rw (le-leb (length bs) (length bs) (omega arith))

-- a call that accepts this message
record Accepts (st : Option ℕ) (i : Item) : Type 0 where
  handed : Handed
  bytes : List ℕ
  is : item_handed handed ≡ i
  given : handed_out st handed (length bytes) ≡ gives bytes

call_for : (st : Option ℕ) → is_running st ≡ true → (i : Item) → items_fit (i ∷ []) ≡ true → Accepts st i
call_for st fine (OfRealtime x) ok =
    record { handed = plain (o.Realtime x); bytes = realtime_byte x ∷ []; is = refl; given = rw fine (just_room (realtime_byte x ∷ [])) }
call_for st fine (OfMessage (Voice c m)) ok =
    let low = channel_fits c m (both _ _ ok).0 in
    record {
      handed = plain (o.Channel c m);
      bytes = shortened st (Voice c m);
      is = refl;
      given = rw (fine, lt-ltb c.0 16 low) (just_room (shortened st (Voice c m)));
    }
call_for st fine (OfMessage (Common m)) ok = common_call m (both _ _ (both _ _ ok).0).0
  where
    common_call : (x : _) → common_in_range x ≡ true → Accepts st (OfMessage (Common x))
    common_call (y.TimeCodeQuarterFrame a) h =
        let bytes = shortened st (Common (y.TimeCodeQuarterFrame a)) in
        record { handed = plain (o.Common s.TimeCodeQuarterFrame a); bytes = bytes; is = refl; given = rw (fine, h) (just_room bytes) }
    common_call (y.SongPosition a) h =
        record { handed = plain (o.Common s.SongPosition a); bytes = shortened st (Common (y.SongPosition a)); is = refl; given = rw (fine, h) (just_room _) }
    common_call (y.SongSelect a) h =
        record { handed = plain (o.Common s.SongSelect a); bytes = shortened st (Common (y.SongSelect a)); is = refl; given = rw (fine, h) (just_room _) }
    common_call y.TuneRequest h =
        record { handed = plain (o.Common s.TuneRequest 0); bytes = shortened st (Common y.TuneRequest); is = refl; given = rw fine (just_room _) }
call_for st fine (OfMessage (Frame xs)) ok =
    let each = both _ _ (both _ _ ok).0 in
    let bytes = bytes_of (Frame xs) in
    record {
      handed = frame_bytes bytes;
      bytes = bytes;
      is = ap (λ (l : List ℕ). OfMessage (Frame l)) (body_is xs);
      given = rw (fine, ends_framed xs, body_is xs, seven_bit_is_low xs each.0, each.1) (just_room bytes);
    }

fit_first : (i : Item) (is : List Item) → items_fit (i ∷ is) ≡ true → (items_fit (i ∷ []) ≡ true) × (items_fit is ≡ true)
fit_first (OfMessage m) is ok = let each = both (sendable m) (items_fit is) ok in (rw each.0, each.1)
fit_first (OfRealtime x) is ok = (refl, ok)

-- from every state that is not refused
pub every_list_is_sent : (st : Option ℕ) → is_running st ≡ true → (is : List Item) → items_fit is ≡ true
    → (bytes : List ℕ) × (last : Option ℕ) × Sending st is bytes last
every_list_is_sent st fine [] ok = ([], st, no_call)
every_list_is_sent st fine (i ∷ is) ok =
    let each = fit_first i is ok in
    let a = call_for st fine i each.0 in
    let next = state_behind st (item_handed a.handed) in
    let rest = every_list_is_sent next (accepted_writes st a.handed (length a.bytes) a.bytes fine a.given).1 is each.1 in (
      _,
      rest.1,
      subst (λ (j : Item). Sending st (j ∷ is) (take (length a.bytes) (after (gives a.bytes) a.bytes) ++ rest.0) rest.1) a.is
          (one_call a.handed a.bytes (after (gives a.bytes) a.bytes) (Ok (record { count = length a.bytes; state = next }))
          (record { answers = rw a.given; leaves = rw a.given }) rest.2),
    )
