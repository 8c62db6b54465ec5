-- Every refusal of the writer has a number of document 01's table, because each of its rules has.
use Rattle.std.specs.Prelude.{Option}
use mathlib.Core.Path.{◌≡◌, refl}
use mathlib.Core.Bool.{true}
use mathlib.Core.List.{List, []}
use Prim.Native.Nat.{ℕ}
use lib.Dec.{leb, ltb}
use lib.ListN.{length}
use Rattle.refusal.specs.Outcome.{Outcome, gives, with_room}
use Rattle.refusal.proofs.Numbered.{numbered, unless_numbered}
use Rattle.wire.specs.SystemCommon.{common, common_in_range}
use Rattle.decoder.specs.State.{limit}
use Rattle.framing.specs.Framing.{framed, body, first_high}
use Rattle.framing.proofs.Bytes.{high_numbered}
use Rattle.running_status.specs.declared.Outgoing.{Outgoing}
use Rattle.running_status.specs.declared.Outgoing.TheVariants as o
use Rattle.running_status.specs.RunningStatus.{is_running, when_item, when_frame, Handed, plain, frame_bytes, handed_out}

room_numbered : (room : ℕ) (bytes : List ℕ) → numbered (with_room room bytes) ≡ true
room_numbered room bytes = unless_numbered (leb (length bytes) room) 14 _ (gives bytes) refl refl

item_numbered : (m : Outgoing) (next : Outcome (List ℕ)) → numbered next ≡ true → numbered (when_item m next) ≡ true
item_numbered (o.Channel c m) next h = unless_numbered (ltb c.0 16) 17 _ next refl h
item_numbered (o.Common k v) next h = unless_numbered (common_in_range (common k v)) 21 _ next refl h
item_numbered (o.Realtime x) next h = h

pub handed_numbered : (st : Option ℕ) (x : Handed) (room : ℕ) → numbered (handed_out st x room) ≡ true
handed_numbered st (plain m) room = unless_numbered (is_running st) 20 [] (when_item m _) refl (item_numbered m _ (room_numbered room _))
handed_numbered st (frame_bytes bs) room =
    unless_numbered (is_running st) 20 [] (when_frame bs (with_room room bs)) refl
    (unless_numbered (framed bs) 1 [] _ refl
    (high_numbered (first_high (body bs)) _ (unless_numbered (leb (length bs) limit) 19 _ (with_room room bs) refl (room_numbered room bs))))
