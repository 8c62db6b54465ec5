-- `pack_into` meets its contract: the length first, then the room, then the groups.
use Rattle.packed.proofs.Lengths.{packed_given}
use Rattle.packed.specs.Packed.{packed, packed_byte, packed_length, packed_length_of}
use Rattle.std.proofs.Common.{rules}
use Rattle.packed.proofs.Room.{fits, short}
use Rattle.refusal.proofs.Written.{counted_first, filled_in}
use Rattle.std.specs.Prelude.{Err}
use Rattle.refusal.specs.Outcome.{gives, answered, Writes}
use Rattle.packed.specs.Packed.{pack_write}
use Rattle.laws.proofs.Tabulate.{length_tab}
use Rattle.laws.specs.Window.{window}
use Rattle.laws.specs.Tabulate.{tab}
use lib.ListN.{length}
use native.Mathlib.Omega.{arith}
use Prim.Native.Nat.{ℕ, ◌*◌, ◌/◌}
use mathlib.Core.Path.{◌≡◌, refl, sym, ◌∙◌, ap}
use Rattle.packed.proofs.packing.pack_into.Goals as goal

pub returns-in_err-room : goal.returns-in_err-room
returns-in_err-room c = let a = c.args in
    let n = c.in_ok-needed.needed in
    let size = length a.raw.now in
    let e : gives n ≡ packed_length_of size =
    ap answered (sym c.in_ok-needed.was) ∙ c.packed_len.ensures in
    let count = length_tab (packed_byte a.raw.now) (packed_length size) ∙ sym (packed_given size n e) in
    let told : Writes (pack_write a.raw.now (length a.out.now)) (Err c.in_err-room.field-0.0) a.out.now a.out.now = counted_first _ _ n _ _ _ e
    (short n (length a.out.now) c.room.result c.room.ensures c.in_err-room.field-0.0 (packed a.raw.now) a.out.now c.in_err-room.was count refl) in
    search rules

pub returns : goal.returns
returns c = let a = c.args in
    let n = c.in_ok-needed.needed in
    let size = length a.raw.now in
    let e : gives n ≡ packed_length_of size =
    ap answered (sym c.in_ok-needed.was) ∙ c.packed_len.ensures in
    let l : n ≡ packed_length size = packed_given size n e in
    let groups : 8 * (n / 8) ≡ n = omega (arith, l) in
    let p = c.pack_all in
    counted_first _ _ n _ a.out.now _ e
    (filled_in (packed_byte a.raw.now) (packed_length size) n a.out.now p.new.out l (fits n (length a.out.now) c.room.result c.room.ensures c.in_ok-room.field-0 c.in_ok-room.was)
    (p.ensures ∙ ap (λ (m : ℕ). window a.out.now 0 (tab (packed_byte a.raw.now) m)) groups))
