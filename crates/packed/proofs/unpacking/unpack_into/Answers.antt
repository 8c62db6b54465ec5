-- `unpack_into` meets its contract: the length first, then the room, then the whole groups and what is left of the last.
use mathlib.Core.List.{List}
use Rattle.packed.proofs.Lengths.{unpacked_given}
use Rattle.packed.proofs.Groups.{unpacked_more}
use Rattle.packed.specs.Packed.{unpacked, unpacked_byte, raw_byte, unpacked_length, unpacked_length_of}
use Rattle.std.proofs.Common.{rules}
use Rattle.packed.proofs.Room.{fits, short}
use Rattle.refusal.proofs.Written.{counted_first, filled_in}
use Rattle.std.specs.Prelude.{Err}
use Rattle.refusal.specs.Outcome.{gives, answered, Writes}
use Rattle.packed.specs.Packed.{unpack_write}
use Rattle.laws.proofs.Tabulate.{length_tab}
use Rattle.laws.specs.Window.{window}
use Rattle.laws.specs.Tabulate.{tab}
use lib.ListN.{length}
use native.Mathlib.Omega.{arith}
use Prim.Native.Nat.{ℕ, ◌+◌, ◌*◌, ◌-◌, ◌/◌}
use mathlib.Core.Path.{◌≡◌, refl, sym, ◌∙◌, ap}
use Rattle.packed.proofs.unpacking.unpack_into.Goals as goal

pub returns-in_err-room : goal.returns-in_err-room
returns-in_err-room c = let a = c.args in
    let n = c.in_ok-needed.needed in
    let size = length a.run.now in
    let e : gives n ≡ unpacked_length_of size =
    ap answered (sym c.in_ok-needed.was) ∙ c.unpacked_len.ensures in
    let count = length_tab (unpacked_byte a.run.now) (unpacked_length size) ∙ sym (unpacked_given size n e).0 in
    let told : Writes (unpack_write a.run.now (length a.out.now)) (Err c.in_err-room.field-0.0) a.out.now a.out.now = counted_first _ _ n _ _ _ e
    (short n (length a.out.now) c.room.result c.room.ensures c.in_err-room.field-0.0 (unpacked a.run.now) a.out.now c.in_err-room.was count refl) in
    search rules

pub returns-then-whole-needed : goal.returns-then-whole-needed
returns-then-whole-needed c = let a = c.args in
    let n = c.in_ok-needed.needed in
    let size = length a.run.now in
    let f = unpacked_byte a.run.now in
    let g = size / 8 in
    let e : gives n ≡ unpacked_length_of size =
    ap answered (sym c.in_ok-needed.was) ∙ c.unpacked_len.ensures in
    let l : n ≡ unpacked_length size = (unpacked_given size n e).0 in
    let room = (fits n (length a.out.now) c.room.result c.room.ensures c.in_ok-room.field-0 c.in_ok-room.was) in
    let sum : 7 * g + (n - 7 * g) ≡ n = omega (arith, l, c.if-whole-needed.true) in
    let p = c.unpack_group in
    counted_first _ _ n _ a.out.now _ e
    (filled_in f (unpacked_length size) n a.out.now p.new.out l room
    (p.ensures ∙ ap (λ (o : List ℕ). window o (7 * g) (tab (raw_byte a.run.now (8 * g)) (n - 7 * g))) c.unpack_groups.ensures
    ∙ unpacked_more a.run.now a.out.now g (n - 7 * g) (omega (arith, l)) (omega (arith, l, sum, room))
    ∙ ap (λ (m : ℕ). window a.out.now 0 (tab f m)) sum))

pub returns-else-whole-needed : goal.returns-else-whole-needed
returns-else-whole-needed c = let a = c.args in
    let n = c.in_ok-needed.needed in
    let size = length a.run.now in
    let f = unpacked_byte a.run.now in
    let e : gives n ≡ unpacked_length_of size =
    ap answered (sym c.in_ok-needed.was) ∙ c.unpacked_len.ensures in
    let l : n ≡ unpacked_length size = (unpacked_given size n e).0 in
    let all : 7 * (size / 8) ≡ n = omega (arith, l, c.if-whole-needed.false) in
    let w = c.unpack_groups in
    counted_first _ _ n _ a.out.now _ e
    (filled_in f (unpacked_length size) n a.out.now w.new.out l (fits n (length a.out.now) c.room.result c.room.ensures c.in_ok-room.field-0 c.in_ok-room.was)
    (w.ensures ∙ ap (λ (m : ℕ). window a.out.now 0 (tab f m)) all))
