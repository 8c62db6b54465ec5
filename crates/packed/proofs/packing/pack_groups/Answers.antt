-- `pack_groups` meets its contract: after g turns the bytes of g groups stand at the front.
use Rattle.packed.proofs.Groups.{filled_more, packed_more}
use Rattle.packed.specs.Packed.{packed_byte, group_byte}
use native.Mathlib.Omega.{arith}
use Prim.Native.Nat.{◌*◌}
use Rattle.packed.proofs.packing.pack_groups.Goals as goal

pub loop-g-preserved : goal.loop-g-preserved
loop-g-preserved c = let a = c.args in
    let l = c.loop-g in
    let p = c.pack_group in
    filled_more (packed_byte a.raw.now) 8 a.out.now l.out _ l.g (group_byte a.raw.now (7 * l.g)) l.invariant p.ensures
    (packed_more a.raw.now a.out.now l.g (omega arith))
