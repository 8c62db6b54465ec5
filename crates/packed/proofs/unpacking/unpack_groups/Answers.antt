-- `unpack_groups` meets its contract: after g turns the bytes of g groups stand at the front.
use Rattle.packed.proofs.Groups.{filled_more, unpacked_more}
use Rattle.packed.specs.Packed.{unpacked_byte, raw_byte}
use native.Mathlib.Omega.{arith}
use Prim.Native.Nat.{◌*◌}
use Rattle.packed.proofs.unpacking.unpack_groups.Goals as goal

pub loop-g-preserved : goal.loop-g-preserved
loop-g-preserved c = let a = c.args in
    let l = c.loop-g in
    let p = c.unpack_group in
    filled_more (unpacked_byte a.run.now) 7 a.out.now l.out _ l.g (raw_byte a.run.now (8 * l.g)) l.invariant p.ensures
    (unpacked_more a.run.now a.out.now l.g 7 (omega arith) (omega arith))
