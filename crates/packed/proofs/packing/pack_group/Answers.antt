-- `pack_group` meets its contract: after i turns i raw bytes are in place and their top bits gathered, and the top bits of all seven, stored
-- ahead of them, make the group whole.
use Rattle.packed.proofs.Groups.{packing_none, packing_more, packing_done}
use native.Mathlib.Omega.{arith}
use Prim.Native.Nat.{◌+◌}
use mathlib.Core.Path.{refl}
use Rattle.packed.proofs.packing.pack_group.Goals as goal

pub loop-i-init : goal.loop-i-init
loop-i-init c = packing_none c.args.raw.now c.args.from c.args.out.now c.args.at

pub loop-i-preserved : goal.loop-i-preserved
loop-i-preserved c = let a = c.args in
    let l = c.loop-i in
    packing_more a.raw.now a.from a.out.now a.at l.out l.high l.i _
    c.low_seven.result c.with_top_bit-high.result l.invariant
    c.requires.1 c.loop-i-test.true
    refl (omega (arith, c.type_inv.raw (a.from + l.i))) c.low_seven.ensures c.with_top_bit-high.ensures

pub returns : goal.returns
returns c = let a = c.args in
    let l = c.loop-i in
    packing_done a.raw.now a.from a.out.now a.at l.out l.high l.i l.invariant c.requires.1 (omega arith)
