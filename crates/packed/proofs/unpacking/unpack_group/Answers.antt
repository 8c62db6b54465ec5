-- `unpack_group` meets its contract: after i turns i raw bytes of the group are in place.
use Rattle.packed.proofs.Groups.{stored_more}
use Rattle.packed.specs.Packed.{raw_byte}
use lib.ListN.{set}
use native.Mathlib.Omega.{arith}
use Prim.Native.Nat.{ℕ, ◌+◌}
use mathlib.Core.List.{List}
use mathlib.Core.Path.{ap₂, ◌∙◌}
use Rattle.packed.proofs.unpacking.unpack_group.Goals as goal

pub loop-i-preserved : goal.loop-i-preserved
loop-i-preserved c = let a = c.args in
    let l = c.loop-i in
    ap₂ (λ (out : List ℕ) (byte : ℕ). set out (a.to + l.i) byte) l.invariant c.top_bit_back.ensures
    ∙ stored_more (raw_byte a.run.now a.at) a.out.now a.to l.i (omega arith)
