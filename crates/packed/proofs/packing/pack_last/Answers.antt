-- `pack_last` meets its contract: the group of the bytes taken out is the group that they make in their place.
use Rattle.packed.proofs.Groups.{group_taken}
use Rattle.laws.specs.Window.{window}
use mathlib.Core.List.{List}
use Prim.Native.Nat.{ℕ}
use native.Mathlib.Omega.{arith}
use mathlib.Core.Path.{ap, ◌∙◌}
use Rattle.packed.proofs.packing.pack_last.Goals as goal

pub returns : goal.returns
returns c = let a = c.args in
    let l = c.loop-i in
    c.pack_group.ensures ∙ ap (λ (xs : List ℕ). window a.out.now a.at xs)
    (group_taken a.raw.now l.filled a.from (λ i h. l.invariant.1 i (omega arith)))
