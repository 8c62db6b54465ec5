-- The loop of `pack_group` has written the low seven bits of the first i raw bytes and gathered their top bits.
use Rattle.packed.proofs.Groups.{Packing}
use Rattle.packed.proofs.packing.pack_group.Given as goal

abbrev pub invariant-loop-i : goal.invariant-loop-i
invariant-loop-i l = Packing l.raw l.from l.initial.out l.at l.out l.high l.i
