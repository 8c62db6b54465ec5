-- The loop of `unpack_group` has written the first i raw bytes of the group to its place in `out`.
use Rattle.packed.specs.Packed.{raw_byte}
use Rattle.laws.specs.Window.{window}
use Rattle.laws.specs.Tabulate.{tab}
use mathlib.Core.Path.{◌≡◌}
use Rattle.packed.proofs.unpacking.unpack_group.Given as goal

abbrev pub invariant-loop-i : goal.invariant-loop-i
invariant-loop-i l = l.out ≡ window l.initial.out l.to (tab (raw_byte l.run l.at) l.i)
