-- The loop of `pack_groups` has written the first g groups to the front of `out`.
use Rattle.packed.specs.Packed.{packed_byte}
use Rattle.laws.specs.Window.{window}
use Rattle.laws.specs.Tabulate.{tab}
use Prim.Native.Nat.{◌*◌}
use mathlib.Core.Path.{◌≡◌}
use Rattle.packed.proofs.packing.pack_groups.Given as goal

abbrev pub invariant-loop-g : goal.invariant-loop-g
invariant-loop-g l = l.out ≡ window l.initial.out 0 (tab (packed_byte l.raw) (8 * l.g))
