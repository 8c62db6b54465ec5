-- The loop of `unpack_groups` has written the raw bytes of the first g groups to the front of `out`.
use Rattle.packed.specs.Packed.{unpacked_byte}
use Rattle.laws.specs.Window.{window}
use Rattle.laws.specs.Tabulate.{tab}
use Prim.Native.Nat.{◌*◌}
use mathlib.Core.Path.{◌≡◌}
use Rattle.packed.proofs.unpacking.unpack_groups.Given as goal

abbrev pub invariant-loop-g : goal.invariant-loop-g
invariant-loop-g l = l.out ≡ window l.initial.out 0 (tab (unpacked_byte l.run) (7 * l.g))
