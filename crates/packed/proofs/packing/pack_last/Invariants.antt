-- The loop of `pack_last` has taken out the first i raw bytes of the group.
use lib.ListN.{length, get_or}
use Prim.Native.Nat.{ℕ, ◌+◌, ◌<◌}
use mathlib.Core.Path.{◌≡◌}
use Rattle.packed.proofs.packing.pack_last.Given as goal

abbrev pub invariant-loop-i : goal.invariant-loop-i
invariant-loop-i l = (length l.filled ≡ 7) × ((k : ℕ) → k < l.i → get_or l.filled k 0 ≡ get_or l.raw (l.from + k) 0)
