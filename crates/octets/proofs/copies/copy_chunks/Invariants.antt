-- The loop of `copy_chunks` has copied the chunks ahead of chunk c.
use mathlib.Core.List.{◌++◌}
use mathlib.Core.Path.{◌≡◌}
use Prim.Native.Nat.{◌*◌}
use lib.ListN.{take, drop}
use Rattle.octets.proofs.copies.copy_chunks.Given as goal

abbrev pub invariant-loop-c : goal.invariant-loop-c
invariant-loop-c l = l.to ≡ take (l.c * 16) l.from ++ drop (l.c * 16) l.initial.to
