-- The loop of `data_run` has seen data bytes alone ahead of byte i, so they belong to the run.
use Rattle.octets.specs.quick.Data.{data_run}
use Prim.Native.Nat.{◌≤◌}
use Rattle.octets.proofs.data_bytes.data_run.Given as goal

abbrev pub invariant-loop-i : goal.invariant-loop-i
invariant-loop-i l = l.i ≤ data_run l.bytes
