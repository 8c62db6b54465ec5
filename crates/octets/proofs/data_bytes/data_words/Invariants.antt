-- The loop of `data_words` has seen data bytes alone ahead of word w, so they belong to the run.
use Rattle.octets.specs.quick.Data.{data_run}
use Prim.Native.Nat.{◌*◌, ◌≤◌}
use Rattle.octets.proofs.data_bytes.data_words.Given as goal

abbrev pub invariant-loop-w : goal.invariant-loop-w
invariant-loop-w l = l.w * 8 ≤ data_run l.bytes
