-- The loop of `moved_run` has copied the data bytes ahead of byte i.
use Rattle.stream.specs.quick.Going.{Copied}
use Rattle.stream.proofs.frame.moved_run.Given as goal

abbrev pub invariant-loop-i : goal.invariant-loop-i
invariant-loop-i l = Copied l.i l.from l.fn.to l.to
