-- `moved_run` meets its contract: each byte goes right behind the last.
use Rattle.stream.proofs.Moving.{copied_byte}
use Rattle.stream.proofs.frame.moved_run.Goals as goal

pub loop-i-preserved : goal.loop-i-preserved
loop-i-preserved c = copied_byte c.requires c.loop-i.invariant c.loop-i-test.true c.if-byte-ge128.false
