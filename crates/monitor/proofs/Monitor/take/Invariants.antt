-- Fewer bytes are left at each turn.
use Rattle.std.proofs.Common.{length}
use Rattle.monitor.proofs.Monitor.take.Given as goal

abbrev pub decreases-loop-taken : goal.decreases-loop-taken
decreases-loop-taken g l = length l.rest
