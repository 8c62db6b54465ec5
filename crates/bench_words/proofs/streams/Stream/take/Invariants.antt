-- Fewer bytes are left at each turn.
use Rattle.std.proofs.Common.{length}
use Rattle.bench_words.proofs.streams.Stream.take.Given as goal

abbrev pub decreases-loop-taken : goal.decreases-loop-taken
decreases-loop-taken g l = length l.rest
