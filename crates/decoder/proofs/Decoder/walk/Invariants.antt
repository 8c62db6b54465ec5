-- The loop of `Decoder::walk` has done what the definition does: walked over the bytes used so far, it leaves the walk over the rest.
use Rattle.decoder.proofs.Walking.{Walking}
use Rattle.decoder.proofs.Decoder.walk.Given as goal

abbrev pub invariant-loop-i : goal.invariant-loop-i
invariant-loop-i l = Walking l.initial.state l.initial.store l.bytes l.state l.store l.i
