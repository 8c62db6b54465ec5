-- The loop of `walk` keeps what the definition's walk has come to, said by the numbers outside a frame or by an open frame's length; at each turn fewer
-- bytes are left.
use Prim.Native.Nat.{◌-◌}
use lib.ListN.{length}
use Rattle.decoder.specs.Call.{walk}
use Rattle.stream.specs.State.{state_of}
use Rattle.stream.proofs.Reached.{Reached}
use Rattle.stream.proofs.outside.walk.Given as goal

abbrev pub invariant-loop-at : goal.invariant-loop-at
invariant-loop-at l = Reached (walk (state_of l.initial.state) l.initial.store l.bytes)
    l.initial.state l.initial.store l.bytes l.state l.store l.at l.middle l.first l.i

abbrev pub decreases-loop-at : goal.decreases-loop-at
decreases-loop-at l = length l.bytes - l.i
