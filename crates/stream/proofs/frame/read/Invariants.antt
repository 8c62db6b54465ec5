-- The loop of `read` keeps the frame that the definition's walk has come to, of so many bytes in the store; at each turn fewer bytes are left.
use Prim.Native.Nat.{◌-◌}
use lib.ListN.{length, drop}
use Rattle.decoder.specs.Call.{walk, further}
use Rattle.stream.specs.quick.Bytes.{open_state}
use Rattle.stream.proofs.InFrame.{InFrame}
use Rattle.stream.proofs.frame.read.Given as goal

abbrev pub invariant-loop-used : goal.invariant-loop-used
invariant-loop-used l = InFrame
    (further l.from (walk (open_state l.start l.initial.state) l.initial.store (drop l.from l.bytes))) l.initial.state l.initial.store l.bytes l.state l.store l.at l.used

abbrev pub decreases-loop-used : goal.decreases-loop-used
decreases-loop-used l = length l.bytes - l.used
