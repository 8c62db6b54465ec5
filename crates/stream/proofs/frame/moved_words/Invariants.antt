-- The loop of `moved_words` has copied the words ahead of word w, and all of their bytes are data bytes.
use Prim.Native.Nat.{◌*◌}
use Rattle.stream.specs.quick.Going.{Copied}
use Rattle.stream.proofs.frame.moved_words.Given as goal

abbrev pub invariant-loop-w : goal.invariant-loop-w
invariant-loop-w l = Copied (l.w * 8) l.from l.initial.to l.to
