-- `moved_words` meets its contract: each word goes right behind the last.
use native.Mathlib.Omega.{arith}
use Rattle.stream.proofs.Moving.{copied_word}
use Rattle.stream.proofs.frame.moved_words.Goals as goal

pub loop-w-preserved : goal.loop-w-preserved
loop-w-preserved c =
    copied_word c.requires c.loop-w.invariant _ _ _ (omega arith) (omega arith) (λ i. omega (arith, c.type_inv.from i)) c.word_at-word.ensures c.if-word-ne0.false
    c.put_word.ensures
