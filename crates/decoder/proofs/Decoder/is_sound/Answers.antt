-- `Decoder::is_sound` meets its contract: its tests are the definition's, in the same order.
use Rattle.std.proofs.Common.{rules}
use Rattle.decoder.specs.State.{limit}
use Rattle.decoder.proofs.Decoder.is_sound.Goals as goal

pub returns-then-is_none : goal.returns-then-is_none
unfolding limit
returns-then-is_none c = search rules

pub returns-else-is_none : goal.returns-else-is_none
unfolding limit
returns-else-is_none c = search rules
