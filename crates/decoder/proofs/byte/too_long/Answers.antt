-- `too_long` meets its contract: the code's constant is the limit.
use Rattle.std.proofs.Common.{rules}
use Rattle.decoder.specs.State.{limit}
use Rattle.decoder.proofs.byte.too_long.Goals as goal

pub returns : goal.returns
unfolding limit
returns c = search rules
