-- `Decoder::longer` meets its contract: below the limit one more fits.
use Rattle.decoder.proofs.Limit.{limit_is}
use native.Mathlib.Omega.{arith}
use Rattle.decoder.proofs.Decoder.longer.Goals as goal

pub overflow_add-result : goal.overflow_add-result
overflow_add-result c = omega (arith, limit_is)
