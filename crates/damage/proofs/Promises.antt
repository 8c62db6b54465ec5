-- All promises hold of any caller whose calls report what history says, because what history says of all that arrives is what condition 3 asks
-- for, and in that no untouched message is missing.
use Rattle.damage.specs.Caller.{Caller}
use Rattle.damage.specs.Meaning.{CallsMean}
use Rattle.damage.specs.Promises.{Promises}
use Rattle.damage.proofs.Condition3.{condition_3, condition_3_fixed}
use Rattle.damage.proofs.NoneLost.{none_lost}

pub promises : (c : Caller) (start : c.State) → CallsMean c start → Promises c start
promises c start mean =
    record {
      condition_3 = condition_3 c start mean;
      none_lost = none_lost c start (condition_3 c start mean);
      condition_3_fixed = condition_3_fixed c start mean;
      calls_mean = mean;
    }
