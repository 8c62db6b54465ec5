-- All that holds of a caller's lists of calls from a state on.
use Rattle.damage.specs.Caller.{Caller}
use Rattle.damage.specs.Condition3.{Condition3}
use Rattle.damage.specs.Untouched.{NoneLost}
use Rattle.damage.specs.Meaning.{CallsMean, Condition3Fixed}

-- condition 3 as the paper has it, and its first sentence; and what the definitions under 2 add
pub record Promises (c : Caller) (start : c.State) : Type 0 where
  pub condition_3 : Condition3 c start
  pub none_lost : NoneLost c start
  pub condition_3_fixed : Condition3Fixed c start
  pub calls_mean : CallsMean c start
