-- `dm_feed` as a C host calls it.
use Rattle.std.specs.Prelude.{List, ℕ}
use Rattle.damage.specs.Caller.{Caller, sole_caller}
use Rattle.stream.specs.declared.FedAnswer.{FedAnswer}
use Rattle.stream.specs.Feed.{feed_call, StreamFed}
use Rattle.host_damage.specs.Numbers.{numbers_tell, numbers_count}

-- the caller of `dm_feed`, by its contract: the state is an array of bytes
abbrev pub by_host : Caller
by_host =
    sole_caller
    (λ (state store bytes : List ℕ) (a : FedAnswer) (next left : List ℕ). StreamFed (feed_call state store bytes) a state next store left)
    numbers_count
    numbers_tell
