-- What the two loops of `first_held` keep: nothing is found yet, since no key that was looked at is held.
use Rattle.std.proofs.Common.{◌≡◌, ◌<◌, ◌+◌, ◌*◌, None}
use Rattle.held_keys.proofs.First.{NoneBelow}
use Rattle.held_keys.proofs.first_held.Given as goal

-- no key before this one is held
abbrev pub invariant-loop-key : goal.invariant-loop-key
invariant-loop-key l = record { inside : l.channel < 16; looking : l.found ≡ None; none : NoneBelow l.keys (128 * l.channel + l.key) }

-- no key of the channels before this one is held
abbrev pub invariant-channels : goal.invariant-channels
invariant-channels l = record { looking : l.found ≡ None; none : NoneBelow l.keys (128 * l.channel) }
