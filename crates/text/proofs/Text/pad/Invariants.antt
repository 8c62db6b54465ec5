-- What the loop of `pad` keeps: a space for each turn stands behind the text, as many as have room.
use Rattle.std.proofs.Common.{◌≡◌, ◌++◌, take, replicate}
use Rattle.text.specs.Text.{shown}
use Rattle.text.proofs.Text.pad.Given as goal

abbrev pub invariant-loop : goal.invariant-loop
invariant-loop g l = shown l.self ≡ take g.row.N (shown l.initial.self ++ replicate l.counter 32)
