-- `dm_held_fresh` meets its contract: the bytes of a record in which no key is held.
use Rattle.std.proofs.Common.{ap, ◌∙◌}
use Rattle.held_keys.specs.HeldBytes.{bytes_of_keys}
use Rattle.host_held_keys.proofs.Applied.{fresh_written}
use Rattle.host_held_keys.proofs.dm_held_fresh.Goals as goal

pub returns : goal.returns
returns c =
    fresh_written c.args.keys.now c.put_keys.new.bytes c.from-2.result c.in-Some.ensures.cases.long (c.put_keys.ensures ∙ ap bytes_of_keys c.new.ensures)
    c.from-2.ensures
