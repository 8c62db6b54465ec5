-- `table_row` meets its contract: the number that it takes for the command's place is that place, at which the command's row stands.
use denote.Enum.Declared.{tag_of}
use Rattle.command.specs.contracts.Command.{the_type}
use Rattle.command.proofs.Arms.{number_is_place}
use Rattle.command.proofs.Table.{row_at_place}
use Rattle.command.proofs.Command.table_row.Goals as goal

pub returns : goal.returns
returns c =
    let k = c.args.self in
    row_at_place k (tag_of the_type k) _ (number_is_place k)
