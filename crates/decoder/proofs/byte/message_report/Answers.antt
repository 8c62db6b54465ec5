-- `message_report` meets its contract: a channel message if the bytes are one, else a common one.
use Rattle.std.proofs.Common.{rules}
use Rattle.decoder.specs.Step.{message_report}
use Rattle.decoder.proofs.byte.message_report.Goals as goal

pub returns-in-Some : goal.returns-in-Some
unfolding message_report
returns-in-Some c = search rules

pub returns-in-None : goal.returns-in-None
unfolding message_report
returns-in-None c = search rules
