-- `CommonStatus::encoded_len` meets its contract: each status's data bytes can be counted.
use Rattle.std.proofs.Common.{rules}
use Rattle.wire.specs.Status.{data_length}
use Rattle.wire.proofs.system_common.CommonStatus.encoded_len.Goals as goal

pub returns-in-TimeCodeQuarterFrame : goal.returns-in-TimeCodeQuarterFrame
unfolding data_length
returns-in-TimeCodeQuarterFrame c = search rules

pub returns-in-SongPosition : goal.returns-in-SongPosition
unfolding data_length
returns-in-SongPosition c = search rules

pub returns-in-TuneRequest : goal.returns-in-TuneRequest
unfolding data_length
returns-in-TuneRequest c = search rules
