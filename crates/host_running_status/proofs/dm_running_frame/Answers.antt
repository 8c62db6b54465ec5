-- `dm_running_frame` meets its contract where the writer refuses: it refuses the same.
use Rattle.std.proofs.Common.{sym, ◌∙◌}
use Rattle.running_status.specs.RunningStatus.{frame_bytes}
use Rattle.host_running_status.proofs.Refused.{refused_call}
use Rattle.host_running_status.proofs.dm_running_frame.Goals as goal

pub returns-in-Err : goal.returns-in-Err
returns-in-Err c =
    refused_call c.args.state.now c.in-Some.running (frame_bytes c.args.frame.now) c.in-Err.e c.from-in-Err.result c.args.out.now c.write_frame.new.out
    (sym c.read_running.ensures ∙ c.in-Some.is) c.in-Err.ensures c.from-in-Err.ensures
