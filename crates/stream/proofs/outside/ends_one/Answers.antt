-- `ends_one` meets its contract, because a status that takes one data byte is a channel's below F0 and stays in force, or is F1 or F3 and goes.
use mathlib.Core.Path.{ap, ◌∙◌}
use Prim.Native.Nat.{ℕ}
use Rattle.stream.proofs.Told.{from_numbers}
use Rattle.stream.proofs.Whole.{channel_of_one, common_of_one}
use Rattle.stream.proofs.outside.ends_one.Goals as goal

pub returns-then-status-lt240 : goal.returns-then-status-lt240
returns-then-status-lt240 c =
    let a = c.args in
    let p = c.requires in
    channel_of_one a.state.now p.0 a.held _ a.used c.status_in-status.ensures _ _ a.only p.1 p.2 c.if-status-lt240.true
    (c.channel.ensures ∙ ap (λ (x : ℕ). from_numbers a.used 1 c.status_in-status.result x 0) c.from.ensures) c.put_waiting.ensures

pub returns : goal.returns
returns c =
    let a = c.args in
    let p = c.requires in
    common_of_one a.state.now p.0 a.held _ a.used c.status_in-status.ensures _ _ a.only p.1 p.2 c.if-status-lt240.false
    (c.system_common.ensures ∙ ap (λ (x : ℕ). from_numbers a.used 3 c.status_in-status.result x 0) c.from-2.ensures) c.put_waiting-2.ensures
