-- `ends_two` meets its contract, because a status that takes two data bytes is below C0, where they stay two numbers, or a bend's below F0, or F2:
-- a bend and a position are one number.
use mathlib.Core.Path.{ap, ap₂, ◌∙◌}
use Prim.Native.Nat.{ℕ}
use Rattle.stream.proofs.Told.{from_numbers}
use Rattle.stream.proofs.Whole.{plain_of_two, bend_of_two, common_of_two}
use Rattle.stream.proofs.outside.ends_two.Goals as goal

pub returns-then-status-lt192 : goal.returns-then-status-lt192
returns-then-status-lt192 c =
    let a = c.args in
    let p = c.requires in
    plain_of_two a.state.now p.0 a.held _ a.used c.status_in-status.ensures _ _ a.first a.second p.1 p.2 p.3 c.if-status-lt192.true
    (c.channel.ensures ∙ ap₂ (from_numbers a.used 1 c.status_in-status.result) c.from.ensures c.from-then-status-lt192.ensures) c.put_waiting.ensures

pub returns-then-status-lt240 : goal.returns-then-status-lt240
returns-then-status-lt240 c =
    let a = c.args in
    let p = c.requires in
    let value = c.from-value.ensures ∙ c.bend.ensures in
    bend_of_two a.state.now p.0 a.held _ a.used c.status_in-status.ensures _ _ a.first a.second p.1 p.2 p.3 c.if-status-lt192.false
    c.if-status-lt240.true (c.channel-then-status-lt240.ensures ∙ ap (λ (x : ℕ). from_numbers a.used 1 c.status_in-status.result x 0) value)
    c.put_waiting-then-status-lt240.ensures

pub returns : goal.returns
returns c =
    let a = c.args in
    let p = c.requires in
    let value = c.from-value.ensures ∙ c.bend.ensures in
    common_of_two a.state.now p.0 a.held _ a.used c.status_in-status.ensures _ _ a.first a.second p.1 p.2 p.3 c.if-status-lt240.false
    (c.system_common.ensures ∙ ap (λ (x : ℕ). from_numbers a.used 3 c.status_in-status.result x 0) value) c.put_waiting-2.ensures
