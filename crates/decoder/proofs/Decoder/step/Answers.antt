-- `Decoder::step` meets its contract: each arm does what the byte's class does.
use Rattle.decoder.proofs.Steps.{data_fits, data_over, data_plain, end_fits, end_over, end_plain, step_by}
use Rattle.decoder.proofs.Limit.{limit_is}
use Rattle.decoder.specs.State.{limit}
use Rattle.decoder.specs.declared.Class.TheVariants as k
use borrow.Author.Tests.{not-true, not-false}
use mathlib.Core.Path.{refl, sym, ◌∙◌, ap}
use Rattle.decoder.specs.Step.{silent}
use Prim.Native.Nat.{◌≤◌, ◌<◌}
use native.Mathlib.Omega.{arith}
use Rattle.decoder.proofs.Decoder.step.Goals as goal

pub returns-then-not-self : goal.returns-then-not-self
returns-then-not-self c = let a = c.args in
    let eqs = data_plain a.self a.store.now a.byte (not-true a.self.in_sysex c.if-not-self.true) in
    step_by k.Data a.self a.store.now a.byte (sym c.class_of-class.ensures ∙ c.in-Data.is) _ _
    (c.collect.ensures ∙ sym eqs.0) (sym eqs.1)

pub returns-then-at-ge-MAX_SYSEX_LEN : goal.returns-then-at-ge-MAX_SYSEX_LEN
returns-then-at-ge-MAX_SYSEX_LEN c =
    let a = c.args in
    let over : limit ≤ a.self.len = omega (arith, limit_is) in
    let eqs = data_over a.self a.store.now a.byte (not-false a.self.in_sysex c.if-not-self.false) over in
    step_by k.Data a.self a.store.now a.byte (sym c.class_of-class.ensures ∙ c.in-Data.is) _ _
    (c.too_long.ensures ∙ sym eqs.0) (sym eqs.1)

pub returns-then-not-self-2 : goal.returns-then-not-self-2
returns-then-not-self-2 c =
    let a = c.args in
    let eqs = end_plain a.self a.store.now a.byte (not-true a.self.in_sysex c.if-not-self-2.true) in
    step_by k.End a.self a.store.now a.byte (sym c.class_of-class.ensures ∙ c.in-End.is) _ _
    (c.silent-then-not-self-2.ensures ∙ ap silent c.cleared-next.ensures ∙ sym eqs.0) (sym eqs.1)

pub returns-then-at-lt-MAX_SYSEX_LEN : goal.returns-then-at-lt-MAX_SYSEX_LEN
returns-then-at-lt-MAX_SYSEX_LEN c =
    let a = c.args in
    let fits : a.self.len < limit = omega (arith, limit_is) in
    let eqs = end_fits a.self a.store.now a.byte (not-false a.self.in_sysex c.if-not-self-2.false) fits in
    step_by k.End a.self a.store.now a.byte (sym c.class_of-class.ensures ∙ c.in-End.is) _ _
    (rw (c.reporting.ensures, c.cleared-next.ensures) (sym eqs.0)) (sym eqs.1)

pub returns-else-at-ge-MAX_SYSEX_LEN : goal.returns-else-at-ge-MAX_SYSEX_LEN
returns-else-at-ge-MAX_SYSEX_LEN c =
    let a = c.args in
    let fits : a.self.len < limit = omega (arith, limit_is) in
    let eqs = data_fits a.self a.store.now a.byte (not-false a.self.in_sysex c.if-not-self.false) fits in
    step_by k.Data a.self a.store.now a.byte (sym c.class_of-class.ensures ∙ c.in-Data.is) _ _
    (rw (c.silent.ensures, c.longer.ensures) (sym eqs.0)) (sym eqs.1)

pub returns-in-Held : goal.returns-in-Held
returns-in-Held c = let a = c.args in
    step_by k.Held a.self a.store.now a.byte (sym c.class_of-class.ensures ∙ c.in-Held.is) _ _
    (rw (c.interrupting.ensures, c.holding.ensures)) refl

pub returns-in-Start : goal.returns-in-Start
returns-in-Start c = let a = c.args in
    step_by k.Start a.self a.store.now a.byte (sym c.class_of-class.ensures ∙ c.in-Start.is) _ _
    (rw (c.interrupting-in-Start.ensures, c.opened.ensures)) refl

pub returns-in-Undefined : goal.returns-in-Undefined
returns-in-Undefined c = let a = c.args in
    step_by k.Undefined a.self a.store.now a.byte (sym c.class_of-class.ensures ∙ c.in-Undefined.is) _ _
    (rw (c.interrupting-in-Undefined.ensures, c.cleared.ensures)) refl

pub returns-in-Tune : goal.returns-in-Tune
returns-in-Tune c = let a = c.args in
    step_by k.Tune a.self a.store.now a.byte (sym c.class_of-class.ensures ∙ c.in-Tune.is) _ _
    (rw (c.interrupting-in-Tune.ensures, c.cleared-in-Tune.ensures)) refl

pub returns-else-at-lt-MAX_SYSEX_LEN : goal.returns-else-at-lt-MAX_SYSEX_LEN
returns-else-at-lt-MAX_SYSEX_LEN c =
    let a = c.args in
    let over : limit ≤ a.self.len = omega (arith, limit_is) in
    let eqs = end_over a.self a.store.now a.byte (not-false a.self.in_sysex c.if-not-self-2.false) over in
    step_by k.End a.self a.store.now a.byte (sym c.class_of-class.ensures ∙ c.in-End.is) _ _
    (c.too_long-in-End.ensures ∙ sym eqs.0) (sym eqs.1)

pub returns-in-Realtime : goal.returns-in-Realtime
returns-in-Realtime c = let a = c.args in
    step_by k.Realtime a.self a.store.now a.byte (sym c.class_of-class.ensures ∙ c.in-Realtime.is) _ _
    (rw (c.uninterrupted.ensures, c.realtime.ensures)) refl
