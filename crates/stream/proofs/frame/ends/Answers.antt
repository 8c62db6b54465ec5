-- `ends` meets its contract, because in an open frame each class of byte below F8 has one effect: F0 opens another frame, F7 ends it within the
-- limit, any other status byte breaks it off, and a data byte behind a run, or F7 beyond the limit, is too much for it.
use mathlib.Core.Path.{refl, ap₂, ◌∙◌}
use native.Mathlib.Omega.{arith}
use Rattle.decoder.proofs.Limit.{limit_is}
use Rattle.stream.specs.quick.Bytes.{put_middle}
use Rattle.stream.proofs.FrameSteps.{start_answers, held_answers, undefined_answers, tune_answers, end_answers, beyond_answers}
use Rattle.stream.proofs.frame.ends.Goals as goal
use Rattle.stream.proofs.frame.ends.Goals.{in_default-via-in-247+else-at-lt-MAX_SYSEX_LEN, in_default-via-in_default+then-byte-lt128}
use Rattle.stream.proofs.frame.ends.Goals.{in_default-via-in_default+else-byte-lt128+else-byte-lt244+else-byte-lt246}

pub returns-then-byte-eq240 : goal.returns-then-byte-eq240
returns-then-byte-eq240 c =
    let a = c.args in
    start_answers a.state.now c.requires.0 a.at a.store.now a.byte a.used _ _ _ c.if-byte-eq240.true c.interrupted.ensures c.put_open.ensures refl

pub returns-in-128-to-243 : goal.returns-in-128-to-243
returns-in-128-to-243 c =
    let a = c.args in
    held_answers a.state.now c.requires.0 a.at a.store.now a.byte a.used _ _ _ (omega arith) (omega arith) c.if-byte-eq240.false c.interrupted-in-128-to-243.ensures
    (c.put_middle.ensures ∙ ap₂ put_middle c.held_number.ensures c.put_closed.ensures) refl

pub returns-in-244-to-245 : goal.returns-in-244-to-245
returns-in-244-to-245 c =
    let a = c.args in
    undefined_answers a.state.now c.requires.0 a.at a.store.now a.byte a.used _ _ _ (omega arith) (omega arith) c.interrupted-in-244-to-245.ensures c.put_closed.ensures refl

pub returns-in-246 : goal.returns-in-246
returns-in-246 c =
    let a = c.args in
    tune_answers a.state.now c.requires.0 a.at a.store.now a.byte a.used _ _ _ c.in-246.is c.interrupted_by_tune.ensures c.put_closed.ensures refl

pub returns-in-247 : goal.returns-in-247
returns-in-247 c =
    let a = c.args in
    end_answers a.state.now c.requires.0 a.at a.store.now a.byte a.used _ _ _ c.in-247.is (omega (arith, limit_is)) c.frame.ensures c.put_closed.ensures refl

pub returns-in_default : goal.returns-in_default
returns-in_default c =
    let a = c.args in
    let p = c.requires in
    beyond_answers a.state.now p.0 a.at a.store.now a.byte a.used _ _ _ p.2
    (λ l h. elim c.in_default.branch [
      | in_default-via-in-247+else-at-lt-MAX_SYSEX_LEN w ↦ omega (arith, w.in-247.is)
      | in_default-via-in_default+then-byte-lt128 w ↦ omega arith
      | in_default-via-in_default+else-byte-lt128+else-byte-lt244+else-byte-lt246 w ↦ omega arith
    ])
    (elim c.in_default.branch [
      | in_default-via-in-247+else-at-lt-MAX_SYSEX_LEN w ↦ omega (arith, limit_is, w.if-at-lt-MAX_SYSEX_LEN.false)
      | in_default-via-in_default+then-byte-lt128 w ↦ p.3 (omega arith)
      | in_default-via-in_default+else-byte-lt128+else-byte-lt244+else-byte-lt246 w ↦ absurd (omega arith)
    ])
    c.frame_too_long.ensures c.put_closed.ensures refl
