-- `Decoder::walk` meets its contract. The loop's invariant: the bytes used so far and the walk over the rest are the whole walk.
use Rattle.decoder.specs.Call.{Walked}
use Rattle.decoder.proofs.Walking.{walking_stops, walking_goes_on, walking_ends}
use mathlib.Core.Path.{sym, ◌∙◌, ap}
use Rattle.decoder.proofs.Decoder.walk.Goals as goal

pub returns-then-reports : goal.returns-then-reports
returns-then-reports c =
    let a = c.args in
    let l = c.loop-i in
    let s = c.step-done in
    let e = walking_stops a.self a.store.now a.bytes.now l.state l.store l.i l.invariant c.loop-i-test.true s.result
    s.new.store s.ensures.0 s.ensures.1 (sym c.reports.ensures ∙ c.if-reports.true) in
    record { told = sym (ap (λ (w : Walked). w.fed) e); left = sym (ap (λ (w : Walked). w.store) e) }

pub loop-i-preserved : goal.loop-i-preserved
loop-i-preserved c =
    let a = c.args in
    let l = c.loop-i in
    let s = c.step-done in
    walking_goes_on a.self a.store.now a.bytes.now l.state l.store l.i l.invariant c.loop-i-test.true s.result s.new.store
    s.ensures.0 s.ensures.1 (sym c.reports.ensures ∙ c.if-reports.false)

pub returns : goal.returns
returns c = let a = c.args in
    let l = c.loop-i in
    let e = walking_ends a.self a.store.now a.bytes.now l.state l.store l.i l.invariant c.loop-i-test.false in
    record { told = sym (ap (λ (w : Walked). w.fed) e); left = sym (ap (λ (w : Walked). w.store) e) }
