-- `feed_lent` meets its contract: 20 where the numbers say no sound state, else the walk.
use mathlib.Core.Path.{refl, sym, ◌∙◌}
use Prim.Native.Nat.{◌≤◌}
use native.Mathlib.Omega.{arith}
use lib.ListN.{length}
use Rattle.decoder.specs.State.{limit}
use Rattle.decoder.proofs.Limit.{limit_is}
use Rattle.stream.proofs.Reading.{refused_so, walked_so, taken_ready, taken_walks, untaken_refused}
use Rattle.stream.proofs.feed_lent.Goals as goal

pub returns-then-not-takes : goal.returns-then-not-takes
returns-then-not-takes c =
    let a = c.args in
    refused_so a.state.now _ a.store.now _ a.bytes.now _ refl refl
    (untaken_refused a.state.now c.told-state c.fits-state a.store.now a.bytes.now
    (rw (c.four_at-front.ensures, c.four_at-above.ensures, c.four_at-middle.ensures) at (sym c.takes.ensures ∙ c.if-not-takes.true)))
    c.refused.ensures

pub walk-requires : goal.walk-requires
walk-requires c =
    let a = c.args in
    rw (c.four_at-front.ensures, c.four_at-middle.ensures)
    (taken_ready a.state.now c.told-state c.fits-state
    (rw (c.four_at-front.ensures, c.four_at-above.ensures, c.four_at-middle.ensures) at (sym c.takes.ensures ∙ c.if-not-takes.false)))

pub returns : goal.returns
returns c =
    let a = c.args in
    let room : limit ≤ length a.store.now = omega (arith, limit_is) in
    walked_so a.state.now a.store.now a.bytes.now _ _ _ _
    (taken_walks a.state.now c.told-state c.fits-state a.store.now a.bytes.now room
    (rw (c.four_at-front.ensures, c.four_at-above.ensures, c.four_at-middle.ensures) at (sym c.takes.ensures ∙ c.if-not-takes.false)))
    c.walk.ensures
