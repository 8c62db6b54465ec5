-- `Decoder::feed` meets its contract: 20 for an unsound state and for a short store; then it walks over the store's front.
use Rattle.decoder.specs.State.{limit}
use Rattle.decoder.proofs.Calling.{short_refused, unsound_refused, ready_walks, feeds_refused, feeds}
use Rattle.decoder.proofs.Limit.{limit_is}
use Rattle.decoder.proofs.Longer.{walks_front}
use mathlib.Core.Path.{sym, ◌∙◌}
use lib.ListN.{length}
use Prim.Native.Nat.{◌<◌, ◌≤◌}
use native.Mathlib.Omega.{arith}
use Rattle.decoder.proofs.Decoder.feed.Goals as goal

pub returns-then-not-is_sound : goal.returns-then-not-is_sound
returns-then-not-is_sound c = let a = c.args in
    feeds_refused _ a.store.now (unsound_refused a.self a.store.now a.bytes.now (sym c.is_sound.ensures ∙ c.if-not-is_sound.true))

pub returns-in_default : goal.returns-in_default
returns-in_default c = let a = c.args in
    let short : length a.store.now < limit = omega (arith, limit_is, c.in_default.ensures.cases) in
    feeds_refused _ a.store.now (short_refused a.self a.store.now a.bytes.now short)

pub returns : goal.returns
returns c = let a = c.args in
    let w = c.walk in
    let front = c.in-Some.ensures.cases in
    let room : limit ≤ length a.store.now = omega (arith, limit_is, front.enough) in
    feeds _ _ w.result a.store.now _
    (ready_walks a.self a.store.now a.bytes.now room (sym c.is_sound.ensures ∙ c.if-not-is_sound.false))
    (walks_front a.self a.store.now c.in-Some.front.now a.bytes.now _ front (omega (arith, limit_is)) w.result w.new.store w.ensures)
