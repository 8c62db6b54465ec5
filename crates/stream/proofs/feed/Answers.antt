-- `feed` meets its contract: 20 for a state or a store of another length, else the call on the store's front.
use mathlib.Core.Path.{refl}
use native.Mathlib.Omega.{arith}
use Rattle.decoder.proofs.Limit.{limit_is}
use Rattle.decoder.proofs.Longer.{front_back}
use Rattle.stream.proofs.Reading.{refused_so, short_store, long_state, fed_front}
use Rattle.stream.proofs.feed.Goals as goal

pub returns-in_default : goal.returns-in_default
returns-in_default c =
    let a = c.args in
    refused_so a.state.now _ a.store.now _ a.bytes.now _ refl refl
    (short_store a.state.now a.store.now a.bytes.now (omega (arith, limit_is, c.in_default.ensures.cases)))
    c.refused.ensures

pub returns-in_default-as_mut_array : goal.returns-in_default-as_mut_array
returns-in_default-as_mut_array c =
    let a = c.args in
    refused_so a.state.now _ a.store.now _ a.bytes.now _ refl (front_back a.store.now c.in-Some.store.now _ c.in-Some.ensures.cases)
    (long_state a.state.now a.store.now a.bytes.now c.in_default-as_mut_array.ensures.cases)
    c.refused-in_default-as_mut_array.ensures

pub returns : goal.returns
returns c =
    let a = c.args in
    let front = c.in-Some.ensures.cases in
    fed_front a.state.now a.store.now c.in-Some.store.now a.bytes.now _ front (omega (arith, limit_is)) _ _ _
    (rw c.in-Some-as_mut_array.ensures.cases.same at c.feed_lent.ensures)
