-- `feed_front` meets its contract: a call where bytes are left uses one of them or more, and no more than are left.
use Rattle.std.proofs.Common.{◌≡◌, ◌-◌, ℕ, List, length, drop, take, ap, sym, refl, ◌∙◌, arith, length-drop}
use lib.Seq.{take_all}
use borrow.Author.Tests.{eqb-true}
use Rattle.decoder_in_place.proofs.Front.{ok_gives, uses, nothing_left, front_given}
use Rattle.decoder_in_place.proofs.feed_front.Goals as goal

pub returns-then-is_empty : goal.returns-then-is_empty
returns-then-is_empty c =
    let a = c.args in
    nothing_left a.state.now a.store.now a.rest (eqb-true (length a.rest.now) 0 (sym c.is_empty.ensures ∙ c.if-is_empty.true))

pub slice_bounds-left-count : goal.slice_bounds-left-count
slice_bounds-left-count c =
    let a = c.args in
    let u = uses a.state.now a.store.now a.rest.now c.in_ok-taken.taken (sym c.is_empty.ensures ∙ c.if-is_empty.false)
    (ok_gives _ _ _ (sym c.ok.ensures.value ∙ c.in_ok-taken.was) c.feed.ensures.answers) in
    omega (arith, u.some, u.within)

pub slice_bounds-left-start : goal.slice_bounds-left-start
slice_bounds-left-start c =
    let a = c.args in
    let u = uses a.state.now a.store.now a.rest.now c.in_ok-taken.taken (sym c.is_empty.ensures ∙ c.if-is_empty.false)
    (ok_gives _ _ _ (sym c.ok.ensures.value ∙ c.in_ok-taken.was) c.feed.ensures.answers) in
    omega (arith, u.some, u.within)

pub returns : goal.returns
returns c =
    let a = c.args in
    let t = c.in_ok-taken.taken in
    let l : List ℕ = a.rest.now in
    let u = uses a.state.now a.store.now l t (sym c.is_empty.ensures ∙ c.if-is_empty.false)
    (ok_gives _ _ _ (sym c.ok.ensures.value ∙ c.in_ok-taken.was) c.feed.ensures.answers) in
    let left : take (length l - t.used) (drop t.used l) ≡ drop t.used l = take_all (length l - t.used) (drop t.used l) (omega (arith, length-drop t.used l)) in
    record {
      answers = front_given _ t l u.some (ok_gives _ _ _ (sym c.ok.ensures.value ∙ c.in_ok-taken.was) c.feed.ensures.answers);
      left = record { lies = refl; reads = left; fewer = omega (arith, ap length left, length-drop t.used l, u.one, u.within) };
      keeps = c.feed.ensures.keeps;
      leaves = c.feed.ensures.leaves;
    }
