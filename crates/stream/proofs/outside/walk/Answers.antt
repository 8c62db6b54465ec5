-- `walk` meets its contract. The loop's invariant: the numbers say the state that the walk has come to, or a frame is open.
use mathlib.Core.Path.{refl, sym, subst, ◌∙◌}
use Prim.Native.Nat.{ℕ, ◌+◌, ◌<◌}
use native.Mathlib.Omega.{arith}
use lib.ListN.{length, get_or}
use Rattle.decoder.specs.Call.{walk}
use Rattle.decoder.proofs.Limit.{limit_is, room_for_three}
use Rattle.stream.specs.State.{state_of}
use Rattle.stream.proofs.OutsideSteps.{first_leads, held_leads, cleared_leads, status_stays, status_without_pending, under_one, under_two, second_ends, only_ends}
use Rattle.stream.proofs.Reached.{Reached, walk_begins, outside_ends, outside_answers, outside_realtime, outside_tune, leads_on, f9_and_fd_on, stray_on, opens_on, part_of_run}
use Rattle.stream.proofs.outside.walk.Goals as goal

pub loop-at-init : goal.loop-at-init
loop-at-init c = let a = c.args in walk_begins a.at a.middle a.first a.state.now a.store.now a.bytes.now c.requires (omega (arith, limit_is))

pub returns-then-i-bytes : goal.returns-then-i-bytes
returns-then-i-bytes c =
    let l = c.loop-at in
    outside_ends l.invariant c.loop-at-test.true c.if-i-bytes.true _ _ _ c.quiet.ensures c.put_waiting.ensures refl

pub overflow_add-i-then-middle-eq0 : goal.overflow_add-i-then-middle-eq0
overflow_add-i-then-middle-eq0 c =
    let l = c.loop-at in
    let more : l.i < length c.args.bytes.now = omega (arith, l.invariant.within) in
    let on = stray_on l.invariant c.loop-at-test.true more (omega arith) c.if-middle-eq0.true _ (part_of_run _ _ _ c.data_run-i.ensures) in
    omega (arith, on.within)

pub loop-at-preserved-then-middle-eq0 : goal.loop-at-preserved-then-middle-eq0
loop-at-preserved-then-middle-eq0 c =
    let l = c.loop-at in
    let more : l.i < length c.args.bytes.now = omega (arith, l.invariant.within) in
    stray_on l.invariant c.loop-at-test.true more (omega arith) c.if-middle-eq0.true _ (part_of_run _ _ _ c.data_run-i.ensures)

pub returns-then-middle-ge-PENDING : goal.returns-then-middle-ge-PENDING
returns-then-middle-ge-PENDING c =
    let l = c.loop-at in
    let more : l.i < length c.args.bytes.now = omega (arith, l.invariant.within) in
    let h = l.invariant.outside c.loop-at-test.true in
    let e = c.ends_two.ensures in
    outside_answers l.invariant c.loop-at-test.true more _ _ _ refl
    (second_ends l.state h.free l.middle l.first (get_or c.args.bytes.now l.i 0) (l.i + 1) h.numbers _ _ l.store (omega arith) c.if-middle-eq0.false c.if-middle-ge-PENDING.true _
    (status_without_pending l.middle c.if-middle-ge-PENDING.true) e.0 e.1)

pub returns-then-takes_one : goal.returns-then-takes_one
returns-then-takes_one c =
    let l = c.loop-at in
    let more : l.i < length c.args.bytes.now = omega (arith, l.invariant.within) in
    let h = l.invariant.outside c.loop-at-test.true in
    let under = under_one l.middle l.first (get_or l.state 13 0) h.numbers c.if-middle-eq0.false c.if-middle-ge-PENDING.false _ _ c.status_in.ensures c.takes_one.ensures
    c.if-takes_one.true in
    let e = c.ends_one.ensures in
    outside_answers l.invariant c.loop-at-test.true more _ _ _ refl
    (only_ends l.state h.free l.middle l.first (get_or c.args.bytes.now l.i 0) (l.i + 1) h.numbers _ _ l.store (omega arith) c.if-middle-eq0.false under e.0 e.1)

pub ends_two-requires-then-bytes-i-lt128 : goal.ends_two-requires-then-bytes-i-lt128
ends_two-requires-then-bytes-i-lt128 c =
    let l = c.loop-at in
    let h = l.invariant.outside c.loop-at-test.true in
    let under = under_two l.middle l.first (get_or l.state 13 0) h.numbers c.if-middle-eq0.false c.if-middle-ge-PENDING.false _ _ c.status_in.ensures c.takes_one.ensures
    c.if-takes_one.false in
    (h.free, under, omega arith, c.if-bytes-i-lt128.true)

pub returns-then-bytes-i-lt128 : goal.returns-then-bytes-i-lt128
returns-then-bytes-i-lt128 c =
    let l = c.loop-at in
    let more : l.i < length c.args.bytes.now = omega (arith, l.invariant.within) in
    let h = l.invariant.outside c.loop-at-test.true in
    let byte = get_or c.args.bytes.now l.i 0 in
    let under = under_two l.middle l.first (get_or l.state 13 0) h.numbers c.if-middle-eq0.false c.if-middle-ge-PENDING.false _ _ c.status_in.ensures c.takes_one.ensures
    c.if-takes_one.false in
    let leads = first_leads l.middle l.first (get_or l.state 13 0) byte l.store h.numbers (omega arith) under in
    let e = c.ends_two-then-bytes-i-lt128.ensures in
    outside_answers (leads_on l.invariant c.loop-at-test.true more (l.middle + 16_777_216) byte leads) c.loop-at-test.true c.if-i-bytes-2.true _ _ _ refl
    (second_ends l.state h.free (l.middle + 16_777_216) byte (get_or c.args.bytes.now (l.i + 1) 0) (l.i + 1 + 1) leads.outside _ _ l.store
    c.if-bytes-i-lt128.true (λ z. omega (arith, z)) (omega arith) _ (sym (status_stays l.middle)) e.0 e.1)

pub loop-at-preserved-else-i-bytes-2 : goal.loop-at-preserved-else-i-bytes-2
loop-at-preserved-else-i-bytes-2 c =
    let l = c.loop-at in
    let more : l.i < length c.args.bytes.now = omega (arith, l.invariant.within) in
    let h = l.invariant.outside c.loop-at-test.true in
    let byte = get_or c.args.bytes.now l.i 0 in
    let under = under_two l.middle l.first (get_or l.state 13 0) h.numbers c.if-middle-eq0.false c.if-middle-ge-PENDING.false _ _ c.status_in.ensures c.takes_one.ensures
    c.if-takes_one.false in
    leads_on l.invariant c.loop-at-test.true more (l.middle + 16_777_216) byte
    (first_leads l.middle l.first (get_or l.state 13 0) byte l.store h.numbers (omega arith) under)

pub loop-at-preserved-then-byte-lt240 : goal.loop-at-preserved-then-byte-lt240
loop-at-preserved-then-byte-lt240 c =
    let a = c.args in
    let l = c.loop-at in
    let more : l.i < length a.bytes.now = omega (arith, l.invariant.within) in
    let h = l.invariant.outside c.loop-at-test.true in
    subst (λ (m : ℕ). Reached (walk (state_of a.state.now) a.store.now a.bytes.now) a.state.now a.store.now a.bytes.now l.state l.store l.at m l.first (l.i + 1))
    (sym c.held_number-middle.ensures)
    (leads_on l.invariant c.loop-at-test.true more _ _
    (held_leads l.middle l.first (get_or l.state 13 0) (get_or a.bytes.now l.i 0) l.store h.numbers (omega arith) (omega arith) (λ e. omega arith)))

pub loop-at-preserved-then-byte-lt244 : goal.loop-at-preserved-then-byte-lt244
loop-at-preserved-then-byte-lt244 c =
    let a = c.args in
    let l = c.loop-at in
    let more : l.i < length a.bytes.now = omega (arith, l.invariant.within) in
    let h = l.invariant.outside c.loop-at-test.true in
    subst (λ (m : ℕ). Reached (walk (state_of a.state.now) a.store.now a.bytes.now) a.state.now a.store.now a.bytes.now l.state l.store l.at m l.first (l.i + 1))
    (sym c.held_number-middle-in-241-to-243.ensures)
    (leads_on l.invariant c.loop-at-test.true more _ _
    (held_leads l.middle l.first (get_or l.state 13 0) (get_or a.bytes.now l.i 0) l.store h.numbers (omega arith) (omega arith) (λ e. omega arith)))

pub loop-at-preserved-in-244-to-247 : goal.loop-at-preserved-in-244-to-247
loop-at-preserved-in-244-to-247 c =
    let l = c.loop-at in
    let more : l.i < length c.args.bytes.now = omega (arith, l.invariant.within) in
    let h = l.invariant.outside c.loop-at-test.true in
    leads_on l.invariant c.loop-at-test.true more _ _
    (cleared_leads l.middle l.first (get_or l.state 13 0) (get_or c.args.bytes.now l.i 0) l.store h.numbers (omega arith) (omega arith) (λ e. omega arith))

pub returns-then-is_realtime : goal.returns-then-is_realtime
returns-then-is_realtime c =
    let l = c.loop-at in
    let more : l.i < length c.args.bytes.now = omega (arith, l.invariant.within) in
    outside_realtime l.invariant c.loop-at-test.true more (omega (arith, c.type_inv.bytes l.i)) (sym c.is_realtime.ensures ∙ c.if-is_realtime.true) _ _ _
    c.realtime.ensures c.put_waiting-then-is_realtime.ensures refl

pub bounds-store-0 : goal.bounds-store-0
bounds-store-0 c = omega (arith, c.loop-at.invariant.room, room_for_three)

pub loop-at-preserved-in-240-1 : goal.loop-at-preserved-in-240-1
loop-at-preserved-in-240-1 c =
    let l = c.loop-at in
    let more : l.i < length c.args.bytes.now = omega (arith, l.invariant.within) in
    opens_on l.invariant c.loop-at-test.true more c.in-240.is _ _ c.put_waiting-in-240.ensures refl

pub returns-in-246 : goal.returns-in-246
returns-in-246 c =
    let l = c.loop-at in
    let more : l.i < length c.args.bytes.now = omega (arith, l.invariant.within) in
    outside_tune l.invariant c.loop-at-test.true more c.in-246.is _ _ _ c.tune.ensures c.put_waiting-in-246.ensures refl

pub loop-at-preserved-in_default-2 : goal.loop-at-preserved-in_default-2
loop-at-preserved-in_default-2 c =
    let l = c.loop-at in
    let more : l.i < length c.args.bytes.now = omega (arith, l.invariant.within) in
    f9_and_fd_on l.invariant c.loop-at-test.true more (omega (arith, c.type_inv.bytes l.i)) (omega arith) (sym c.is_realtime.ensures ∙ c.if-is_realtime.false)

pub loop-at-preserved : goal.loop-at-preserved
loop-at-preserved c =
    let l = c.loop-at in
    let more : l.i < length c.args.bytes.now = omega (arith, l.invariant.within) in
    let h = l.invariant.outside c.loop-at-test.true in
    leads_on l.invariant c.loop-at-test.true more _ _
    (cleared_leads l.middle l.first (get_or l.state 13 0) (get_or c.args.bytes.now l.i 0) l.store h.numbers (omega arith) (omega arith) (λ e. omega arith))
