-- `read` meets its contract. The loop's invariant: the walk has come to a frame of so many bytes in the store.
use mathlib.Core.Path.{refl, sym, ◌∙◌}
use Prim.Native.Nat.{◌+◌, ◌<◌}
use native.Mathlib.Omega.{arith}
use lib.ListN.{length}
use Rattle.stream.specs.quick.Bytes.{open_state}
use Rattle.stream.proofs.Stores.{open_stored}
use Rattle.stream.proofs.FrameSteps.{realtime_answers}
use Rattle.stream.proofs.InFrame.{run_moved, no_room_there, frame_ends, frame_answers, frame_goes_on}
use Rattle.stream.proofs.frame.read.Goals as goal

pub returns-then-used-bytes : goal.returns-then-used-bytes
returns-then-used-bytes c =
    let l = c.loop-used in
    let m = c.moved-run in
    let b = run_moved l.invariant m.ensures in
    frame_ends b c.if-used-bytes.true _ _ _ c.quiet.ensures (c.put_open.ensures ∙ open_stored l.state b.free (l.at + m.result) b.fits) refl

pub bounds-bytes-used : goal.bounds-bytes-used
bounds-bytes-used c =
    let b = run_moved c.loop-used.invariant c.moved-run.ensures in
    omega (arith, b.on.within)

pub ends-requires : goal.ends-requires
ends-requires c =
    let l = c.loop-used in
    let m = c.moved-run in
    let b = run_moved l.invariant m.ensures in
    let more : l.used + m.result < length c.args.bytes.now = omega (arith, b.on.within) in
    (b.free, b.fits, c.if-byte-lt248.true, no_room_there l.invariant m.ensures more)

pub returns-then-byte-lt248 : goal.returns-then-byte-lt248
returns-then-byte-lt248 c =
    let l = c.loop-used in
    let m = c.moved-run in
    let b = run_moved l.invariant m.ensures in
    let more : l.used + m.result < length c.args.bytes.now = omega (arith, b.on.within) in
    frame_answers b more _ _ _ c.ends.ensures

pub returns-then-is_realtime : goal.returns-then-is_realtime
returns-then-is_realtime c =
    let l = c.loop-used in
    let m = c.moved-run in
    let b = run_moved l.invariant m.ensures in
    let more : l.used + m.result < length c.args.bytes.now = omega (arith, b.on.within) in
    frame_answers b more _ _ _
    (realtime_answers (open_state (l.at + m.result) l.state) m.new.store _ (l.used + m.result + 1) _ _ _
    (omega (arith, c.type_inv.bytes (l.used + m.result))) (sym c.is_realtime.ensures ∙ c.if-is_realtime.true) c.realtime.ensures
    (c.put_open-then-is_realtime.ensures ∙ open_stored l.state b.free (l.at + m.result) b.fits) refl)

pub loop-used-preserved : goal.loop-used-preserved
loop-used-preserved c =
    let l = c.loop-used in
    let m = c.moved-run in
    let b = run_moved l.invariant m.ensures in
    let more : l.used + m.result < length c.args.bytes.now = omega (arith, b.on.within) in
    frame_goes_on b more
    (omega (arith, c.type_inv.bytes (l.used + m.result))) c.if-byte-lt248.false (sym c.is_realtime.ensures ∙ c.if-is_realtime.false)
