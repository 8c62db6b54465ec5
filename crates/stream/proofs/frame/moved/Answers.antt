-- `moved` meets its contract: the part of the store is given back with the run at its front.
use Prim.Native.Nat.{◌+◌, ◌-◌}
use mathlib.Core.Path.{sym}
use native.Mathlib.Omega.{arith}
use Rattle.decoder.proofs.Limit.{limit_is}
use Rattle.stream.proofs.Moving.{run_moved_there}
use Rattle.stream.proofs.frame.moved.Goals as goal

pub returns : goal.returns
returns c =
    let a = c.args in
    let p = c.requires in
    run_moved_there _ a.at a.used (a.used + c.min-most.result - a.used) _ a.store.now a.bytes.now _ (sym c.told-store) (omega (arith, limit_is)) p.0 p.1 (omega (arith, limit_is))
    c.moved_run.ensures.1 c.moved_run.ensures.0.moved
