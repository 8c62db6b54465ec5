-- `run_of` meets its contract: the part that the reader's place names.
use Rattle.refusal.specs.Outcome.{answered}
use Rattle.frame_reader.proofs.RunPlace.{place_given, run_inside_frame, read_starts, run_read}
use native.Mathlib.Omega.{arith}
use mathlib.Core.Path.{ap, sym, ◌∙◌}
use Rattle.frame_reader.proofs.run_of.Goals as goal

pub returns-in-Ok : goal.returns-in-Ok
returns-in-Ok c = let b = c.args.bytes.now in
    let h = ap answered (sym c.in-Ok.is) ∙ c.read_located.ensures in
    record { lies = rw (read_starts b c.in-Ok.read h); reads = run_read b c.in-Ok.read h }

pub slice_bounds-result-end-in-Ok : goal.slice_bounds-result-end-in-Ok
slice_bounds-result-end-in-Ok c = let b = c.args.bytes.now in
    let p = place_given b c.in-Ok.read (ap answered (sym c.in-Ok.is) ∙ c.read_located.ensures) in
    omega (arith, p.starts, p.long, run_inside_frame b c.in-Ok.read.frame p.found)
