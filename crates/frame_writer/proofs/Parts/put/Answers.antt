-- `put` meets its contract: header, prefix, run and F7, each behind what stands already.
use Rattle.frame_writer.proofs.Row.{frame_put}
use Rattle.frame_writer.specs.Writer.{header}
use mathlib.Core.Path.{refl}
use Rattle.frame_writer.proofs.Parts.put.Goals as goal

pub returns : goal.returns
returns c = let a = c.args in
    let n = c.copy_into in
    let m = c.copy_into-2 in
    rw (c.to_byte.ensures, c.to_byte-2.ensures) at
    (frame_put (header c.to_byte.result c.to_byte-2.result) a.self.prefix.now a.self.run.now a.out.now c.put_header.new.out n.new.to m.new.to refl
    c.requires c.put_header.ensures n.ensures _ refl m.ensures)
