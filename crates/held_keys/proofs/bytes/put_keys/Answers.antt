-- `put_keys` meets its contract: behind the last word all bytes are written.
use Rattle.std.proofs.Common.{◌*◌, arith}
use Rattle.held_keys.proofs.bytes.Filled.{words_all}
use Rattle.held_keys.proofs.bytes.put_keys.Goals as goal

pub returns : goal.returns
returns c = words_all c.args.keys c.args.bytes.now c.loop-i.bytes (8 * c.loop-i.i) (omega arith) (omega arith) c.loop-i.invariant.written
