-- The loop of `all_data`: the bytes so far, joined bit by bit, have no top bit exactly if all of them belong to the run.
use Rattle.octets.specs.quick.Data.{data_run}
use lib.Dec.{ltb, leb}
use mathlib.Core.Path.{◌≡◌}
use Rattle.octets.proofs.data_bytes.all_data.Given as goal

abbrev pub invariant-loop-byte : goal.invariant-loop-byte
invariant-loop-byte l = ltb l.all 0x80 ≡ leb l.byte-index (data_run l.bytes)
