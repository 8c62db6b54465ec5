-- What the loop of `put_bytes` keeps: the bytes up to now stand behind those that were there, as many as have room.
use Rattle.std.proofs.Common.{◌≡◌, ◌++◌, take}
use Rattle.text.specs.Text.{shown}
use Rattle.text.proofs.Text.put_bytes.Given as goal

abbrev pub invariant-loop-byte : goal.invariant-loop-byte
invariant-loop-byte g l = shown l.self ≡ take g.row.N (shown l.initial.self ++ take l.byte-index l.bytes)
