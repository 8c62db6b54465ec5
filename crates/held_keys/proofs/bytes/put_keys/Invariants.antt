-- What the loop of `put_keys` keeps: the bytes are written from the front, one word a turn.
use Rattle.std.proofs.Common.{◌≡◌, ◌*◌, length}
use Rattle.laws.specs.Tabulate.{tab}
use Rattle.laws.specs.Window.{window}
use Rattle.held_keys.specs.HeldBytes.{byte_of}
use Rattle.held_keys.proofs.bytes.put_keys.Given as goal

-- the bytes of the words before this one are written
abbrev pub invariant-loop-i : goal.invariant-loop-i
invariant-loop-i l = record { long : length l.bytes ≡ 256; written : l.bytes ≡ window l.initial.bytes 0 (tab (byte_of l.keys) (8 * l.i)) }
