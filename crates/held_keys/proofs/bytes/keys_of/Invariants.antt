-- What the loop of `keys_of` keeps: the record's channels are read from the front, one a turn.
use Rattle.std.proofs.Common.{◌≡◌, length}
use Rattle.laws.specs.Tabulate.{tab}
use Rattle.laws.specs.Window.{window}
use Rattle.held_keys.proofs.bytes.Filled.{channel_in}
use Rattle.held_keys.proofs.bytes.keys_of.Given as goal

-- the channels before this one are read
abbrev pub invariant-loop-channel : goal.invariant-loop-channel
invariant-loop-channel l = record { long : length l.initial.keys ≡ 16; read : l.keys ≡ window l.initial.keys 0 (tab (channel_in l.bytes) l.channel) }
