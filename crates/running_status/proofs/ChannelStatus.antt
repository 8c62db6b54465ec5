-- The status byte of an in-range channel message is 80 to EF and takes the message's data bytes, because the channel is below 16.
use mathlib.Core.Path.{◌≡◌}
use mathlib.Core.Bool.{true}
use Prim.Native.Nat.{ℕ, ◌+◌, ◌%◌, ◌≤◌, ◌<◌}
use native.Mathlib.Omega.{arith}
use lib.Dec.{leb, ltb}
use lib.ListN.{length}
use borrow.Author.Tests.{ltb-true, lt-ltb, le-leb}
use Rattle.laws.specs.Choice.{pick}
use Rattle.laws.proofs.Tests.{both}
use Rattle.wire.specs.Status.{data_length, is_channel_status}
use Rattle.wire.specs.declared.Channel.{Channel}
use Rattle.wire.specs.declared.channel_message.ChannelMessage.{ChannelMessage}
use Rattle.wire.specs.ChannelMessage.{status_nibble, data_bytes}
use Rattle.wire.proofs.channel_message.Bytes.{nibble_range}
use Rattle.wire.proofs.ReadBack.{data_length_of_channel}
use Rattle.damage.specs.Sent.{Voice, sendable}

-- how many data bytes wait of a message of n data bytes, when k have come under running status
abbrev pub left_over : ℕ → ℕ → ℕ
left_over n k = pick (leb n 1) 0 (k % 2)

-- a channel status is below F0
pub channel_below : (v : ℕ) → is_channel_status v ≡ true → v < 0xF0
channel_below v in_force = ltb-true v 0xF0 (both (leb 0x80 v) (ltb v 0xF0) in_force).1

-- the channel of a message in range is below 16
pub channel_fits : (c : Channel) (m : ChannelMessage) → sendable (Voice c m) ≡ true → c.0 < 16
channel_fits c m ok = ltb-true _ _ (both _ _ (both _ _ ok).0).0

-- on a channel below 16 a channel message's status byte is 80 to EF, and takes its data bytes
pub voice_status : (c : Channel) (m : ChannelMessage) → c.0 < 16
    → (0x80 ≤ status_nibble m + c.0) × (status_nibble m + c.0 < 0xF0) × (data_length (status_nibble m + c.0) ≡ length (data_bytes m))
voice_status c m low =
    let range = nibble_range m in
    (omega arith, omega arith, data_length_of_channel c.0 m low)

-- on a channel below 16 a channel message's status byte is a channel status
pub voice_in_force : (c : Channel) (m : ChannelMessage) → c.0 < 16 → is_channel_status (status_nibble m + c.0) ≡ true
voice_in_force c m low =
    let range = voice_status c m low in
    rw (le-leb 0x80 (status_nibble m + c.0) range.0, lt-ltb (status_nibble m + c.0) 0xF0 range.1)
