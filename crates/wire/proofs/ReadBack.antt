-- What a writer wrote from in-range values reads back as the same message, because nothing is masked away and the status byte's
-- high four bits tell the kind.
use Rattle.std.specs.Prelude.{Some}
use mathlib.Core.Path.{◌≡◌, refl, ap, ap₂}
use mathlib.Core.Bool.{true, ◌&&◌}
use Prim.Native.Nat.{ℕ, ◌+◌, ◌*◌, ◌/◌, ◌%◌, ◌≤◌, ◌<◌}
use native.Mathlib.Omega.{arith}
use lib.Dec.{leb}
use lib.ListN.{length, get_or}
use borrow.Author.Tests.{leb-true}
use Rattle.wire.specs.declared.channel_message.ChannelMessage.{ChannelMessage}
use Rattle.wire.specs.declared.channel_message.ChannelMessage.TheVariants as m
use Rattle.wire.specs.declared.system_common.SystemCommon.{SystemCommon}
use Rattle.wire.specs.declared.system_common.SystemCommon.TheVariants as y
use Rattle.wire.specs.declared.system_common.CommonStatus.{CommonStatus}
use Rattle.wire.specs.declared.system_common.CommonStatus.TheVariants as s
use Rattle.wire.specs.declared.real_time.Realtime.{Realtime}
use Rattle.wire.specs.declared.real_time.Realtime.TheVariants as t
use Rattle.laws.proofs.Tests.{both}
use Rattle.wire.specs.Status.{data_length}
use Rattle.wire.specs.ChannelMessage.{status_nibble, data_bytes, channel_message, message_in_range}
use Rattle.wire.specs.SystemCommon.{common_status, common_status_byte, common_bytes, common_in_range, common_message}
use Rattle.wire.specs.RealTime.{realtime_byte, realtime_of}
use Rattle.wire.proofs.DataLength.{two_low, one_middle, two_high}

-- two data bytes in range
pub both_small : (a b : ℕ) → (leb a 127 && leb b 127) ≡ true → (a ≤ 127) × (b ≤ 127)
both_small a b h = let d = both (leb a 127) (leb b 127) h in (leb-true a 127 d.0, leb-true b 127 d.1)

-- the kind of a status byte: channel c of kind k
pub kind : (k c : ℕ) → c < 16 → (k * 16 + c) / 16 ≡ k
kind k c h = omega arith

-- seven bits of a small number are the number
kept_small : (a : ℕ) → a ≤ 127 → a % 128 % 128 ≡ a
kept_small a h = omega arith

-- channel messages: in-range message, channel below 16
pub channel_reads_back : (c : ℕ) (m : ChannelMessage) → c < 16 → message_in_range m ≡ true
    → channel_message (status_nibble m + c) (get_or (data_bytes m) 0 0) (get_or (data_bytes m) 1 0) ≡ Some m
channel_reads_back c (m.NoteOff a b) h r = let d = both_small a b r in rw (kind 0x8 c h) (ap₂ (λ (x y : ℕ). Some (m.NoteOff x y)) (kept_small a d.0) (kept_small b d.1))
channel_reads_back c (m.NoteOn a b) h r = let d = both_small a b r in rw (kind 0x9 c h) (ap₂ (λ (x y : ℕ). Some (m.NoteOn x y)) (kept_small a d.0) (kept_small b d.1))
channel_reads_back c (m.PolyKeyPressure a b) h r = let d = both_small a b r in rw (kind 0xA c h)
    (ap₂ (λ (x y : ℕ). Some (m.PolyKeyPressure x y)) (kept_small a d.0) (kept_small b d.1))
channel_reads_back c (m.ControlChange a b) h r = let d = both_small a b r in rw (kind 0xB c h) (ap₂ (λ (x y : ℕ). Some (m.ControlChange x y)) (kept_small a d.0) (kept_small b d.1))
channel_reads_back c (m.ProgramChange a) h r = rw (kind 0xC c h) (ap (λ (x : ℕ). Some (m.ProgramChange x)) (kept_small a (leb-true a 127 r)))
channel_reads_back c (m.ChannelPressure a) h r = rw (kind 0xD c h) (ap (λ (x : ℕ). Some (m.ChannelPressure x)) (kept_small a (leb-true a 127 r)))
channel_reads_back c (m.PitchBend a) h r =
    let small : a ≤ 16383 = leb-true a 16383 r in
    rw (kind 0xE c h) (ap (λ (x : ℕ). Some (m.PitchBend x)) (omega arith))

-- the status byte takes just the data bytes that are written
pub data_length_of_channel : (c : ℕ) (m : ChannelMessage) → c < 16 → data_length (status_nibble m + c) ≡ length (data_bytes m)
data_length_of_channel c (m.NoteOff a b) h = two_low (0x80 + c) (omega arith) (omega arith)
data_length_of_channel c (m.NoteOn a b) h = two_low (0x90 + c) (omega arith) (omega arith)
data_length_of_channel c (m.PolyKeyPressure a b) h = two_low (0xA0 + c) (omega arith) (omega arith)
data_length_of_channel c (m.ControlChange a b) h = two_low (0xB0 + c) (omega arith) (omega arith)
data_length_of_channel c (m.ProgramChange a) h = one_middle (0xC0 + c) (omega arith) (omega arith)
data_length_of_channel c (m.ChannelPressure a) h = one_middle (0xD0 + c) (omega arith) (omega arith)
data_length_of_channel c (m.PitchBend a) h = two_high (0xE0 + c) (omega arith) (omega arith)

-- system common messages in range
pub common_reads_back : (m : SystemCommon) → common_in_range m ≡ true
    → common_message (get_or (common_bytes m) 0 0) (get_or (common_bytes m) 1 0) (get_or (common_bytes m) 2 0) ≡ Some m
common_reads_back (y.TimeCodeQuarterFrame a) r = let small : a ≤ 127 = leb-true a 127 r in ap (λ (x : ℕ). Some (y.TimeCodeQuarterFrame x)) (omega arith)
common_reads_back (y.SongPosition a) r = let small : a ≤ 16383 = leb-true a 16383 r in ap (λ (x : ℕ). Some (y.SongPosition x)) (omega arith)
common_reads_back (y.SongSelect a) r = let small : a ≤ 127 = leb-true a 127 r in ap (λ (x : ℕ). Some (y.SongSelect x)) (omega arith)
common_reads_back y.TuneRequest r = refl

-- the status byte of a system common message names it
pub common_status_reads_back : (s : CommonStatus) → common_status (common_status_byte s) ≡ Some s
common_status_reads_back s.TimeCodeQuarterFrame = refl
common_status_reads_back s.SongPosition = refl
common_status_reads_back s.SongSelect = refl
common_status_reads_back s.TuneRequest = refl

-- real-time messages
pub realtime_reads_back : (m : Realtime) → realtime_of (realtime_byte m) ≡ Some m
realtime_reads_back t.Clock = refl
realtime_reads_back t.Start = refl
realtime_reads_back t.Continue = refl
realtime_reads_back t.Stop = refl
realtime_reads_back t.ActiveSensing = refl
realtime_reads_back t.SystemReset = refl
