-- The numbers of an answer say its reports, because kind, status byte and data tell every report apart.
use Rattle.std.specs.Prelude.{None, Option, Some}
use mathlib.Core.Path.{◌≡◌, refl, ap}
use mathlib.Core.Bool.{Bool, true, false}
use mathlib.Core.List.{List, [], ◌∷◌}
use Prim.Native.Nat.{ℕ, ◌+◌, ◌*◌, ◌%◌, ◌<◌}
use native.Mathlib.Omega.{arith}
use Rattle.refusal.specs.Outcome.{gives}
use Rattle.wire.specs.declared.Channel.{Channel}
use Rattle.wire.specs.declared.channel_message.ChannelMessage.{ChannelMessage}
use Rattle.wire.specs.declared.channel_message.ChannelMessage.TheVariants as x
use Rattle.wire.specs.declared.system_common.SystemCommon.TheVariants as y
use Rattle.wire.specs.declared.real_time.Realtime.TheVariants as t
use Rattle.wire.proofs.ReadBack.{kind}
use Rattle.decoder.specs.declared.Report.{Report}
use Rattle.decoder.specs.declared.Report.TheVariants as r
use Rattle.decoder.specs.Reports.{channel, told, report_list, told_all}
use Rattle.damage.specs.Reported.{Reported, report18}
use Rattle.stream.specs.declared.FedAnswer.{FedAnswer}
use Rattle.stream.specs.Reports.{numbers_of}
use Rattle.host_damage.specs.Numbers.{channel_read, report_read, numbers_tell, numbers_count}
use Rattle.host_damage.proofs.Named.{NamedReport, Named}

-- the low four bits of a status byte
low : (k c : ℕ) → c < 16 → (k * 16 + c) % 16 ≡ c
low k c h = omega arith

-- the numbers of a report
abbrev report_numbers : Report → FedAnswer
report_numbers z = numbers_of 0 false (Some z)

-- a channel message by its status byte and two numbers
channel_numbers_told : (c : Channel) (z : ChannelMessage) → c.0 < 16
    → channel_read (report_numbers (r.Channel c z)).status (report_numbers (r.Channel c z)).first (report_numbers (r.Channel c z)).second ≡ gives (channel c z)
channel_numbers_told c (x.NoteOff a b) h = rw (kind 0x8 c.0 h, low 0x8 c.0 h)
channel_numbers_told c (x.NoteOn a b) h = rw (kind 0x9 c.0 h, low 0x9 c.0 h)
channel_numbers_told c (x.PolyKeyPressure a b) h = rw (kind 0xA c.0 h, low 0xA c.0 h)
channel_numbers_told c (x.ControlChange a b) h = rw (kind 0xB c.0 h, low 0xB c.0 h)
channel_numbers_told c (x.ProgramChange a) h = rw (kind 0xC c.0 h, low 0xC c.0 h)
channel_numbers_told c (x.ChannelPressure a) h = rw (kind 0xD c.0 h, low 0xD c.0 h)
channel_numbers_told c (x.PitchBend a) h = rw (kind 0xE c.0 h, low 0xE c.0 h)

-- any report by its numbers
report_told : (store : List ℕ) (z : Report) → NamedReport z
    → report_read store (report_numbers z).kind (report_numbers z).status (report_numbers z).first (report_numbers z).second ≡ told store z ∷ []
report_told store (r.Channel c z) n = ap (λ (x : Reported). x ∷ []) (channel_numbers_told c z n)
report_told store (r.SysEx k) n = refl
report_told store (r.Common (y.TimeCodeQuarterFrame v)) n = refl
report_told store (r.Common (y.SongPosition v)) n = refl
report_told store (r.Common (y.SongSelect v)) n = refl
report_told store (r.Common y.TuneRequest) n = refl
report_told store (r.Realtime t.Clock) n = refl
report_told store (r.Realtime t.Start) n = refl
report_told store (r.Realtime t.Continue) n = refl
report_told store (r.Realtime t.Stop) n = refl
report_told store (r.Realtime t.ActiveSensing) n = refl
report_told store (r.Realtime t.SystemReset) n = refl
report_told store r.SysExInterrupted n = refl
report_told store (r.SysExTooLong k) n = refl

-- an answer's reports, 18 first where it broke off a frame
pub numbers_told : (store : List ℕ) (used : ℕ) (i : Bool) (z : Option Report) → Named z → numbers_tell (numbers_of used i z) store ≡ told_all store (report_list i z)
numbers_told store used true None n = refl
numbers_told store used false None n = refl
numbers_told store used true (Some z) n = ap (λ (l : List Reported). report18 ∷ l) (report_told store z n)
numbers_told store used false (Some z) n = report_told store z n

-- how many bytes an answer says were used
pub numbers_counted : (used : ℕ) (i : Bool) (z : Option Report) → numbers_count (numbers_of used i z) ≡ gives used
numbers_counted used i None = refl
numbers_counted used i (Some z) = refl
