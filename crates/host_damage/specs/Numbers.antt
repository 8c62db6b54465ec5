-- What a host reads from the numbers that `dm_feed` answers, in document 01's terms. Nothing is passed over: numbers that name no report are read
-- as one that no stream gives, so an answer cannot hide a report by them.
use Rattle.std.specs.Prelude.{List, [], ◌∷◌, ◌++◌, ℕ, ◌/◌, ◌%◌, eqb, take, None, Option, Some}
use Rattle.laws.specs.Choice.{pick}
use Rattle.refusal.specs.Outcome.{Outcome, gives, refused}
use Rattle.wire.specs.declared.channel_message.ChannelMessage.{ChannelMessage}
use Rattle.wire.specs.declared.channel_message.ChannelMessage.TheVariants as m
use Rattle.wire.specs.declared.system_common.SystemCommon.TheVariants as y
use Rattle.wire.specs.RealTime.{realtime_of}
use Rattle.decoder.specs.Reports.{channel, common, realtime, frame}
use Rattle.damage.specs.Reported.{Reported, report18}
use Rattle.stream.specs.declared.FedAnswer.{FedAnswer}
use Rattle.wire.specs.declared.real_time.Realtime.{Realtime}

-- numbers that name no report, as they are
abbrev pub unnamed : ℕ → ℕ → ℕ → ℕ → Reported
unnamed kind status first second = refused kind (status ∷ first ∷ second ∷ [])

-- a channel message on the channel that the status byte's low four bits name
abbrev pub on_channel : ℕ → ChannelMessage → Reported
on_channel status x = gives (channel (record { 0 = status % 16 }) x)

-- kind 1: by the status byte's high four bits; a bend is the first number alone
abbrev pub channel_read : ℕ → ℕ → ℕ → Reported
channel_read status first second =
    pick (eqb (status / 16) 0x8) (on_channel status (m.NoteOff first second))
    (pick (eqb (status / 16) 0x9) (on_channel status (m.NoteOn first second))
    (pick (eqb (status / 16) 0xA) (on_channel status (m.PolyKeyPressure first second))
    (pick (eqb (status / 16) 0xB) (on_channel status (m.ControlChange first second))
    (pick (eqb (status / 16) 0xC) (on_channel status (m.ProgramChange first))
    (pick (eqb (status / 16) 0xD) (on_channel status (m.ChannelPressure first))
    (pick (eqb (status / 16) 0xE) (on_channel status (m.PitchBend first)) (unnamed 1 status first second)))))))

-- kind 3: by the status byte
abbrev pub common_read : ℕ → ℕ → ℕ → Reported
common_read status first second =
    pick (eqb status 0xF1) (gives (common (y.TimeCodeQuarterFrame first)))
    (pick (eqb status 0xF2) (gives (common (y.SongPosition first)))
    (pick (eqb status 0xF3) (gives (common (y.SongSelect first)))
    (pick (eqb status 0xF6) (gives (common y.TuneRequest)) (unnamed 3 status first second))))

-- kind 4: the status byte is the real-time byte
abbrev pub realtime_read : Option Realtime → ℕ → ℕ → ℕ → Reported
realtime_read (Some x) status first second = gives (realtime x)
realtime_read None status first second = unnamed 4 status first second

-- the report by its kind, none for 0; a frame is the first bytes of the store as the call left it
abbrev pub report_read : List ℕ → ℕ → ℕ → ℕ → ℕ → List Reported
report_read store kind status first second =
    pick (eqb kind 0) []
    (pick (eqb kind 1) (channel_read status first second)
    (pick (eqb kind 2) (gives (frame (take first store)))
    (pick (eqb kind 3) (common_read status first second)
    (pick (eqb kind 4) (realtime_read (realtime_of status) status first second)
    (pick (eqb kind 18) report18
    (pick (eqb kind 19) (refused 19 (first ∷ []))
    (unnamed kind status first second)))))) ∷ [])

-- all reports of an answer, also of a refused one: 18 first where the flag is set
abbrev pub numbers_tell : FedAnswer → List ℕ → List Reported
numbers_tell a store = pick (eqb a.interrupted 0) [] (report18 ∷ []) ++ report_read store a.kind a.status a.first a.second

-- how many bytes the call used, or its refusal; a count beside a refusal stands as its detail
abbrev pub numbers_count : FedAnswer → Outcome ℕ
numbers_count a = pick (eqb a.number 0) (gives a.used) (refused a.number (pick (eqb a.used 0) [] (a.used ∷ [])))
