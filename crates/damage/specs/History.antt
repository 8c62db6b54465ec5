-- What a byte reports, said from the bytes that arrived ahead of it alone: the last status byte below F8 and the data bytes since.
-- This is the stream as MIDI 1.0 describes it; no state is kept.
use Rattle.std.specs.Prelude.{Bool, true, List, [], ◌∷◌, ◌++◌, ℕ, ◌+◌, ◌-◌, ◌%◌, leb, eqb, length, get_or, None, Option, Some}
use Rattle.laws.specs.Choice.{pick}
use Rattle.refusal.specs.Outcome.{gives}
use Rattle.wire.specs.Status.{data_length, is_channel_status}
use Rattle.wire.specs.ChannelMessage.{channel_message}
use Rattle.wire.specs.SystemCommon.{common_message}
use Rattle.wire.specs.RealTime.{realtime_of}
use Rattle.wire.specs.declared.system_common.SystemCommon.TheVariants as y
use Rattle.decoder.specs.declared.Class.{Class}
use Rattle.decoder.specs.declared.Class.TheVariants as k
use Rattle.decoder.specs.State.{limit}
use Rattle.decoder.specs.Step.{class_of}
use Rattle.decoder.specs.Reports.{channel, common, frame}
use Rattle.damage.specs.Reported.{Reported, report18, report19, heard_realtime}
use Rattle.damage.specs.Open.{last_status, data_since, is_open}
use Rattle.wire.specs.declared.system_common.SystemCommon.{SystemCommon}
use Rattle.wire.specs.declared.channel_message.ChannelMessage.{ChannelMessage}

-- 18 of a status byte that comes while a frame is open
abbrev pub interruption : Bool → List Reported
interruption open-there = pick open-there (report18 ∷ []) []

-- a whole system common message reports itself; a status that no record names reports nothing
abbrev pub heard_common : Option SystemCommon → List Reported
heard_common (Some x) = gives (common x) ∷ []
heard_common None = []

-- a whole channel message, on the channel that the status byte's low four bits name; where the status is no channel status, a system
-- common one
abbrev pub heard_message : Option ChannelMessage → ℕ → ℕ → ℕ → List Reported
heard_message (Some x) status first second = gives (channel (record { 0 = status % 16 }) x) ∷ []
heard_message None status first second = heard_common (common_message status first second)

-- the message of a status byte and its data bytes; a message of one data byte has no second
unfoldable pub message : ℕ → ℕ → ℕ → List Reported
message status first second = heard_message (channel_message status first second) status first second

-- the last data byte so far
abbrev pub last_of : List ℕ → ℕ
last_of bytes = get_or bytes (length bytes - 1) 0

-- does a data byte behind so many others end a message that takes n? Running status: a channel status serves again and again,
-- so every n-th byte does. A system common status serves once
abbrev pub ends_message : ℕ → ℕ → ℕ → Bool
ends_message status n so_far = pick (is_channel_status status) (pick (leb n 1) true (eqb (so_far % 2) 1)) (eqb (so_far + 1) n)

-- a data byte outside a frame: the last byte of a message reports it, with the data byte before it where the message has two
abbrev pub heard_data : ℕ → List ℕ → ℕ → List Reported
heard_data status bytes b =
    pick (ends_message status (data_length status) (length bytes))
    (pick (leb (data_length status) 1) (message status b 0) (message status (last_of bytes) b))
    []

-- a byte by its class, the last status byte ahead of it, and the data bytes since
abbrev pub heard_in : Class → ℕ → List ℕ → ℕ → List Reported
heard_in k.Data status bytes b =
    pick (eqb status 0xF0) (pick (eqb (length bytes + 1) limit) (report19 ∷ []) []) (heard_data status bytes b)
heard_in k.Held status bytes b = interruption (is_open status bytes)
heard_in k.Start status bytes b = interruption (is_open status bytes)
heard_in k.Undefined status bytes b = interruption (is_open status bytes)
heard_in k.Tune status bytes b = interruption (is_open status bytes) ++ (gives (common y.TuneRequest) ∷ [])
heard_in k.End status bytes b =
    pick (is_open status bytes)
    (pick (leb (length bytes + 2) limit) (gives (frame (0xF0 ∷ bytes ++ (b ∷ []))) ∷ []) (report19 ∷ []))
    []
heard_in k.Realtime status bytes b = heard_realtime (realtime_of b)

-- what a byte reports behind the last status byte and the data bytes since, by its class
unfoldable pub heard : ℕ → List ℕ → ℕ → List Reported
heard status bytes b = heard_in (class_of b) status bytes b

-- what each of these bytes reports, behind the bytes that arrived ahead of them (latest first)
unfoldable pub meaning : List ℕ → List ℕ → List (List Reported)
meaning past [] = []
meaning past (b ∷ bs) = heard (last_status past) (data_since past) b ∷ meaning (b ∷ past) bs
