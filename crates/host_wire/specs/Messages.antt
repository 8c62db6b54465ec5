-- Messages as they cross to C: a kind that no record names gets an answer of its own, and nothing is written.
use Rattle.std.specs.Prelude.{List, ℕ, length, None, Option, Some}
use Rattle.refusal.specs.Outcome.{gives}
use Rattle.wire.specs.ChannelMessage.{channel_write}
use Rattle.wire.specs.SystemCommon.{common_write}
use Rattle.wire.specs.RealTime.{realtime_byte, realtime_write}
use Rattle.host_answer.specs.declared.Answer.{Answer}
use Rattle.host_answer.specs.Answer.{answer_of, no_record, Sends, Unnamed}
use Rattle.wire.specs.declared.channel_message.ChannelMessage.{ChannelMessage}
use Rattle.wire.specs.declared.system_common.CommonStatus.{CommonStatus}
use Rattle.wire.specs.declared.real_time.Realtime.{Realtime}

-- how many data bytes follow; no record where the byte is no channel status
abbrev pub length_answer : Option ℕ → Answer
length_answer (Some n) = answer_of (gives n)
length_answer None = no_record

-- the byte of a real-time message; "no record names F9 or FD", and none a byte below F8
abbrev pub realtime_answer : Option Realtime → Answer
realtime_answer (Some x) = answer_of (gives (realtime_byte x))
realtime_answer None = no_record

-- a channel message: what its writer does (17, then 14) on a channel given as a plain byte; nothing is written for a kind that no record
-- names
abbrev pub ChannelSent : Option ChannelMessage → ℕ → Answer → List ℕ → List ℕ → Type 0
ChannelSent (Some x) channel answer out later = Sends (channel_write (record { 0 = channel }) x (length out)) answer out later
ChannelSent None channel answer out later = Unnamed answer out later

-- a system common message: what its writer does (21, then 14); nothing is written for a status that no record names
abbrev pub CommonSent : Option CommonStatus → ℕ → Answer → List ℕ → List ℕ → Type 0
CommonSent (Some x) value answer out later = Sends (common_write x value (length out)) answer out later
CommonSent None value answer out later = Unnamed answer out later

-- a real-time message: what its writer does (14); nothing is written for a byte that no record names
abbrev pub RealtimeSent : Option Realtime → Answer → List ℕ → List ℕ → Type 0
RealtimeSent (Some x) answer out later = Sends (realtime_write x (length out)) answer out later
RealtimeSent None answer out later = Unnamed answer out later
