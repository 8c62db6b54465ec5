-- What a report says in document 01's terms: an event, or a drop's number and values.
use Rattle.std.specs.Prelude.{Bool, true, false, List, [], ◌∷◌, map, ℕ, take, None, Option, Some}
use Rattle.refusal.specs.Outcome.{Outcome, gives, refusal}
use Rattle.refusal.specs.declared.Refusal.TheVariants as e
use Rattle.wire.specs.declared.Channel.{Channel}
use Rattle.wire.specs.declared.channel_message.ChannelMessage.{ChannelMessage}
use Rattle.wire.specs.declared.system_common.SystemCommon.{SystemCommon}
use Rattle.wire.specs.declared.real_time.Realtime.{Realtime}
use Rattle.decoder.specs.declared.Report.{Report}
use Rattle.decoder.specs.declared.Report.TheVariants as r

-- a whole message; a frame with its bytes
pub data Event : Type 0 where
  channel : Channel → ChannelMessage → Event
  common : SystemCommon → Event
  realtime : Realtime → Event
  frame : List ℕ → Event

-- a report over the store as it stands at the answer: an event, 18 with no values, or 19 with the frame limit
abbrev pub told : List ℕ → Report → Outcome Event
told store (r.Channel c x) = gives (channel c x)
told store (r.SysEx n) = gives (frame (take n store))
told store (r.Common x) = gives (common x)
told store (r.Realtime x) = gives (realtime x)
told store r.SysExInterrupted = refusal e.SysExInterrupted
told store (r.SysExTooLong n) = refusal (e.SysExTooLong n)

-- the byte's own report, if any, as a list
abbrev pub own_report : Option Report → List Report
own_report None = []
own_report (Some x) = x ∷ []

-- a byte's reports in order: 18 where it broke off a frame, then its own effect
abbrev pub report_list : Bool → Option Report → List Report
report_list true x = r.SysExInterrupted ∷ own_report x
report_list false x = own_report x

-- a list of reports, all read over one store
abbrev pub told_all : List ℕ → List Report → List (Outcome Event)
told_all store xs = map (told store) xs
