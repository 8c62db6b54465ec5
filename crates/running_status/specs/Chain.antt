-- Messages written one after another: what is written of all of them, and what they are reported as.
use Rattle.std.specs.Prelude.{Bool, true, ◌&&◌, List, [], ◌∷◌, ◌++◌, map, ℕ, length, Option}
use Rattle.refusal.specs.Outcome.{gives}
use Rattle.decoder.specs.Reports.{realtime}
use Rattle.damage.specs.Reported.{Reported}
use Rattle.damage.specs.Sent.{sendable, event_of}
use Rattle.damage.specs.Caller.{belonging}
use Rattle.running_status.specs.RunningStatus.{Item, OfMessage, OfRealtime, item_bytes, state_behind}

-- "in-range messages", a frame at most as long as the frame limit; real-time messages are all in range
abbrev pub items_fit : List Item → Bool
items_fit [] = true
items_fit (OfMessage m ∷ is) = sendable m && items_fit is
items_fit (OfRealtime x ∷ is) = items_fit is

-- "one message after another, with its state going in and out": from a state on, all that is written
unfoldable pub chain : Option ℕ → List Item → List ℕ
chain st [] = []
chain st (i ∷ is) = item_bytes st i ++ chain (state_behind st i) is

-- the state behind all of them
abbrev pub chain_state : Option ℕ → List Item → Option ℕ
chain_state st [] = st
chain_state st (i ∷ is) = chain_state (state_behind st i) is

-- what a message is reported as
abbrev pub item_report : Item → Reported
item_report (OfMessage m) = gives (event_of m)
item_report (OfRealtime x) = gives (realtime x)

-- "exactly that list of reports": one for each message, in their order
abbrev pub item_reports : List Item → List Reported
item_reports is = map item_report is

-- reports in order, whichever byte gave them
abbrev pub reports_joined : List (List Reported) → List Reported
reports_joined [] = []
reports_joined (x ∷ xs) = x ++ reports_joined xs

-- what the bytes written of these messages have to report, byte by byte: the last byte of each message that message, and no other byte anything
unfoldable pub chain_reports : Option ℕ → List Item → List (List Reported)
chain_reports st [] = []
chain_reports st (i ∷ is) = belonging (length (item_bytes st i)) (item_report i ∷ []) ++ chain_reports (state_behind st i) is
