-- Order 2's two promises about bytes that stand for messages in range, whatever wrote them: of any relation `wrote` of messages and bytes, any kind of
-- decoder's caller and the state from which it starts.
use Rattle.std.specs.Prelude.{◌≡◌, true, List, ℕ, ◌≤◌, length, None}
use Rattle.decoder.specs.State.{limit}
use Rattle.damage.specs.Caller.{Caller, Call, CallLog, Made, Exactly, total_used}
use Rattle.running_status.specs.RunningStatus.{Item}
use Rattle.running_status.specs.Chain.{items_fit, chain_reports, item_reports, reports_joined}

-- "Reading from fresh what was written from the state none gives the same in-range messages": read to its end by any list of decoder calls, in whatever
-- pieces
abbrev pub SameMessages : (List Item → List ℕ → Type 0) → (c : Caller) → c.State → Type 0
SameMessages wrote c start =
    (is : List Item) (bytes : List ℕ) → wrote is bytes → items_fit is ≡ true
    → (store : c.Store) → limit ≤ c.size store → (cs : List (Call c)) (log : CallLog) → Made c cs start store bytes log
    → total_used log.answers ≡ length bytes → reports_joined log.reports ≡ item_reports is

-- read-back byte by byte, as far as the list of decoder calls went
abbrev pub ReadsBack : (List Item → List ℕ → Type 0) → (c : Caller) → c.State → Type 0
ReadsBack wrote c start =
    (is : List Item) (bytes : List ℕ) → wrote is bytes → items_fit is ≡ true
    → (store : c.Store) → limit ≤ c.size store → (cs : List (Call c)) (log : CallLog) → Made c cs start store bytes log
    → Exactly cs (chain_reports None is) log

-- "written so, no shorter byte string reads from fresh as exactly that list of reports": whatever bytes are handed in, by whatever calls, where the
-- reports are those of these messages, there are at least as many bytes as were written, and as many were used. The order asks it of lists without
-- real-time messages; it holds with them
abbrev pub NoShorter : (List Item → List ℕ → Type 0) → (c : Caller) → c.State → Type 0
NoShorter wrote c start =
    (is : List Item) (bytes : List ℕ) → wrote is bytes → items_fit is ≡ true
    → (store : c.Store) → limit ≤ c.size store → (any : List ℕ) (cs : List (Call c)) (log : CallLog) → Made c cs start store any log
    → reports_joined log.reports ≡ item_reports is → (length bytes ≤ length any) × (length bytes ≤ total_used log.answers)
