-- Condition 3 as one proposition, of any kind of caller and the state from which its list of calls starts.
use Rattle.std.specs.Prelude.{◌≡◌, true, List, ℕ, ◌≤◌, length}
use Rattle.decoder.specs.State.{limit}
use Rattle.damage.specs.Reported.{Reported}
use Rattle.damage.specs.Sent.{Message, all_sendable, Tag, all_tagged, Sent}
use Rattle.damage.specs.Damage.{arrives, break_bytes, around_break}
use Rattle.damage.specs.Caller.{Caller, Call, CallLog, Made, Exactly}

-- a log that condition 3 allows. It leaves what the break causes free: any reports, one entry for each byte of the break
pub record Allowed {c : Caller} (i n : ℕ) (new : List ℕ) (sent : List Tag) (cs : List (Call c)) (log : CallLog) : Type 0 where
  pub caused : List (List Reported)
  pub one_each : length caused ≡ length (break_bytes i n new sent)
  pub exactly : Exactly cs (around_break i n new sent caused) log

-- CONDITION 3. "A sender writes in-range channel, common and frame messages, each with its own status byte and at most 2,354 bytes long;
-- real-time bytes stand anywhere": the first line. "Whatever was sent, whichever run is hit and whatever arrives in its place": the second.
-- "from a fresh state and any store long enough, whatever it holds", "for every list of decoder calls .., refused ones included and in
-- whatever pieces the bytes are handed in": the rest
abbrev pub Condition3 : (c : Caller) → c.State → Type 0
Condition3 c start =
    (ms : List Message) → all_sendable ms ≡ true → (sent : List Tag) → Sent (all_tagged ms) sent
    → (i n : ℕ) (new : List ℕ)
    → (store : c.Store) → limit ≤ c.size store
    → (cs : List (Call c)) (log : CallLog) → Made c cs start store (arrives i n new sent) log
    → Allowed i n new sent cs log
