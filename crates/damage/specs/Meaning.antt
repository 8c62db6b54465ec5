-- What holds beyond condition 3, since history fixes what it leaves free: what any bytes report, and what a break causes.
use Rattle.std.specs.Prelude.{◌≡◌, true, List, [], ℕ, ◌≤◌}
use Rattle.decoder.specs.State.{limit}
use Rattle.damage.specs.Reported.{Reported}
use Rattle.damage.specs.Open.{past_after}
use Rattle.damage.specs.History.{meaning}
use Rattle.damage.specs.Sent.{Message, all_sendable, Tag, all_tagged, Sent, bytes}
use Rattle.damage.specs.Damage.{before_run, arrives, break_bytes, around_break}
use Rattle.damage.specs.Caller.{Caller, Call, CallLog, Made, Exactly}

-- condition 2's row for the decoder: any bytes at all, in whatever pieces, report what history says of them
abbrev pub CallsMean : (c : Caller) → c.State → Type 0
CallsMean c start =
    (store : c.Store) → limit ≤ c.size store → (bytes : List ℕ) (cs : List (Call c)) (log : CallLog)
    → Made c cs start store bytes log → Exactly cs (meaning [] bytes) log

-- document 01's "what the break causes": "3 leaves them free, the definitions under 2 fix them"
abbrev pub causes : ℕ → ℕ → List ℕ → List Tag → List (List Reported)
causes i n new sent = meaning (past_after [] (bytes (before_run i sent))) (break_bytes i n new sent)

-- condition 3 with what the break causes fixed
abbrev pub Condition3Fixed : (c : Caller) → c.State → Type 0
Condition3Fixed c start =
    (ms : List Message) → all_sendable ms ≡ true → (sent : List Tag) → Sent (all_tagged ms) sent
    → (i n : ℕ) (new : List ℕ)
    → (store : c.Store) → limit ≤ c.size store
    → (cs : List (Call c)) (log : CallLog) → Made c cs start store (arrives i n new sent) log
    → Exactly cs (around_break i n new sent (causes i n new sent)) log
