-- "The count of untouched messages lost to damage is nought."
use Rattle.std.specs.Prelude.{◌≡◌, Bool, true, ◌&&◌, ◌||◌, List, [], ◌∷◌, ◌++◌, map, ℕ, suc, ◌+◌, ◌-◌, ◌≤◌, ltb, leb, length, get_or, take, drop}
use Rattle.laws.specs.Choice.{pick}
use Rattle.refusal.specs.Outcome.{gives}
use Rattle.decoder.specs.State.{limit}
use Rattle.damage.specs.Reported.{Reported}
use Rattle.damage.specs.Sent.{Message, bytes_of, all_sendable, event_of, Tag, all_tagged, Sent, nothing, own, between}
use Rattle.damage.specs.Damage.{arrives}
use Rattle.damage.specs.Caller.{Caller, Call, CallLog, Made, total_used}

-- the places in what is sent, from this one on, at which messages' bytes stand; "Real-time bytes among them are no part" of a message
abbrev pub own_places : {ts sent : List Tag} → Sent ts sent → ℕ → List ℕ
own_places nothing place = []
own_places (own w) place = place ∷ own_places w (suc place)
own_places (between b h w) place = own_places w (suc place)

-- a sent message and the places of its bytes
pub record SentMessage : Type 0 where
  pub message : Message
  pub places : List ℕ

-- what was sent, message by message: each takes as many of the places as it has bytes, in order
abbrev pub sent_messages : List Message → List ℕ → List SentMessage
sent_messages [] places = []
sent_messages (m ∷ ms) places =
    record { message = m; places = take (length (bytes_of m)) places } ∷ sent_messages ms (drop (length (bytes_of m)) places)

-- is every place ahead of this one?
abbrev pub all_ahead : ℕ → List ℕ → Bool
all_ahead place [] = true
all_ahead place (p ∷ ps) = ltb p place && all_ahead place ps

-- is no place ahead of this one?
abbrev pub none_ahead : ℕ → List ℕ → Bool
none_ahead place [] = true
none_ahead place (p ∷ ps) = leb place p && none_ahead place ps

-- document 01's "wholly after": all its bytes stand after the run, which is the n bytes from place i on
abbrev pub wholly_after : ℕ → ℕ → SentMessage → Bool
wholly_after i n x = none_ahead (i + n) x.places

-- document 01's "untouched": "all its bytes stand before the run, or all after it"
abbrev pub untouched : ℕ → ℕ → SentMessage → Bool
untouched i n x = all_ahead i x.places || wholly_after i n x

-- the place of a message's first byte
abbrev pub first_place : List ℕ → ℕ
first_place places = get_or places 0 0

-- the place of "the first byte of the first message wholly after the run", or the end where there is none
abbrev pub first_after : ℕ → ℕ → ℕ → List SentMessage → ℕ
first_after i n end [] = end
first_after i n end (x ∷ xs) = pick (wholly_after i n x) (first_place x.places) (first_after i n end xs)

-- where a sent byte that is not in the run stands in what arrives: as sent if it is before the run, else the new bytes have the run's place
abbrev pub arrives_at : ℕ → ℕ → List ℕ → ℕ → ℕ
arrives_at i n new place = pick (ltb place i) place (place - n + length new)

-- the place of a message's last byte
abbrev pub last_place : List ℕ → ℕ
last_place [] = 0
last_place (p ∷ []) = p
last_place (p ∷ q ∷ ps) = last_place (q ∷ ps)

-- a report and the byte that it belongs to, by its place in what arrives
pub record Placed : Type 0 where
  pub place : ℕ
  pub report : Reported

-- an untouched message's report: "a message's last byte reports that message"
abbrev pub last_byte_report : ℕ → ℕ → List ℕ → SentMessage → Placed
last_byte_report i n new x = record { place = arrives_at i n new (last_place x.places); report = gives (event_of x.message) }

-- the reports of the untouched messages, in the order in which they were sent
abbrev pub untouched_reports : ℕ → ℕ → List ℕ → List SentMessage → List Placed
untouched_reports i n new [] = []
untouched_reports i n new (x ∷ xs) = pick (untouched i n x) (last_byte_report i n new x ∷ untouched_reports i n new xs) (untouched_reports i n new xs)

-- the reports that belong to the first so many bytes: "as far as bytes were used"
abbrev pub within : ℕ → List Placed → List Placed
within used [] = []
within used (x ∷ xs) = pick (ltb x.place used) (x ∷ within used xs) (within used xs)

-- the reports of a log one behind the other, each with the place of its byte
abbrev pub in_order : ℕ → List (List Reported) → List Placed
in_order place [] = []
in_order place (rs ∷ rest) = map (λ (r : Reported). record { place = place; report = r }) rs ++ in_order (suc place) rest

-- the first list's entries stand in the second in the same order, one for each, with any others before, between and behind them
pub data Among : List Placed → List Placed → Type 0 where
  all_found : {ys : List Placed} → Among [] ys
  found : {x : Placed} {xs ys : List Placed} → Among xs ys → Among (x ∷ xs) (x ∷ ys)
  passed : {y : Placed} {xs ys : List Placed} → Among xs ys → Among xs (y ∷ ys)

-- "The count of untouched messages lost to damage is nought": as far as bytes were used, every untouched message has its report among the
-- reports, given by its own last byte, and all of them in the order in which they were sent
abbrev pub NoneLost : (c : Caller) → c.State → Type 0
NoneLost c start =
    (ms : List Message) → all_sendable ms ≡ true → (sent : List Tag) (woven : Sent (all_tagged ms) sent)
    → (i n : ℕ) (new : List ℕ)
    → (store : c.Store) → limit ≤ c.size store
    → (cs : List (Call c)) (log : CallLog) → Made c cs start store (arrives i n new sent) log
    → Among (within (total_used log.answers) (untouched_reports i n new (sent_messages ms (own_places woven 0)))) (in_order 0 log.reports)
