-- The decoder's call by value as a caller makes it, and the bytes one by one.
use Rattle.std.specs.Prelude.{◌≡◌, List, [], ◌∷◌, ℕ, take, drop, Result}
use Rattle.refusal.specs.Outcome.{Outcome, gives, refused, answered}
use Rattle.decoder.specs.declared.Decoder.{Decoder}
use Rattle.decoder.specs.declared.Fed.{Fed}
use Rattle.decoder.specs.Step.{step, stored}
use Rattle.decoder.specs.Call.{call, fed_of, store_of, Feeds}
use Rattle.decoder.specs.Reports.{report_list, told_all}
use Rattle.damage.specs.Reported.{Reported}
use Rattle.damage.specs.Caller.{Caller, sole_caller, Call, give, lend_short, CallLog, bytes_used, in_front}
use Rattle.refusal.specs.declared.Refusal.{Refusal}

-- how many bytes a call used, or its refusal
abbrev pub fed_count : Outcome Fed → Outcome ℕ
fed_count (gives f) = gives f.used
fed_count (refused n values) = refused n values

-- a call's reports over the store as it left it; a refused call has none
abbrev pub fed_reports : Outcome Fed → List ℕ → List Reported
fed_reports (gives f) store = told_all store (report_list f.interrupted f.report)
fed_reports (refused n values) store = []

-- "the state that the last one returned"; a refused call returns none, and the next gets it as it was
abbrev pub fed_state : Outcome Fed → Decoder → Decoder
fed_state (gives f) d = f.state
fed_state (refused n values) d = d

-- the caller of `Decoder::feed`, by its contract
abbrev pub by_value : Caller
by_value =
    sole_caller
    (λ (d : Decoder) (store bytes : List ℕ) (a : Result Fed Refusal) (next : Decoder) (left : List ℕ). Feeds (call d store bytes) a store left × (next ≡ fed_state (answered a) d))
    (λ (a : Result Fed Refusal). fed_count (answered a))
    (λ (a : Result Fed Refusal) (store : List ℕ). fed_reports (answered a) store)

-- what a list of calls comes to by the definition of a call
unfoldable pub log_of : List (Call by_value) → Decoder → List ℕ → List ℕ → CallLog
log_of [] d store bytes = record { answers = []; reports = [] }
log_of (give n ∷ cs) d store bytes =
    let o = call d store (take n bytes) in
    in_front (fed_count (fed_of o)) (fed_reports (fed_of o) (store_of o store)) (log_of cs (fed_state (fed_of o) d) (store_of o store) (drop (bytes_used (fed_count (fed_of o))) bytes))
log_of (lend_short other others short ∷ cs) d store bytes =
    let o = call d other others in
    in_front (fed_count (fed_of o)) (fed_reports (fed_of o) (store_of o other)) (log_of cs (fed_state (fed_of o) d) store bytes)

-- what the bytes report if they come singly: each byte's reports, a frame's bytes read from the store that it leaves
unfoldable pub singly : Decoder → List ℕ → List ℕ → List (List Reported)
singly d store [] = []
singly d store (b ∷ bs) =
    told_all (stored d store b) (report_list (step d b).interrupted (step d b).report) ∷ singly (step d b).state (stored d store b) bs

-- the state behind bytes that came singly
abbrev pub state_singly : Decoder → List ℕ → Decoder
state_singly d [] = d
state_singly d (b ∷ bs) = state_singly (step d b).state bs

-- the store behind bytes that came singly, as which it fills in every call: "fills as if bytes came singly"
abbrev pub store_singly : Decoder → List ℕ → List ℕ → List ℕ
store_singly d store [] = store
store_singly d store (b ∷ bs) = store_singly (step d b).state (stored d store b) bs
