-- The call of `Decoder::feed` is the decoder's call, because its contract says so: so whatever holds of the definition's calls holds of the code's.
use Rattle.std.specs.Prelude.{Err, Ok, Result}
use mathlib.Core.Path.{◌≡◌, refl, ◌∙◌, ap, ap₂, subst}
use mathlib.Core.Bool.{true}
use mathlib.Core.List.{List, []}
use Prim.Native.Nat.{ℕ, ◌≤◌}
use lib.ListN.{length, drop}
use Rattle.laws.proofs.Tests.{split}
use Rattle.refusal.specs.Outcome.{Outcome, answered}
use Rattle.refusal.specs.declared.Refusal.TheVariants as e
use Rattle.decoder.specs.declared.Decoder.{Decoder}
use Rattle.decoder.specs.declared.Fed.{Fed}
use Rattle.decoder.specs.State.{limit, sound, fresh, reset}
use Rattle.decoder.specs.Call.{walk, ready, call, Feeds}
use Rattle.damage.specs.History.{meaning}
use Rattle.damage.specs.Caller.{Call, CallLog, bytes_used, in_front, Made, none, given, lent, meanwhile, Exactly}
use Rattle.damage.specs.Condition3.{Condition3}
use Rattle.damage.specs.Promises.{Promises}
use Rattle.damage.specs.Calls.{fed_count, fed_reports, fed_state, by_value, log_of, singly}
use Rattle.damage.proofs.Hearing.{AlwaysAnswers, made_exists}
use Rattle.damage.proofs.Thin.{IsCall, Thin, thin_singly, thin_promises}
use Rattle.refusal.specs.declared.Refusal.{Refusal}

is_call : (d : Decoder) (store bytes : List ℕ) (answer : Result Fed Refusal) (next : Decoder) (left : List ℕ) → sound d ≡ true
    → Feeds (call d store bytes) answer store left × (next ≡ fed_state (answered answer) d)
    → IsCall (λ (a : Result Fed Refusal). fed_count (answered a)) (λ (a : Result Fed Refusal) (m : List ℕ). fed_reports (answered a) m) (λ (k : Decoder). k)
    (call d store bytes) d store answer next left
is_call d store bytes answer next left ok met =
    record {
      count = ap fed_count met.0.answers;
      told = ap₂ fed_reports met.0.answers met.0.leaves;
      state = met.1 ∙ ap (λ (a : Outcome Fed). fed_state a d) met.0.answers;
      store_is = met.0.leaves;
    }

abbrev thin : Thin by_value.Contract by_value.used by_value.tells
thin = record { kept = λ (d : Decoder). d; is_call = is_call }

-- chunking: from every sound state, in whatever pieces, what single bytes report
pub by_value_singly : (d : Decoder) (store bytes : List ℕ) → sound d ≡ true → limit ≤ length store → (cs : List (Call by_value)) (log : CallLog)
    → Made by_value cs d store bytes log → Exactly cs (singly d store bytes) log
by_value_singly = thin_singly by_value.Contract by_value.used by_value.tells thin

-- from every state that a reset leaves
pub promises_by_value : (d : Decoder) → Promises by_value (reset d)
promises_by_value = thin_promises by_value.Contract by_value.used by_value.tells thin

-- CONDITION 3 of the code's own calls, from a fresh decoder
pub condition_3_by_value : Condition3 by_value fresh
condition_3_by_value = (promises_by_value fresh).condition_3

-- some answer meets the contract, and so the calls can be made
answers : AlwaysAnswers by_value
answers d store bytes =
    split (ready d store) (λ t. (Ok (walk d store bytes).fed, _, _, (record { answers = rw t; leaves = refl }, refl)))
    (λ t. (Err e.BadStore, _, _, (record { answers = rw t; leaves = refl }, refl)))

pub by_value_exists : (cs : List (Call by_value)) (d : Decoder) (store bytes : List ℕ) → (log : CallLog) × Made by_value cs d store bytes log
by_value_exists = made_exists by_value answers

-- whatever the calls answered, they came to what the definition says, from every state and over every store
pub made_is_log : {cs : List (Call by_value)} {d : Decoder} {store bytes : List ℕ} {log : CallLog} → Made by_value cs d store bytes log → log ≡ log_of cs d store bytes
unfolding log_of
made_is_log none = refl
made_is_log (given {n} {cs} {state = d} {store} {bytes} {log} answer next left met rest) =
    let all : List ℕ → Outcome Fed → CallLog =
    λ (m : List ℕ) (a : Outcome Fed). in_front (fed_count a) (fed_reports a m) (log_of cs (fed_state a d) m (drop (bytes_used (fed_count a)) bytes)) in
    ap (in_front (fed_count (answered answer)) (fed_reports (answered answer) left))
    (made_is_log rest ∙ ap (λ (k : Decoder). log_of cs k left (drop (bytes_used (fed_count (answered answer))) bytes)) met.1)
    ∙ ap₂ all met.0.leaves met.0.answers
made_is_log (lent {other} {others} {short} {cs} {state = d} {store} {bytes} {log} answer next left met rest) =
    let all : List ℕ → Outcome Fed → CallLog = λ (m : List ℕ) (a : Outcome Fed). in_front (fed_count a) (fed_reports a m) (log_of cs (fed_state a d) store bytes) in
    ap (in_front (fed_count (answered answer)) (fed_reports (answered answer) left)) (made_is_log rest ∙ ap (λ (k : Decoder). log_of cs k store bytes) met.1)
    ∙ ap₂ all met.0.leaves met.0.answers
made_is_log (meanwhile next left nobody rest) = absurd nobody

-- the definition's log is one of a list of calls that was made, so whatever is proved of those holds of it
pub log_is_made : (cs : List (Call by_value)) (d : Decoder) (store bytes : List ℕ) → Made by_value cs d store bytes (log_of cs d store bytes)
log_is_made cs d store bytes =
    let r = by_value_exists cs d store bytes in
    subst (λ (log : CallLog). Made by_value cs d store bytes log) (made_is_log r.1) r.1

pub log_means : (d : Decoder) (store bytes : List ℕ) → limit ≤ length store → (cs : List (Call by_value))
    → Exactly cs (meaning [] bytes) (log_of cs (reset d) store bytes)
log_means d store bytes room cs = (promises_by_value d).calls_mean store room bytes cs _ (log_is_made cs (reset d) store bytes)
