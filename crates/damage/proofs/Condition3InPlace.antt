-- The call in place is the decoder's call, because its contract is said by the same definition: the state behind the reference is the one that
-- the call by value returns.
use Rattle.std.specs.Prelude.{Err, Ok, Result}
use mathlib.Core.Path.{◌≡◌, refl, ◌∙◌, ap, ap₂}
use mathlib.Core.Bool.{true}
use mathlib.Core.List.{List}
use Prim.Native.Nat.{ℕ, ◌≤◌}
use lib.ListN.{length}
use Rattle.laws.proofs.Tests.{split}
use Rattle.refusal.specs.Outcome.{Outcome, gives, refused, answered}
use Rattle.refusal.specs.declared.Refusal.TheVariants as e
use Rattle.decoder.specs.declared.Decoder.{Decoder}
use Rattle.decoder.specs.State.{limit, sound, fresh, reset}
use Rattle.decoder.specs.Call.{Walked, walk, ready, call, fed_of, store_of}
use Rattle.decoder_in_place.specs.InPlace.{taken_of, next_state, FeedsInPlace}
use Rattle.damage.specs.Caller.{Call, CallLog, Made, Exactly}
use Rattle.damage.specs.Condition3.{Condition3}
use Rattle.damage.specs.Promises.{Promises}
use Rattle.damage.specs.Calls.{fed_count, fed_reports, fed_state, singly}
use Rattle.damage.proofs.Hearing.{AlwaysAnswers, made_exists}
use Rattle.damage.proofs.Thin.{IsCall, Thin, thin_singly, thin_promises}
use Rattle.damage.specs.InPlaceCalls.{taken_count, taken_reports, in_place}
use Rattle.refusal.specs.declared.Refusal.{Refusal}
use Rattle.decoder_in_place.specs.declared.Taken.{Taken}

-- what is answered and what is kept, with the state in the answer or behind the reference
same_count : (o : Outcome Walked) → taken_count (taken_of o) ≡ fed_count (fed_of o)
same_count (gives w) = refl
same_count (refused k values) = refl

same_reports : (o : Outcome Walked) (store : List ℕ) → taken_reports (taken_of o) store ≡ fed_reports (fed_of o) store
same_reports (gives w) store = refl
same_reports (refused k values) store = refl

same_state : (o : Outcome Walked) (d : Decoder) → next_state o d ≡ fed_state (fed_of o) d
same_state (gives w) d = refl
same_state (refused k values) d = refl

pub is_call : (d : Decoder) (store bytes : List ℕ) (answer : Result Taken Refusal) (next : Decoder) (left : List ℕ) → sound d ≡ true
    → FeedsInPlace (call d store bytes) answer d next store left
    → IsCall (λ (x : Result Taken Refusal). taken_count (answered x)) (λ (x : Result Taken Refusal) (m : List ℕ). taken_reports (answered x) m) (λ (k : Decoder). k)
    (call d store bytes) d store answer next left
is_call d store bytes answer next left ok met =
    let o = call d store bytes in
    record {
      count = ap taken_count met.answers ∙ same_count o;
      told = ap₂ taken_reports met.answers met.leaves ∙ same_reports o (store_of o store);
      state = met.keeps ∙ same_state o d;
      store_is = met.leaves;
    }

abbrev thin : Thin in_place.Contract in_place.used in_place.tells
thin = record { kept = λ (d : Decoder). d; is_call = is_call }

-- from every sound state, in whatever pieces, what single bytes report
pub in_place_singly : (d : Decoder) (store bytes : List ℕ) → sound d ≡ true → limit ≤ length store → (cs : List (Call in_place)) (log : CallLog)
    → Made in_place cs d store bytes log → Exactly cs (singly d store bytes) log
in_place_singly = thin_singly in_place.Contract in_place.used in_place.tells thin

-- from every state that a reset leaves
pub promises_in_place : (d : Decoder) → Promises in_place (reset d)
promises_in_place = thin_promises in_place.Contract in_place.used in_place.tells thin

-- CONDITION 3 for lists of calls in place, from a fresh decoder
pub condition_3_in_place : Condition3 in_place fresh
condition_3_in_place = (promises_in_place fresh).condition_3

-- some answer meets the contract, and so the calls can be made
answers : AlwaysAnswers in_place
answers d store bytes =
    let w = walk d store bytes in
    split (ready d store)
    (λ t. (Ok (record { used = w.fed.used; interrupted = w.fed.interrupted; report = w.fed.report }), _, _, record { answers = rw t; keeps = refl; leaves = refl }))
    (λ t. (Err e.BadStore, _, _, record { answers = rw t; keeps = refl; leaves = refl }))

pub in_place_exists : (cs : List (Call in_place)) (d : Decoder) (store bytes : List ℕ) → (log : CallLog) × Made in_place cs d store bytes log
in_place_exists = made_exists in_place answers
