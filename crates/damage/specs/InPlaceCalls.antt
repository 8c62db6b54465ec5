-- The decoder's call that changes the state in place, as a caller makes it.
use Rattle.std.specs.Prelude.{List, [], ℕ, Result}
use Rattle.refusal.specs.Outcome.{Outcome, gives, refused, answered}
use Rattle.decoder.specs.declared.Decoder.{Decoder}
use Rattle.decoder.specs.Call.{call}
use Rattle.decoder.specs.Reports.{report_list, told_all}
use Rattle.decoder_in_place.specs.declared.Taken.{Taken}
use Rattle.decoder_in_place.specs.InPlace.{FeedsInPlace}
use Rattle.damage.specs.Reported.{Reported}
use Rattle.damage.specs.Caller.{Caller, sole_caller}
use Rattle.refusal.specs.declared.Refusal.{Refusal}

-- how many bytes a call used, or its refusal
abbrev pub taken_count : Outcome Taken → Outcome ℕ
taken_count (gives t) = gives t.used
taken_count (refused n values) = refused n values

-- a call's reports over the store as it left it; a refused call has none
abbrev pub taken_reports : Outcome Taken → List ℕ → List Reported
taken_reports (gives t) store = told_all store (report_list t.interrupted t.report)
taken_reports (refused n values) store = []

-- the caller of `decoder_in_place::feed`, by its contract: the state is what stands behind the reference
abbrev pub in_place : Caller
in_place =
    sole_caller
    (λ (d : Decoder) (store bytes : List ℕ) (a : Result Taken Refusal) (next : Decoder) (left : List ℕ). FeedsInPlace (call d store bytes) a d next store left)
    (λ (a : Result Taken Refusal). taken_count (answered a))
    (λ (a : Result Taken Refusal) (store : List ℕ). taken_reports (answered a) store)
