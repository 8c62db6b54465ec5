-- The decoder's call with what is left of a piece, as a caller makes it.
use Rattle.std.specs.Prelude.{◌≡◌, Bool, false, ◌&&◌, List, ℕ, leb, eqb, length, None, Option, Some, Ok, Err, Result}
use Rattle.std.specs.Borrow.{Bor}
use Rattle.laws.specs.Choice.{pick}
use Rattle.refusal.specs.declared.Refusal.{Refusal}
use Rattle.refusal.specs.declared.Refusal.TheVariants as e
use Rattle.refusal.specs.Outcome.{answered}
use Rattle.decoder.specs.declared.Decoder.{Decoder}
use Rattle.decoder.specs.State.{limit}
use Rattle.decoder.specs.Call.{call}
use Rattle.decoder_in_place.specs.declared.Taken.{Taken}
use Rattle.decoder_in_place.specs.InPlace.{front_told, FeedsFront}
use Rattle.damage.specs.Caller.{Caller, sole_caller}
use Rattle.damage.specs.InPlaceCalls.{taken_count, taken_reports}

-- what a caller knows behind a call: the bytes that were left, how long the lent store is, and the answer
pub record FrontCall : Type 0 where
  pub rest : Bor (List ℕ)
  pub room : ℕ
  pub answer : Option (Taken × Bor (List ℕ))

-- had a call nothing to do: no byte was left, and the store is long enough?
abbrev pub nothing_to_do : ℕ → List ℕ → Bool
nothing_to_do room bytes = leb limit room && eqb (length bytes) 0

-- what an answer says, as `decoder_in_place::feed` says it. None is a refusal, but where there was nothing to do: then no byte was used
abbrev pub said_by : Bool → Option Taken → Result Taken Refusal
said_by idle (Some t) = Ok t
said_by idle None = pick idle (Ok (record { used = 0; interrupted = false; report = None })) (Err e.BadStore)

-- what it says to the caller, who knows what it lent
abbrev pub front_said : FrontCall → Result Taken Refusal
front_said x = said_by (nothing_to_do x.room x.rest.now) (front_told x.answer)

-- the caller of `decoder_in_place::feed_front`, by its contract, of the bytes that it lends
abbrev pub by_front : Caller
by_front =
    sole_caller
    (λ (d : Decoder) (store bytes : List ℕ) (x : FrontCall) (next : Decoder) (left : List ℕ).
    (x.rest.now ≡ bytes) × (x.room ≡ length store) × FeedsFront (call d store x.rest.now) x.answer x.rest d next store left)
    (λ (x : FrontCall). taken_count (answered (front_said x)))
    (λ (x : FrontCall) (store : List ℕ). taken_reports (answered (front_said x)) store)
