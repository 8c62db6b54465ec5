-- What an entry point answers, from document 01's terms: the number, and the value or the details.
use Rattle.std.specs.Prelude.{◌≡◌, Bool, true, false, List, ℕ, get_or}
use Rattle.refusal.specs.Outcome.{Outcome, gives, refused, count_of, after}
use Rattle.host_answer.specs.declared.Answer.{Answer}

-- done: number 0 and the value. Refused: document 01's number and details, 0 behind the last
abbrev pub answer_of : Outcome ℕ → Answer
answer_of (gives n) = record { number = 0; value = n; detail0 = 0; detail1 = 0; detail2 = 0; detail3 = 0 }
answer_of (refused n values) =
    record { number = n; value = 0; detail0 = get_or values 0 0; detail1 = get_or values 1 0; detail2 = get_or values 2 0; detail3 = get_or values 3 0 }

-- a kind that no record names: a number that the table lacks
abbrev pub no_record : Answer
no_record = record { number = 255; value = 0; detail0 = 0; detail1 = 0; detail2 = 0; detail3 = 0 }

-- the whole of what a writer's entry point does: its answer, and every byte of the lent buffer afterwards
pub record Sends (o : Outcome (List ℕ)) (answer : Answer) (before afterwards : List ℕ) : Type 0 where
  pub answers : answer ≡ answer_of (count_of o)
  pub leaves : afterwards ≡ after o before

-- no record names what was asked: the answer says so, and every byte stays
pub record Unnamed (answer : Answer) (before afterwards : List ℕ) : Type 0 where
  pub answers : answer ≡ no_record
  pub leaves : afterwards ≡ before

-- a writer whose flags have to name a record
abbrev pub SendsIf : Bool → Outcome (List ℕ) → Answer → List ℕ → List ℕ → Type 0
SendsIf true o answer before afterwards = Sends o answer before afterwards
SendsIf false o answer before afterwards = Unnamed answer before afterwards
