-- One call: bytes are taken until the first that reports.
use Rattle.std.specs.Prelude.{◌≡◌, Bool, true, false, ◌&&◌, ◌||◌, List, [], ◌∷◌, ℕ, ◌+◌, leb, length, None, Option, Result, Some}
use Rattle.laws.specs.Choice.{pick}
use Rattle.refusal.specs.declared.Refusal.{Refusal}
use Rattle.refusal.specs.Outcome.{Outcome, gives, refused, unless, answered}
use Rattle.decoder.specs.declared.Report.{Report}
use Rattle.decoder.specs.declared.Decoder.{Decoder}
use Rattle.decoder.specs.declared.Stepped.{Stepped}
use Rattle.decoder.specs.declared.Fed.{Fed}
use Rattle.decoder.specs.State.{limit, sound}
use Rattle.decoder.specs.Step.{step, stored}

-- what a call did, with the store as it left it
pub record Walked : Type 0 where
  pub fed : Fed
  pub store : List ℕ

-- is there a report of the byte's own, besides 18?
abbrev pub some_report : Option Report → Bool
some_report None = false
some_report (Some x) = true

-- does the byte report anything?
abbrev pub reports : Stepped → Bool
reports s = s.interrupted || some_report s.report

-- no byte left: nothing used, nothing reported
abbrev pub ended : Decoder → List ℕ → Walked
ended d store = record { fed = record { used = 0; state = d; interrupted = false; report = None }; store = store }

-- a byte that reports is the last that is used
abbrev pub stopped : Stepped → List ℕ → Walked
stopped s store = record { fed = record { used = 1; state = s.state; interrupted = s.interrupted; report = s.report }; store = store }

-- a walk that began so many bytes further on
abbrev pub further : ℕ → Walked → Walked
further n w = record { fed = record { used = n + w.fed.used; state = w.fed.state; interrupted = w.fed.interrupted; report = w.fed.report }; store = w.store }

-- "A call takes bytes until the first that reports"
unfoldable pub walk : Decoder → List ℕ → List ℕ → Walked
walk d store [] = ended d store
walk d store (b ∷ bs) =
    pick (reports (step d b)) (stopped (step d b) (stored d store b)) (further 1 (walk (step d b).state (stored d store b) bs))

-- what a walk gives: the answer's fields and the store
pub record Walks (w : Walked) (fed : Fed) (afterwards : List ℕ) : Type 0 where
  pub told : fed ≡ w.fed
  pub left : afterwards ≡ w.store

-- 20: "store under 2,354 bytes, unsound decoder state"; "tested first, nothing used"
abbrev pub ready : Decoder → List ℕ → Bool
ready d store = leb limit (length store) && sound d

-- a call: refused with 20 and no values, or the walk over its bytes, also where there are none
abbrev pub call : Decoder → List ℕ → List ℕ → Outcome Walked
call d store bytes = unless (ready d store) 20 [] (gives (walk d store bytes))

-- the answer, without the store
abbrev pub fed_of : Outcome Walked → Outcome Fed
fed_of (gives w) = gives w.fed
fed_of (refused n values) = refused n values

-- the store afterwards; a refused call leaves it as it was
abbrev pub store_of : Outcome Walked → List ℕ → List ℕ
store_of (gives w) store = w.store
store_of (refused n values) store = store

-- the whole of what a call does: its answer, with the state, and every byte of the lent store afterwards
pub record Feeds (o : Outcome Walked) (answer : Result Fed Refusal) (before afterwards : List ℕ) : Type 0 where
  pub answers : answered answer ≡ fed_of o
  pub leaves : afterwards ≡ store_of o before
