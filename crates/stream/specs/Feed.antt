-- The decoder's call as a host makes it: its state as bytes, and what it answers in plain numbers.
use Rattle.std.specs.Prelude.{◌≡◌, List, [], ℕ}
use Rattle.refusal.specs.Outcome.{Outcome, gives, refused, unless}
use Rattle.decoder.specs.Call.{Walked, call, store_of}
use Rattle.stream.specs.declared.FedAnswer.{FedAnswer}
use Rattle.stream.specs.State.{is_state, state_of, encoded}
use Rattle.stream.specs.Reports.{numbers_of}

-- a call on the state that the bytes say; 20 for bytes that are no state
abbrev pub feed_call : List ℕ → List ℕ → List ℕ → Outcome Walked
feed_call state store bytes = unless (is_state state) 20 [] (call (state_of state) store bytes)

-- a refused call "uses and reports nothing": 0 in every place but the number
abbrev pub refused_feed : ℕ → FedAnswer
refused_feed n = record { number = n; used = 0; interrupted = 0; kind = 0; status = 0; first = 0; second = 0 }

-- what a call answers: count and reports in numbers, or the refusal's number (20, which has no details)
abbrev pub fed_answer : Outcome Walked → FedAnswer
fed_answer (gives w) = numbers_of w.fed.used w.fed.interrupted w.fed.report
fed_answer (refused n values) = refused_feed n

-- the state's bytes afterwards; a refused call leaves them as they were
abbrev pub state_after : Outcome Walked → List ℕ → List ℕ
state_after (gives w) state = encoded w.fed.state
state_after (refused n values) state = state

-- the whole of what a call does: its answer, the state's bytes and the store's
pub record StreamFed (o : Outcome Walked) (answer : FedAnswer) (state stateLater store storeLater : List ℕ) : Type 0 where
  pub answers : answer ≡ fed_answer o
  pub keeps : stateLater ≡ state_after o state
  pub leaves : storeLater ≡ store_of o store
