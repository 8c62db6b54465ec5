-- One call that changes the decoder state in place, over the definition of the call by value.
use Rattle.std.specs.Prelude.{◌≡◌, ◌+◌, ◌<◌, List, [], ◌∷◌, ℕ, length, drop, None, Option, Some, IfSome, Result}
use Rattle.std.specs.Borrow.{Bor}
use Rattle.refusal.specs.Outcome.{Outcome, gives, refused, answered}
use Rattle.decoder.specs.declared.Decoder.{Decoder}
use Rattle.decoder.specs.Call.{Walked, store_of}
use Rattle.decoder_in_place.specs.declared.Taken.{Taken}
use Rattle.refusal.specs.declared.Refusal.{Refusal}

-- what is answered: all but the state, which stands behind the reference
abbrev pub taken_of : Outcome Walked → Outcome Taken
taken_of (gives w) = gives (record { used = w.fed.used; interrupted = w.fed.interrupted; report = w.fed.report })
taken_of (refused n values) = refused n values

-- the state afterwards; a refused call leaves it as it was
abbrev pub next_state : Outcome Walked → Decoder → Decoder
next_state (gives w) d = w.fed.state
next_state (refused n values) d = d

-- the whole of what a call in place does: its answer, the state behind the reference, and every byte of the lent store
pub record FeedsInPlace (o : Outcome Walked) (answer : Result Taken Refusal) (state next : Decoder) (before afterwards : List ℕ) : Type 0 where
  pub answers : answered answer ≡ taken_of o
  pub keeps : next ≡ next_state o state
  pub leaves : afterwards ≡ store_of o before

-- what is answered of the bytes that are left: none where the call is refused, and where no byte is left
abbrev pub front_of : Outcome Taken → List ℕ → Option Taken
front_of o [] = None
front_of (gives t) (b ∷ bs) = Some t
front_of (refused n values) (b ∷ bs) = None

-- what the call did, without the bytes behind it
abbrev pub front_told : Option (Taken × Bor (List ℕ)) → Option Taken
front_told None = None
front_told (Some p) = Some p.0

-- what is left is no copy: it is the caller's bytes from so many places on, and fewer of them
pub record LeftLent (bytes left : Bor (List ℕ)) (used : ℕ) : Type 0 where
  pub lies : left.ref_ptr ≡ (bytes.ref_ptr.0, used + bytes.ref_ptr.1)
  pub reads : left.now ≡ drop used bytes.now
  pub fewer : length left.now < length bytes.now

-- the whole of what a call with what is left does: its answer, what is left then, the state behind the reference, and every byte of the lent store
pub record FeedsFront (o : Outcome Walked) (answer : Option (Taken × Bor (List ℕ))) (bytes : Bor (List ℕ)) (state next : Decoder) (before afterwards : List ℕ) : Type 0 where
  pub answers : front_told answer ≡ front_of (taken_of o) bytes.now
  pub left : IfSome answer (λ p. LeftLent bytes p.1 p.0.used)
  pub keeps : next ≡ next_state o state
  pub leaves : afterwards ≡ store_of o before
