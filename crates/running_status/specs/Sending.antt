-- Lists of calls of the writer that were made, refused ones among them, into any buffers.
use Rattle.std.specs.Prelude.{List, [], ◌∷◌, ◌++◌, ℕ, take, None, Option, Result}
use Rattle.refusal.specs.declared.Refusal.{Refusal}
use Rattle.refusal.specs.Outcome.{Outcome, gives, refused, answered}
use Rattle.running_status.specs.declared.Emitted.{Emitted}
use Rattle.running_status.specs.RunningStatus.{Item, Handed, item_handed, Emits}

-- the state for the next call: "the state is kept" where this one is refused
abbrev pub state_kept : Outcome Emitted → Option ℕ → Option ℕ
state_kept (gives e) st = e.state
state_kept (refused n values) st = st

-- what goes over the wire: as many bytes of the buffer's front as the call counts; of a refused call none
abbrev pub gone_out : Outcome Emitted → List ℕ → List ℕ
gone_out (gives e) buffer = take e.count buffer
gone_out (refused n values) buffer = []

-- the messages that were accepted
abbrev pub items_accepted : Outcome Emitted → Handed → List Item
items_accepted (gives e) x = item_handed x ∷ []
items_accepted (refused n values) x = []

-- from a state on: the messages that were accepted, the bytes that went over the wire, and the state behind them. Each call met its contract, into
-- whatever buffer it was lent
pub data Sending : Option ℕ → List Item → List ℕ → Option ℕ → Type 0 where
  no_call : {st : Option ℕ} → Sending st [] [] st
  one_call : {st last : Option ℕ} {is : List Item} {bytes : List ℕ} (x : Handed) (out later : List ℕ) (answer : Result Emitted Refusal)
      → Emits st x answer out later
      → Sending (state_kept (answered answer) st) is bytes last
      → Sending st (items_accepted (answered answer) x ++ is) (gone_out (answered answer) later ++ bytes) last

-- "what was written from the state none": the accepted messages, and the bytes that went over the wire
abbrev pub WrittenFromNone : List Item → List ℕ → Type 0
WrittenFromNone is bytes = (last : Option ℕ) × Sending None is bytes last
