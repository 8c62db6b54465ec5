-- Lists of a C host's calls of dm_running_channel, _common, _realtime and _frame that were made, refused ones among them, into any buffers.
use Rattle.std.specs.Prelude.{List, [], ◌∷◌, ◌++◌, ℕ, eqb, take, None, Option, Some}
use Rattle.laws.specs.Choice.{pick}
use Rattle.running_status.specs.RunningStatus.{Item, Handed, item_handed}
use Rattle.running_status.specs.StateBytes.{running_bytes}
use Rattle.host_answer.specs.declared.Answer.{Answer}
use Rattle.host_running_status.specs.Running.{HandedSent}

-- the message that a call is handed, where its numbers name one
abbrev pub items_named : Option Handed → List Item
items_named (Some x) = item_handed x ∷ []
items_named None = []

-- a call that answers number 0 accepted its message; any other answer refused it
abbrev pub items_told : Answer → Option Handed → List Item
items_told answer x = pick (eqb answer.number 0) (items_named x) []

-- what a host then sends: as many bytes of the buffer's front as the value says
abbrev pub bytes_told : Answer → List ℕ → List ℕ
bytes_told answer buffer = pick (eqb answer.number 0) (take answer.value buffer) []

-- from a state's bytes on: the messages that were accepted, the bytes that were sent, and the state's bytes behind them. Each call met its contract, into
-- whatever buffer it was lent, and the next gets the state's bytes as this one left them
pub data HostSending : List ℕ → List Item → List ℕ → List ℕ → Type 0 where
  no_call : {state : List ℕ} → HostSending state [] [] state
  one_call : {state last : List ℕ} {is : List Item} {bytes : List ℕ} (x : Option Handed) (answer : Answer) (left out later : List ℕ)
      → HandedSent x answer state left out later
      → HostSending left is bytes last
      → HostSending state (items_told answer x ++ is) (bytes_told answer later ++ bytes) last

-- what a host's calls wrote from the bytes that dm_running_fresh leaves: the accepted messages, and the bytes that were sent
abbrev pub WrittenByHost : List Item → List ℕ → Type 0
WrittenByHost is bytes = (last : List ℕ) × HostSending (running_bytes None) is bytes last
