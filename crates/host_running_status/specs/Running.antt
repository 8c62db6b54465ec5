-- The writer that leaves out status bytes as a C host calls it: its state as two bytes, and what it answers in plain numbers.
use Rattle.std.specs.Prelude.{◌≡◌, List, [], ℕ, eqb, length, None, Option, Some}
use Rattle.refusal.specs.Outcome.{Outcome, gives, refused, unless}
use Rattle.wire.specs.declared.channel_message.ChannelMessage.{ChannelMessage}
use Rattle.wire.specs.declared.system_common.CommonStatus.{CommonStatus}
use Rattle.wire.specs.declared.real_time.Realtime.{Realtime}
use Rattle.running_status.specs.declared.Outgoing.{Outgoing}
use Rattle.running_status.specs.declared.Outgoing.TheVariants as o
use Rattle.running_status.specs.RunningStatus.{state_behind, Handed, plain, frame_bytes, item_handed, handed_out}
use Rattle.running_status.specs.StateBytes.{running_bytes, says_running, running_of}
use Rattle.host_answer.specs.declared.Answer.{Answer}
use Rattle.host_answer.specs.Answer.{Sends}

-- the message that plain numbers name: a kind of channel message on a channel, a kind of system common message with its value, a real-time message;
-- none where no record names the kind
abbrev pub channel_named : Option ChannelMessage → ℕ → Option Outgoing
channel_named (Some m) channel = Some (o.Channel (record { 0 = channel }) m)
channel_named None channel = None

abbrev pub common_named : Option CommonStatus → ℕ → Option Outgoing
common_named (Some k) value = Some (o.Common k value)
common_named None value = None

abbrev pub realtime_named : Option Realtime → Option Outgoing
realtime_named (Some x) = Some (o.Realtime x)
realtime_named None = None

-- what a call with such numbers hands to the writer
abbrev pub plain_named : Option Outgoing → Option Handed
plain_named (Some m) = Some (plain m)
plain_named None = None

-- a frame's bytes are handed on as they are
abbrev pub frame_named : List ℕ → Option Handed
frame_named bytes = Some (frame_bytes bytes)

-- what the writer does with what it is handed; 255 where no record names the message
abbrev pub host_out : Option ℕ → Option Handed → ℕ → Outcome (List ℕ)
host_out st (Some x) room = handed_out st x room
host_out st None room = refused 255 []

-- the state behind what the writer is handed
abbrev pub host_behind : Option ℕ → Option Handed → Option ℕ
host_behind st (Some x) = state_behind st (item_handed x)
host_behind st None = st

-- 20 for bytes that are no state, "tested first, nothing used"; then what the writer does
abbrev pub called_out : List ℕ → Option Handed → ℕ → Outcome (List ℕ)
called_out state x room = unless (says_running state) 20 [] (host_out (running_of state) x room)

-- the state's bytes afterwards: "the state is kept" where the call is refused
abbrev pub running_after_call : Outcome (List ℕ) → Option ℕ → List ℕ → List ℕ
running_after_call (gives bytes) next state = running_bytes next
running_after_call (refused n values) next state = state

-- the whole of what a call does: its answer, the state's bytes and the lent buffer's
pub record RunningSent (result : Outcome (List ℕ)) (next : Option ℕ) (answer : Answer) (state state_later out out_later : List ℕ) : Type 0 where
  pub sends : Sends result answer out out_later
  pub keeps : state_later ≡ running_after_call result next state

-- a call on the state that the bytes say
abbrev pub HandedSent : Option Handed → Answer → List ℕ → List ℕ → List ℕ → List ℕ → Type 0
HandedSent x answer state state_later out out_later =
    RunningSent (called_out state x (length out)) (host_behind (running_of state) x) answer state state_later out out_later

-- a fresh state, "the state none": two bytes 00, whatever they held; 20 for another length
abbrev pub running_fresh : List ℕ → Outcome (List ℕ)
running_fresh state = unless (eqb (length state) 2) 20 [] (gives (running_bytes None))
