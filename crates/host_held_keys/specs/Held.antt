-- The held keys as they cross to C: 256 bytes that the caller keeps. "A channel of 16 or more gets 17, the record unchanged"; 20 for another length.
use Rattle.std.specs.Prelude.{◌≡◌, Bool, List, [], ◌∷◌, ℕ, eqb, ltb, length, replicate, None, Option, Some}
use Rattle.laws.specs.Choice.{pick}
use Rattle.refusal.specs.Outcome.{Outcome, gives, refused, unless}
use Rattle.held_keys.specs.HeldKeys.{key_answer, count_on, first_held}
use Rattle.held_keys.specs.Record.{KeyCall, record_after}
use Rattle.held_keys.specs.HeldBytes.{keys_of, bytes_of_keys}
use Rattle.host_answer.specs.declared.Answer.{Answer}
use Rattle.host_answer.specs.Answer.{answer_of, no_record}
use Rattle.host_held_keys.specs.declared.HeldAnswer.{HeldAnswer}
use Rattle.wire.specs.declared.channel_message.ChannelMessage.{ChannelMessage}

-- are there as many bytes as a record has?
abbrev pub is_record : List ℕ → Bool
is_record bytes = eqb (length bytes) 256

-- no key held: every byte 0
abbrev pub fresh_write : List ℕ → Outcome (List ℕ)
fresh_write bytes = unless (is_record bytes) 20 [] (gives (replicate 256 0))

-- a message applied: 20 for the length, 255 where no record names the kind, then 17
abbrev pub kind_answer : Option ChannelMessage → ℕ → Answer
kind_answer (Some message) channel = answer_of (key_answer channel)
kind_answer None channel = no_record

-- 20 first, "tested first, nothing used"
abbrev pub apply_answer : List ℕ → Option ChannelMessage → ℕ → Answer
apply_answer bytes kind channel = pick (is_record bytes) (kind_answer kind channel) (answer_of (refused 20 []))

-- the bytes afterwards: those of the record after the message; as they were where the answer is not 0
abbrev pub kind_bytes : List ℕ → Option ChannelMessage → ℕ → List ℕ
kind_bytes bytes (Some message) channel = pick (ltb channel 16) (bytes_of_keys (record_after (keys_of bytes) channel message)) bytes
kind_bytes bytes None channel = bytes

-- bytes of another length are no record and stay
abbrev pub apply_bytes : List ℕ → Option ChannelMessage → ℕ → List ℕ
apply_bytes bytes kind channel = pick (is_record bytes) (kind_bytes bytes kind channel) bytes

-- the whole of what the call does
pub record HeldSent (kind : Option ChannelMessage) (channel : ℕ) (answer : Answer) (before later : List ℕ) : Type 0 where
  pub answers : answer ≡ apply_answer before kind channel
  pub leaves : later ≡ apply_bytes before kind channel

-- the bytes after calls of dm_held_apply, each with a message that a record names, from those that dm_held_fresh writes; the latest call first. A
-- call that is answered 255 leaves the bytes, so that it need not stand in the list
unfoldable pub bytes_after_calls : List KeyCall → List ℕ
bytes_after_calls [] = replicate 256 0
bytes_after_calls (call ∷ earlier) = apply_bytes (bytes_after_calls earlier) (Some call.1) call.0

-- "count held on a channel"
abbrev pub count_in : List ℕ → ℕ → Outcome ℕ
count_in bytes channel = unless (is_record bytes) 20 [] (count_on (keys_of bytes) channel)

-- "the first held key, lowest channel and then lowest key, or none"
abbrev pub first_told : Option (ℕ × ℕ) → HeldAnswer
first_told (Some at) = record { number = 0; found = 1; channel = at.0; key = at.1 }
first_told None = record { number = 0; found = 0; channel = 0; key = 0 }

-- the first held key that the bytes say; 20 for another length
abbrev pub first_in : List ℕ → HeldAnswer
first_in bytes = pick (is_record bytes) (first_told (first_held (keys_of bytes))) (record { number = 20; found = 0; channel = 0; key = 0 })
