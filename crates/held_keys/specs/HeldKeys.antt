-- The held keys of document 01: "For 16 channels of 128 keys: a note on holds its key, a note off releases it"; with order 1 of document 02.
use Rattle.std.specs.Prelude.{Bool, true, false, List, [], ◌∷◌, ℕ, zero, suc, ◌+◌, ◌/◌, ◌%◌, ◌^◌, eqb, get_or, Err, None, Ok, Option, Result, Some, ⊤}
use Rattle.laws.specs.Choice.{pick}
use Rattle.laws.specs.Tabulate.{tab}
use Rattle.refusal.specs.Outcome.{Outcome, gives, refusal}
use Rattle.refusal.specs.declared.Refusal.{Refusal}
use Rattle.wire.specs.Channel.{when_channel}
use Rattle.wire.specs.declared.channel_message.ChannelMessage.{ChannelMessage}
use Rattle.wire.specs.declared.channel_message.ChannelMessage.TheVariants as m
use Rattle.held_keys.specs.declared.Effect.{Effect}
use Rattle.held_keys.specs.declared.Effect.TheVariants as e

-- is bit k of a word set?
abbrev pub bit : ℕ → ℕ → Bool
bit w k = eqb (w / 2 ^ k % 2) 1

-- "For 16 channels of 128 keys": is a key held on a channel? A key is bit k % 64 of word k / 64
unfoldable pub is_held : List (List ℕ) → ℕ → ℕ → Bool
is_held keys c k = bit (get_or (get_or keys c []) (k / 64) 0) (k % 64)

-- "velocity 0", "masked to seven bits"
abbrev pub soft : ℕ → Bool
soft v = eqb (v % 128) 0

-- "a note on holds its key, a note off releases it; keys and velocities are masked to seven bits, and other messages change nothing". By order 1 of
-- document 02 "a note on with velocity 0" releases its key too, and "a note on holds its key" is for velocities 1 to 127
abbrev pub effect_of : ChannelMessage → Effect
effect_of (m.NoteOn k v) = pick (soft v) (e.Release (k % 128)) (e.Hold (k % 128))
effect_of (m.NoteOff k v) = e.Release (k % 128)
effect_of (m.PolyKeyPressure k p) = e.Nothing
effect_of (m.ControlChange n v) = e.Nothing
effect_of (m.ProgramChange p) = e.Nothing
effect_of (m.ChannelPressure p) = e.Nothing
effect_of (m.PitchBend v) = e.Nothing

-- is key k held after an effect, if it was or was not before?
abbrev pub held_after : Effect → ℕ → Bool → Bool
held_after (e.Hold key) k before = pick (eqb k key) true before
held_after (e.Release key) k before = pick (eqb k key) false before
held_after e.Nothing k before = before

-- which keys are held after a message on a channel: its effect reaches that channel alone
abbrev pub still_held : List (List ℕ) → ℕ → ChannelMessage → ℕ → ℕ → Bool
still_held keys channel message c k = pick (eqb c channel) (held_after (effect_of message) k (is_held keys c k)) (is_held keys c k)

-- "A channel of 16 or more gets 17", with the channel, whatever the message is; else there is nothing to tell
abbrev pub key_answer : ℕ → Outcome ℕ
key_answer channel = when_channel channel (gives 0)

-- what an answer tells
abbrev pub key_told : Result ⊤ Refusal → Outcome ℕ
key_told (Ok u) = gives 0
key_told (Err r) = refusal r

-- how many of the first n keys are held
unfoldable pub count_below : (ℕ → Bool) → ℕ → ℕ
count_below held zero = 0
count_below held (suc n) = count_below held n + pick (held n) 1 0

-- "count held on a channel"
abbrev pub count_on : List (List ℕ) → ℕ → Outcome ℕ
count_on keys channel = when_channel channel (gives (count_below (is_held keys channel) 128))

-- every key of every channel, the lowest channel first and in it the lowest key: place i is key i % 128 of channel i / 128
unfoldable pub every_key : List (ℕ × ℕ)
every_key = tab (λ i. (i / 128, i % 128)) 2048

-- the first key of a list that is held, or none
unfoldable pub first_of : List (List ℕ) → List (ℕ × ℕ) → Option (ℕ × ℕ)
first_of keys [] = None
first_of keys (at ∷ later) = pick (is_held keys at.0 at.1) (Some at) (first_of keys later)

-- "the first held key, lowest channel and then lowest key, or none"
abbrev pub first_held : List (List ℕ) → Option (ℕ × ℕ)
first_held keys = first_of keys every_key
