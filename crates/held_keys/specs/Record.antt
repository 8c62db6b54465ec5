-- The record as numbers: "array of sixteen arrays, two u64 each", and the record whose held keys are given.
use Rattle.std.specs.Prelude.{◌≡◌, Bool, List, [], ◌∷◌, ℕ, zero, suc, ◌+◌, ◌*◌, ◌^◌, ◌<◌, ltb, length, get_or, replicate}
use Rattle.laws.specs.Choice.{pick}
use Rattle.laws.specs.Tabulate.{tab}
use Rattle.wire.specs.declared.channel_message.ChannelMessage.{ChannelMessage}
use Rattle.held_keys.specs.HeldKeys.{still_held}

-- "array of sixteen arrays, two u64 each": what the array's type says of every record
pub record Shaped (keys : List (List ℕ)) : Type 0 where
  pub channels : length keys ≡ 16
  pub words : (c : ℕ) → c < 16 → length (get_or keys c []) ≡ 2
  pub bits : (c w : ℕ) → c < 16 → w < 2 → get_or (get_or keys c []) w 0 < 2 ^ 64

-- no key held
abbrev pub no_keys : List (List ℕ)
no_keys = replicate 16 (0 ∷ 0 ∷ [])

-- the word of n bits whose bit j is set if the test says so of j
unfoldable pub word_of : (ℕ → Bool) → ℕ → ℕ
word_of held zero = 0
word_of held (suc n) = pick (held 0) 1 0 + 2 * word_of (λ j. held (suc j)) n

-- the record in which just these keys are held
unfoldable pub record_of : (ℕ → ℕ → Bool) → List (List ℕ)
record_of held = tab (λ c. tab (λ w. word_of (λ j. held c (64 * w + j)) 64) 2) 16

-- the record after a message: that of the keys that are then held; for a channel of 16 or more "the record unchanged"
abbrev pub record_after : List (List ℕ) → ℕ → ChannelMessage → List (List ℕ)
record_after keys channel message = pick (ltb channel 16) (record_of (still_held keys channel message)) keys

-- a call: a channel and a message
abbrev pub KeyCall : Type 0
KeyCall = ℕ × ChannelMessage

-- the record after calls from no_keys, the latest call first
unfoldable pub after_calls : List KeyCall → List (List ℕ)
after_calls [] = no_keys
after_calls (call ∷ earlier) = record_after (after_calls earlier) call.0 call.1
