-- A MIDI channel.
use Rattle.std.specs.Prelude.{[], ◌∷◌, ℕ, ltb}
use Rattle.refusal.specs.Outcome.{Outcome, gives, unless}
use Rattle.wire.specs.declared.Channel.{Channel}

-- "A channel of 16 or more gets 17", with the channel
abbrev pub when_channel : {A : Type 0} → ℕ → Outcome A → Outcome A
when_channel channel next = unless (ltb channel 16) 17 (channel ∷ []) next

-- a channel is a byte below 16
abbrev pub channel_of : ℕ → Outcome Channel
channel_of n = when_channel n (gives (record { 0 = n }))
