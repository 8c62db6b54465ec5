-- What a keyboard does in a list of calls, the latest first: which keys it presses, and which it releases by a note off or by a soft strike.
use Rattle.std.specs.Prelude.{◌≡◌, Bool, true, false, ◌&&◌, ◌||◌, not, List, [], ◌∷◌, ◌++◌, ℕ, ◌%◌, ◌<◌, eqb}
use Rattle.wire.specs.declared.channel_message.ChannelMessage.{ChannelMessage}
use Rattle.wire.specs.declared.channel_message.ChannelMessage.TheVariants as m
use Rattle.held_keys.specs.HeldKeys.{soft}
use Rattle.held_keys.specs.Record.{KeyCall}

-- does a message press a key? A note on does, with velocity 1 to 127 in seven bits
abbrev pub presses_key : ChannelMessage → ℕ → Bool
presses_key (m.NoteOn k v) key = eqb key (k % 128) && not (soft v)
presses_key (m.NoteOff k v) key = false
presses_key (m.PolyKeyPressure k p) key = false
presses_key (m.ControlChange n v) key = false
presses_key (m.ProgramChange p) key = false
presses_key (m.ChannelPressure p) key = false
presses_key (m.PitchBend v) key = false

-- does a message release a key? A note off does, and "a note on with velocity 0"
abbrev pub releases_key : ChannelMessage → ℕ → Bool
releases_key (m.NoteOn k v) key = eqb key (k % 128) && soft v
releases_key (m.NoteOff k v) key = eqb key (k % 128)
releases_key (m.PolyKeyPressure k p) key = false
releases_key (m.ControlChange n v) key = false
releases_key (m.ProgramChange p) key = false
releases_key (m.ChannelPressure p) key = false
releases_key (m.PitchBend v) key = false

-- does a call press a key of a channel?
abbrev pub pressed_by : KeyCall → ℕ → ℕ → Bool
pressed_by call c key = eqb c call.0 && presses_key call.1 key

-- does a call release a key of a channel?
abbrev pub released_by : KeyCall → ℕ → ℕ → Bool
released_by call c key = eqb c call.0 && releases_key call.1 key

-- does some call of a list release the key?
abbrev pub some_releases : List KeyCall → ℕ → ℕ → Bool
some_releases [] c key = false
some_releases (call ∷ calls) c key = released_by call c key || some_releases calls c key

-- a key of a channel is released: whichever call of the list presses it, some later call releases it. A key that is pressed twice needs no second
-- release: the record has one bit for it. No sentence of the papers says this; it is what the player of a keyboard means
pub record Released (calls : List KeyCall) (c key : ℕ) : Type 0 where
  pub later_released : (later earlier : List KeyCall) (call : KeyCall) → calls ≡ later ++ (call ∷ earlier) → pressed_by call c key ≡ true
      → some_releases later c key ≡ true

-- each pressed key is released, on every channel that there is
pub record AllReleased (calls : List KeyCall) : Type 0 where
  pub each : (c key : ℕ) → c < 16 → Released calls c key
