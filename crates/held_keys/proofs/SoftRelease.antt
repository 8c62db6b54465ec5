-- A note on with velocity 0 does what a note off does, because a message reaches the record by its effect alone and the two have one effect. A list
-- of calls ends with no key held exactly if each pressed key is released later, because a key is held where the latest call that presses or releases
-- it pressed it.
use mathlib.Core.Path.{◌≡◌, refl, ap, sym, ◌∙◌}
use mathlib.Core.Bool.{Bool, true, false, ◌&&◌, ◌||◌, not}
use mathlib.Core.List.{List, [], ◌∷◌, ◌++◌}
use Prim.Native.Nat.{ℕ, ◌%◌, ◌≤◌, ◌<◌}
use native.Mathlib.Omega.{arith}
use lib.Dec.{eqb, ltb}
use borrow.Author.Tests.{eq-eqb, ne_eqb, eqb-true}
use Rattle.laws.specs.Choice.{pick}
use Rattle.laws.proofs.Tests.{split, both, true_is_not_false}
use Rattle.wire.specs.declared.channel_message.ChannelMessage.{ChannelMessage}
use Rattle.wire.specs.declared.channel_message.ChannelMessage.TheVariants as m
use Rattle.held_keys.specs.declared.Effect.{Effect}
use Rattle.held_keys.specs.declared.Effect.TheVariants as e
use Rattle.held_keys.specs.HeldKeys.{is_held, soft, effect_of, held_after, still_held}
use Rattle.held_keys.specs.Record.{KeyCall, no_keys, record_of, record_after, after_calls}
use Rattle.held_keys.specs.Played.{presses_key, releases_key, pressed_by, released_by, some_releases, Released, AllReleased}
use Rattle.held_keys.proofs.Keys.{none_held}
use Rattle.held_keys.proofs.Known.{record_known}
use Rattle.held_keys.proofs.Made.{held_afterwards}
use Rattle.held_keys.proofs.Reached.{calls_shaped}

-- "a note on with velocity 0 .. counts as a release", in seven bits: 128 too
pub soft_release : (k v off : ℕ) → v % 128 ≡ 0 → effect_of (m.NoteOn k v) ≡ effect_of (m.NoteOff k off)
soft_release k v off h = rw (eq-eqb (v % 128) 0 h)

-- "Document 01's rule that a note on holds its key applies from now on to velocities 1 to 127", in seven bits: to 129 too
pub holds_from_1_to_127 : (k v : ℕ) → 1 ≤ v % 128 → effect_of (m.NoteOn k v) ≡ e.Hold (k % 128)
holds_from_1_to_127 k v some = rw (ne_eqb (v % 128) 0 (λ z. omega (arith, some, z)))

-- "The held-key record must release the key on such a message": whatever the record, the channel and the key, the record afterwards is the one that a
-- note off for the key leaves
pub as_note_off : (keys : List (List ℕ)) (channel k v off : ℕ) → v % 128 ≡ 0
    → record_after keys channel (m.NoteOn k v) ≡ record_after keys channel (m.NoteOff k off)
as_note_off keys channel k v off h =
    ap (λ (x : Effect). pick (ltb channel 16) (record_of (λ c j. pick (eqb c channel) (held_after x j (is_held keys c j)) (is_held keys c j))) keys)
    (soft_release k v off h)

-- at any point of any list of calls it makes no difference to the record whether a key was released by a note off or by a soft strike
pub either_release : (later earlier : List KeyCall) (channel k v off : ℕ) → v % 128 ≡ 0
    → after_calls (later ++ ((channel, m.NoteOn k v) ∷ earlier)) ≡ after_calls (later ++ ((channel, m.NoteOff k off) ∷ earlier))
unfolding after_calls
either_release [] earlier channel k v off h = as_note_off (after_calls earlier) channel k v off h
either_release (call ∷ later) earlier channel k v off h =
    ap (λ (keys : List (List ℕ)). record_after keys call.0 call.1) (either_release later earlier channel k v off h)

-- a soft strike of the same key or of another, by the two tests of note_on_effect
soft_struck : (same before : Bool) → pick same false before ≡ pick (same && false) true (pick (same && true) false before)
soft_struck true before = refl
soft_struck false before = refl

-- a strike of the same key or of another, by the two tests of note_on_effect
hard_struck : (same before : Bool) → pick same true before ≡ pick (same && true) true (pick (same && false) false before)
hard_struck true before = refl
hard_struck false before = refl

-- what a note on for key k leaves of a key
note_on_effect : (k key : ℕ) (s before : Bool)
    → held_after (pick s (e.Release k) (e.Hold k)) key before ≡ pick (eqb key k && not s) true (pick (eqb key k && s) false before)
note_on_effect k key true before = soft_struck (eqb key k) before
note_on_effect k key false before = hard_struck (eqb key k) before

-- a message's effect on a key: held where it presses the key, not held where it releases it, and else as it was
by_message : (x : ChannelMessage) (key : ℕ) (before : Bool) → held_after (effect_of x) key before ≡ pick (presses_key x key) true (pick (releases_key x key) false before)
by_message (m.NoteOn k v) key before = note_on_effect (k % 128) key (eqb (v % 128) 0) before
by_message (m.NoteOff k v) key before = refl
by_message (m.PolyKeyPressure k p) key before = refl
by_message (m.ControlChange n v) key before = refl
by_message (m.ProgramChange p) key before = refl
by_message (m.ChannelPressure p) key before = refl
by_message (m.PitchBend v) key before = refl

-- a call's effect on a key of a channel
by_call : (keys : List (List ℕ)) (call : KeyCall) (c key : ℕ)
    → still_held keys call.0 call.1 c key ≡ pick (pressed_by call c key) true (pick (released_by call c key) false (is_held keys c key))
by_call keys call c key = go (eqb c call.0)
  where
    go : (t : Bool)
        → pick t (held_after (effect_of call.1) key (is_held keys c key)) (is_held keys c key)
        ≡ pick (t && presses_key call.1 key) true (pick (t && releases_key call.1 key) false (is_held keys c key))
    go true = by_message call.1 key (is_held keys c key)
    go false = refl

-- a key that is released is not held at the end, whatever hangs elsewhere
pub released_is_not_held : (calls : List KeyCall) (c key : ℕ) → c < 16 → key < 128 → Released calls c key → is_held (after_calls calls) c key ≡ false
unfolding after_calls
released_is_not_held [] c key hc hk x = none_held 16 c key
released_is_not_held (call ∷ earlier) c key hc hk x =
    held_afterwards (after_calls earlier) call.0 call.1 c key hc hk ∙ by_call (after_calls earlier) call c key
    ∙ split (pressed_by call c key)
    (λ (p : pressed_by call c key ≡ true). absurd (true_is_not_false (sym (x.later_released [] earlier call refl p))))
    (λ (p : pressed_by call c key ≡ false).
    split (released_by call c key)
    (λ (r : released_by call c key ≡ true). rw (p, r))
    (λ (r : released_by call c key ≡ false).
    rw (p, r)
    (released_is_not_held earlier c key hc hk
    (record { later_released = λ later before one same pressed. rw r at (x.later_released (call ∷ later) before one (ap (λ (l : List KeyCall). call ∷ l) same) pressed) }))))

-- a stage keyboard leaves no hanging note: where each pressed key is released, by a note off or by a soft strike, in any mixture and on any channels,
-- the record ends as it began, with no key held. The messages need not be in range, and a call refused with 17 changes nothing
pub no_hanging_note : (calls : List KeyCall) → AllReleased calls → after_calls calls ≡ no_keys
unfolding after_calls
no_hanging_note calls all =
    record_known (after_calls calls) no_keys (calls_shaped calls) (calls_shaped [])
    (λ c key hc hk. released_is_not_held calls c key hc hk (all.each c key hc) ∙ sym (none_held 16 c key))

-- a message that presses a key has seven bits of it
pressed_small : (x : ChannelMessage) (key : ℕ) → presses_key x key ≡ true → key < 128
pressed_small (m.NoteOn k v) key h = omega (arith, eqb-true key (k % 128) (both (eqb key (k % 128)) (not (soft v)) h).0)
pressed_small (m.NoteOff k v) key h = absurd (true_is_not_false (sym h))
pressed_small (m.PolyKeyPressure k p) key h = absurd (true_is_not_false (sym h))
pressed_small (m.ControlChange n v) key h = absurd (true_is_not_false (sym h))
pressed_small (m.ProgramChange p) key h = absurd (true_is_not_false (sym h))
pressed_small (m.ChannelPressure p) key h = absurd (true_is_not_false (sym h))
pressed_small (m.PitchBend v) key h = absurd (true_is_not_false (sym h))

-- where one of two tests would do, neither holds
neither : (s t : Bool) → (s || t) ≡ false → (s ≡ false) × (t ≡ false)
neither true t h = absurd (true_is_not_false h)
neither false t h = (refl, h)

-- a note on holds its key until it is released: a key that was pressed, and that no later call releases, is held
pub held_until_released : (later earlier : List KeyCall) (call : KeyCall) (c key : ℕ) → c < 16 → key < 128 → pressed_by call c key ≡ true → some_releases later c key ≡ false
    → is_held (after_calls (later ++ (call ∷ earlier))) c key ≡ true
unfolding after_calls
held_until_released [] earlier call c key hc hk pressed none =
    held_afterwards (after_calls earlier) call.0 call.1 c key hc hk ∙ by_call (after_calls earlier) call c key ∙ (rw pressed)
held_until_released (one ∷ later) earlier call c key hc hk pressed none =
    let keys : List (List ℕ) = after_calls (later ++ (call ∷ earlier)) in
    let kept = neither (released_by one c key) (some_releases later c key) none in
    let before : is_held keys c key ≡ true = held_until_released later earlier call c key hc hk pressed (kept.1) in
    held_afterwards keys one.0 one.1 c key hc hk ∙ by_call keys one c key
    ∙ split (pressed_by one c key)
    (λ (p : pressed_by one c key ≡ true). rw p)
    (λ (p : pressed_by one c key ≡ false). rw (p, kept.0) before)

-- where no key is held at the end, each pressed key was released
pub only_if_released : (calls : List KeyCall) → after_calls calls ≡ no_keys → AllReleased calls
only_if_released calls ends =
    record {
      each = λ c key hc. record {
        later_released = λ later earlier call same pressed.
            split (some_releases later c key) (λ (t : some_releases later c key ≡ true). t)
            (λ (f : some_releases later c key ≡ false).
            let small : key < 128 = pressed_small call.1 key (both (eqb c call.0) (presses_key call.1 key) pressed).1 in
            let held : is_held (after_calls calls) c key ≡ true =
            ap (λ (l : List KeyCall). is_held (after_calls l) c key) same ∙ held_until_released later earlier call c key hc small pressed f in
            absurd (true_is_not_false (sym held ∙ ap (λ (keys : List (List ℕ)). is_held keys c key) ends ∙ none_held 16 c key)));
      };
    }
