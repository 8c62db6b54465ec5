-- Every record can come from calls from no_keys, so no record is unsound and 20 never arises: a note on for each held key, one after
-- another, holds just these keys, and a record is known by its held keys. Nothing is assumed but the record's shape, which every array of
-- the record's type has.
use mathlib.Core.Path.{◌≡◌, refl, sym, ◌∙◌, ap, ap₂}
use mathlib.Core.Bool.{Bool, true, false, ◌&&◌}
use mathlib.Core.List.{List, [], ◌∷◌}
use Prim.Native.Nat.{ℕ, zero, suc, ◌+◌, ◌*◌, ◌/◌, ◌%◌, ◌<◌}
use native.Mathlib.Omega.{arith}
use lib.Dec.{ltb, eqb}
use lib.ListN.{length, get_or-replicate}
use borrow.Author.Tests.{lt-ltb, le-ltb, ltb-true, ltb-false, eq-eqb, ne_eqb, eqb-true, eqb-false}
use Rattle.laws.specs.Choice.{pick}
use Rattle.laws.proofs.Tests.{split}
use Rattle.wire.specs.declared.channel_message.ChannelMessage.TheVariants as m
use Rattle.held_keys.specs.HeldKeys.{is_held, still_held}
use Rattle.held_keys.specs.Record.{Shaped, KeyCall, no_keys, after_calls}
use Rattle.held_keys.proofs.Keys.{none_held}
use Rattle.held_keys.proofs.Known.{record_known}
use Rattle.held_keys.proofs.Made.{held_afterwards, after_shaped}

-- a note on for each held key among the first n places, counted channel by channel and key by key, latest first; 64 is one of the velocities that hold
abbrev pub presses : (ℕ → ℕ → Bool) → ℕ → List KeyCall
presses held zero = []
presses held (suc j) = pick (held (j / 128) (j % 128)) ((j / 128, m.NoteOn (j % 128) 64) ∷ presses held j) (presses held j)

fresh_shaped : Shaped no_keys
fresh_shaped = record {
  channels = refl;
  words = λ c h. ap (λ (row : List ℕ). length row) (get_or-replicate 16 c (0 ∷ 0 ∷ []) [] h);
  bits = λ c w hc hw. rw (get_or-replicate {A = List ℕ} 16 c (0 ∷ 0 ∷ []) [] hc, get_or-replicate {A = ℕ} 2 w 0 0 hw) (omega arith);
}

pub calls_shaped : (calls : List KeyCall) → Shaped (after_calls calls)
unfolding after_calls
calls_shaped [] = fresh_shaped
calls_shaped (call ∷ earlier) = after_shaped (after_calls earlier) call.0 call.1 (calls_shaped earlier)

-- a place other than j is below j just where it is below the number behind j
below_next : (x j : ℕ) → (x ≡ j → ⊥) → ltb x j ≡ ltb x (suc j)
below_next x j other =
    split (ltb x j)
    (λ (t : ltb x j ≡ true). t ∙ sym (lt-ltb x (suc j) (omega (arith, ltb-true x j t))))
    (λ (f : ltb x j ≡ false). f ∙ sym (le-ltb x (suc j) (omega (arith, ltb-false x j f))))

module _ (held : ℕ → ℕ → Bool) (j : ℕ) (c k : ℕ) (channel : c < 16) (key : k < 128) where
  -- a note on at place j holds that place
  pressed_here : (before : List (List ℕ)) → c * 128 + k ≡ j → still_held before (j / 128) (m.NoteOn (j % 128) 64) c k ≡ true
  pressed_here before e = rw (eq-eqb c (j / 128) (omega arith), eq-eqb k (j % 128 % 128) (omega arith))

  -- a note on at place j leaves every other place as it was
  pressed_elsewhere : (before : List (List ℕ)) (v : ℕ) → (c * 128 + k ≡ j → ⊥) → still_held before (j / 128) (m.NoteOn (j % 128) v) c k ≡ is_held before c k
  pressed_elsewhere before v other =
      split (eqb c (j / 128))
      (λ (t : eqb c (j / 128) ≡ true).
      let same : c ≡ j / 128 = eqb-true c (j / 128) t in
      let key_other : eqb k (j % 128 % 128) ≡ false = ne_eqb k (j % 128 % 128) (λ e. other (omega arith)) in
      split (eqb (v % 128) 0) (λ (s : eqb (v % 128) 0 ≡ true). rw (t, s, key_other)) (λ (s : eqb (v % 128) 0 ≡ false). rw (t, s, key_other)))
      (λ (f : eqb c (j / 128) ≡ false). rw f)

  -- the place itself is held or not as the record says
  here : c * 128 + k ≡ j → held c k ≡ held (j / 128) (j % 128)
  here e =
      let x : c ≡ j / 128 = omega arith in
      let y : k ≡ j % 128 = omega arith in
      ap₂ held x y

  place_more : (earlier : List KeyCall) → is_held (after_calls earlier) c k ≡ (ltb (c * 128 + k) j && held c k) → (t : Bool) → held (j / 128) (j % 128) ≡ t
      → is_held (after_calls (pick t ((j / 128, m.NoteOn (j % 128) 64) ∷ earlier) earlier)) c k ≡ (ltb (c * 128 + k) (suc j) && held c k)
  unfolding after_calls
  place_more earlier before true e =
      held_afterwards (after_calls earlier) (j / 128) (m.NoteOn (j % 128) 64) c k channel key
      ∙ split (eqb (c * 128 + k) j)
      (λ (t : eqb (c * 128 + k) j ≡ true).
      let same : c * 128 + k ≡ j = eqb-true (c * 128 + k) j t in
      pressed_here (after_calls earlier) same ∙ sym (ap₂ (λ (x y : Bool). x && y) (lt-ltb (c * 128 + k) (suc j) (omega arith)) (here same ∙ e)))
      (λ (f : eqb (c * 128 + k) j ≡ false).
      let other : c * 128 + k ≡ j → ⊥ = eqb-false (c * 128 + k) j f in
      pressed_elsewhere (after_calls earlier) 64 other ∙ before ∙ ap (λ (x : Bool). x && held c k) (below_next (c * 128 + k) j other))
  place_more earlier before false e =
      before
      ∙ split (eqb (c * 128 + k) j)
      (λ (t : eqb (c * 128 + k) j ≡ true).
      let same : c * 128 + k ≡ j = eqb-true (c * 128 + k) j t in
      ap (λ (x : Bool). x && held c k) (le-ltb (c * 128 + k) j (omega arith))
      ∙ sym (ap₂ (λ (x y : Bool). x && y) (lt-ltb (c * 128 + k) (suc j) (omega arith)) (here same ∙ e)))
      (λ (f : eqb (c * 128 + k) j ≡ false). ap (λ (x : Bool). x && held c k) (below_next (c * 128 + k) j (eqb-false (c * 128 + k) j f)))

-- the notes on for the first n places hold just those of them that are held
presses_hold : (held : ℕ → ℕ → Bool) (n c k : ℕ) → c < 16 → k < 128 → is_held (after_calls (presses held n)) c k ≡ (ltb (c * 128 + k) n && held c k)
unfolding after_calls
presses_hold held zero c k hc hk = none_held 16 c k ∙ sym (ap (λ (t : Bool). t && held c k) (le-ltb (c * 128 + k) 0 (omega arith)))
presses_hold held (suc j) c k hc hk = place_more held j c k hc hk (presses held j) (presses_hold held j c k hc hk) (held (j / 128) (j % 128)) refl

-- the notes on for all places hold just the record's keys, and so make the very record
pub every_record_is_reached : (keys : List (List ℕ)) → Shaped keys → after_calls (presses (is_held keys) 2048) ≡ keys
every_record_is_reached keys p =
    record_known (after_calls (presses (is_held keys) 2048)) keys (calls_shaped (presses (is_held keys) 2048)) p
    (λ c k hc hk.
    presses_hold (is_held keys) 2048 c k hc hk ∙ ap (λ (t : Bool). t && is_held keys c k) (lt-ltb (c * 128 + k) 2048 (omega arith)))
