-- Storing one word of the record changes just the keys of that word, and in it just the bit that the word changed.
use mathlib.Core.Path.{◌≡◌, refl, ap, ◌∙◌}
use mathlib.Core.Bool.{Bool, true, false}
use mathlib.Core.List.{List, [], ◌∷◌}
use Prim.Native.Nat.{ℕ, zero, suc, ◌/◌, ◌%◌, ◌^◌, ◌<◌}
use native.Mathlib.Omega.{arith}
use Rattle.std.proofs.Common.{bit_and, bit_or, ◌*◌, ◌-◌}
use Rattle.std.proofs.lemmas.Nat.{or_lt, and_le_l}
use lib.Dec.{eqb}
use lib.ListN.{length, get_or, set, replicate, length-set}
use lib.Seq.{get_or-set_same, get_or-set_other}
use borrow.Author.Tests.{eq-eqb, ne_eqb, eqb-true, eqb-false}
use Rattle.laws.specs.Choice.{pick}
use Rattle.laws.proofs.Tests.{split, by_test}
use Rattle.wire.specs.declared.channel_message.ChannelMessage.{ChannelMessage}
use Rattle.wire.specs.declared.channel_message.ChannelMessage.TheVariants as m
use Rattle.held_keys.specs.declared.Effect.{Effect}
use Rattle.held_keys.specs.declared.Effect.TheVariants as e
use Rattle.held_keys.specs.HeldKeys.{bit, is_held, effect_of, held_after}
use Rattle.held_keys.specs.Record.{Shaped, record_after}
use Rattle.held_keys.proofs.Bits.{bit_zero, bit_with, bit_without}
use Rattle.held_keys.proofs.Made.{afterwards_is}

-- the record with one word of one channel stored
abbrev pub stored_word : List (List ℕ) → ℕ → ℕ → ℕ → List (List ℕ)
stored_word keys ch at word = set keys ch (set (get_or keys ch []) at word)

module _ (keys : List (List ℕ)) (ch key word : ℕ) (v : Bool) (inside : ch < length keys) (two : length (get_or keys ch []) ≡ 2) (small : key < 128)
    (changed : (j : ℕ) → j < 64 → bit word j ≡ pick (eqb j (key % 64)) v (bit (get_or (get_or keys ch []) (key / 64) 0) j)) where
  -- the channel stored to, and every other
  own : (c : ℕ) → eqb c ch ≡ true → get_or (stored_word keys ch (key / 64) word) c [] ≡ set (get_or keys ch []) (key / 64) word
  own c t = rw (eqb-true c ch t) (get_or-set_same keys ch (set (get_or keys ch []) (key / 64) word) [] inside)

  other : (c : ℕ) → eqb c ch ≡ false → get_or (stored_word keys ch (key / 64) word) c [] ≡ get_or keys c []
  other c t = get_or-set_other keys ch c (set (get_or keys ch []) (key / 64) word) [] (eqb-false c ch t)

  same_word : (k : ℕ) (t : Bool) → eqb k key ≡ t → k / 64 ≡ key / 64
      → bit word (k % 64) ≡ pick t v (bit (get_or (get_or keys ch []) (k / 64) 0) (k % 64))
  same_word k true e w = changed (k % 64) (omega arith) ∙ rw (eqb-true k key e, eq-eqb (key % 64) (key % 64) refl)
  same_word k false e w =
      changed (k % 64) (omega arith) ∙ rw (ne_eqb (k % 64) (key % 64) (λ q. eqb-false k key e (omega arith)), w)

  own_channel : (k : ℕ) (s : Bool) → eqb (k / 64) (key / 64) ≡ s
      → bit (get_or (set (get_or keys ch []) (key / 64) word) (k / 64) 0) (k % 64)
      ≡ pick (eqb k key) v (bit (get_or (get_or keys ch []) (k / 64) 0) (k % 64))
  own_channel k true f =
      let w : k / 64 ≡ key / 64 = eqb-true (k / 64) (key / 64) f in
      rw (ap (λ (x : ℕ). get_or (set (get_or keys ch []) (key / 64) word) x 0) w, get_or-set_same (get_or keys ch []) (key / 64) word 0 (omega (arith, two)))
      (same_word k (eqb k key) refl w)
  own_channel k false f =
      let w : k / 64 ≡ key / 64 → ⊥ = eqb-false (k / 64) (key / 64) f in
      rw (get_or-set_other (get_or keys ch []) (key / 64) (k / 64) word 0 w, ne_eqb k key (λ q. w (ap (λ (x : ℕ). x / 64) q)))

  pub held_after_word : (c k : ℕ) → is_held (stored_word keys ch (key / 64) word) c k ≡ pick (eqb c ch) (pick (eqb k key) v (is_held keys c k)) (is_held keys c k)
  unfolding is_held
  held_after_word c k = go (eqb c ch) refl
    where
      go : (t : Bool) → eqb c ch ≡ t
          → bit (get_or (get_or (stored_word keys ch (key / 64) word) c []) (k / 64) 0) (k % 64)
          ≡ pick t (pick (eqb k key) v (bit (get_or (get_or keys c []) (k / 64) 0) (k % 64))) (bit (get_or (get_or keys c []) (k / 64) 0) (k % 64))
      go true e = rw (own c e, eqb-true c ch e) (own_channel k (eqb (k / 64) (key / 64)) refl)
      go false e = rw (other c e)

  -- storing a word keeps the shape of the record
  pub stored_shaped : Shaped keys → word < 2 ^ 64 → Shaped (stored_word keys ch (key / 64) word)
  stored_shaped p bits = record {
    channels = length-set keys ch (set (get_or keys ch []) (key / 64) word) ∙ p.channels;
    words = λ c h.
        split (eqb c ch)
        (λ (t : eqb c ch ≡ true). ap (λ (row : List ℕ). length row) (own c t) ∙ length-set (get_or keys ch []) (key / 64) word ∙ two)
        (λ (t : eqb c ch ≡ false). ap (λ (row : List ℕ). length row) (other c t) ∙ p.words c h);
    bits = λ c w hc hw.
        split (eqb c ch)
        (λ (t : eqb c ch ≡ true). rw (own c t) (
        split (eqb w (key / 64))
        (λ (u : eqb w (key / 64) ≡ true). rw (eqb-true w (key / 64) u, get_or-set_same (get_or keys ch []) (key / 64) word 0 (omega (arith, two))) (omega (arith, bits)))
        (λ (u : eqb w (key / 64) ≡ false). rw (get_or-set_other (get_or keys ch []) (key / 64) w word 0 (eqb-false w (key / 64) u)) (p.bits ch w (omega (arith, p.channels)) hw))))
        (λ (t : eqb c ch ≡ false). rw (other c t) (p.bits c w hc hw));
  }

-- the key of an effect, 0 where there is none
abbrev pub key_of : Effect → ℕ
key_of (e.Hold key) = key
key_of (e.Release key) = key
key_of e.Nothing = 0

-- a key that is held or released is below 128
pub key_small : (m : ChannelMessage) → key_of (effect_of m) < 128
key_small (m.NoteOn a b) = by_test (λ (x : Effect). key_of x < 128) (eqb (b % 128) 0) _ _ (λ t. omega arith) (λ f. omega arith)
key_small (m.NoteOff a b) = omega arith
key_small (m.PolyKeyPressure a b) = omega arith
key_small (m.ControlChange a b) = omega arith
key_small (m.ProgramChange a) = omega arith
key_small (m.ChannelPressure a) = omega arith
key_small (m.PitchBend a) = omega arith

module _ (keys : List (List ℕ)) (p : Shaped keys) (ch key : ℕ) (m : ChannelMessage) (inside : ch < 16) where
  -- the key's word, and the record with another word in its place
  abbrev old_word : ℕ
  old_word = get_or (get_or keys ch []) (key / 64) 0

  changed_word : (word : ℕ) (v : Bool) → key < 128 → word < 2 ^ 64 → ((j : ℕ) → j < 64 → bit word j ≡ pick (eqb j (key % 64)) v (bit old_word j))
      → ((k : ℕ) (before : Bool) → held_after (effect_of m) k before ≡ pick (eqb k key) v before) → stored_word keys ch (key / 64) word ≡ record_after keys ch m
  changed_word word v small bits changed does =
      let room : ch < length keys = omega (arith, p.channels) in
      afterwards_is keys ch m (stored_word keys ch (key / 64) word) inside (stored_shaped keys ch key word v room (p.words ch inside) small changed p bits)
      (λ c k. held_after_word keys ch key word v room (p.words ch inside) small changed c k ∙ (rw (does k (is_held keys c k))))

  pub hold_after : effect_of m ≡ e.Hold key → stored_word keys ch (key / 64) (bit_or old_word (1 * 2 ^ (key % 64) % 2 ^ 64)) ≡ record_after keys ch m
  hold_after is =
      let small : key < 128 = rw (ap key_of is) at (key_small m) in
      changed_word (bit_or old_word (1 * 2 ^ (key % 64) % 2 ^ 64)) true small
      (or_lt 64 old_word (1 * 2 ^ (key % 64) % 2 ^ 64) (p.bits ch (key / 64) inside (omega arith)) (omega arith))
      (λ j b. bit_with old_word (key % 64) j (omega arith))
      (λ k before. rw is)

  pub release_after : effect_of m ≡ e.Release key
      → stored_word keys ch (key / 64) (bit_and old_word (2 ^ 64 - 1 - 1 * 2 ^ (key % 64) % 2 ^ 64)) ≡ record_after keys ch m
  release_after is =
      let small : key < 128 = rw (ap key_of is) at (key_small m) in
      changed_word (bit_and old_word (2 ^ 64 - 1 - 1 * 2 ^ (key % 64) % 2 ^ 64)) false small
      (omega (arith, p.bits ch (key / 64) inside (omega arith), and_le_l old_word (2 ^ 64 - 1 - 1 * 2 ^ (key % 64) % 2 ^ 64)))
      (λ j b. bit_without old_word (key % 64) j (omega arith) b)
      (λ k before. rw is)

-- where a message has no effect, the record stays
pub nothing_after : (keys : List (List ℕ)) → Shaped keys → (ch : ℕ) (m : ChannelMessage) → ch < 16 → effect_of m ≡ e.Nothing → keys ≡ record_after keys ch m
nothing_after keys p ch m inside is =
    afterwards_is keys ch m keys inside p (λ c k. by_test (λ (x : Bool). is_held keys c k ≡ x) (eqb c ch) _ _ (λ t. rw is) (λ t. refl))

-- no key is held where every word is 0
none_in_words : (n at k : ℕ) → bit (get_or (replicate n 0) at 0) k ≡ false
none_in_words zero at k = bit_zero k
none_in_words (suc n) zero k = bit_zero k
none_in_words (suc n) (suc at) k = none_in_words n at k

pub none_held : (n c k : ℕ) → is_held (replicate n (0 ∷ 0 ∷ [])) c k ≡ false
unfolding is_held
none_held zero c k = none_in_words 0 (k / 64) (k % 64)
none_held (suc n) zero k = none_in_words 2 (k / 64) (k % 64)
none_held (suc n) (suc c) k = none_held n c k
