-- For any choice of keys there is a record in which just these are held, because each word is made bit by bit. So the record after a
-- message can be told key by key.
use mathlib.Core.Path.{◌≡◌, ap, sym, ◌∙◌}
use mathlib.Core.Bool.{Bool, true, false}
use mathlib.Core.List.{List, []}
use Prim.Native.Nat.{ℕ, zero, suc, ◌+◌, ◌*◌, ◌/◌, ◌%◌, ◌^◌, ◌<◌}
use native.Mathlib.Omega.{arith}
use lib.Dec.{eqb, ltb}
use lib.ListN.{length, get_or}
use borrow.Author.Tests.{eq-eqb, ne_eqb, lt-ltb, ltb-false}
use Rattle.laws.specs.Choice.{pick}
use Rattle.laws.specs.Tabulate.{tab}
use Rattle.laws.proofs.Tests.{split, by_test}
use Rattle.laws.proofs.Tabulate.{length_tab, get_or_tab}
use Rattle.wire.specs.declared.channel_message.ChannelMessage.{ChannelMessage}
use Rattle.held_keys.specs.HeldKeys.{bit, is_held, still_held}
use Rattle.held_keys.specs.Record.{Shaped, word_of, record_of, record_after}
use Rattle.held_keys.proofs.Known.{bit_half, bit_last, record_known}

-- the word of n bits is below 2 ^ n, and has the bits that were asked for
pub word_small : (held : ℕ → Bool) (n : ℕ) → word_of held n < 2 ^ n
unfolding word_of
word_small held zero = omega arith
word_small held (suc n) =
    split (held 0)
    (λ (t : held 0 ≡ true). rw t (omega (arith, word_small (λ j. held (suc j)) n)))
    (λ (f : held 0 ≡ false). rw f (omega (arith, word_small (λ j. held (suc j)) n)))

last_bit : (t : Bool) (half : ℕ) → eqb ((pick t 1 0 + 2 * half) % 2) 1 ≡ t
last_bit true half = eq-eqb ((1 + 2 * half) % 2) 1 (omega arith)
last_bit false half = ne_eqb ((0 + 2 * half) % 2) 1 (λ e. omega arith)

half_is : (t : Bool) (half : ℕ) → (pick t 1 0 + 2 * half) / 2 ≡ half
half_is true half = omega arith
half_is false half = omega arith

pub word_bit : (held : ℕ → Bool) (n j : ℕ) → j < n → bit (word_of held n) j ≡ held j
unfolding word_of
word_bit held zero j h = absurd (omega arith)
word_bit held (suc n) zero h = bit_last (word_of held (suc n)) ∙ last_bit (held 0) (word_of (λ j. held (suc j)) n)
word_bit held (suc n) (suc j) h =
    let half : ℕ = word_of (λ i. held (suc i)) n in
    sym (bit_half (word_of held (suc n)) j) ∙ ap (λ (w : ℕ). bit w j) (half_is (held 0) half) ∙ word_bit (λ i. held (suc i)) n j (omega arith)

module _ (held : ℕ → ℕ → Bool) where
  channel_is : (c : ℕ) → c < 16 → get_or (record_of held) c [] ≡ tab (λ w. word_of (λ j. held c (64 * w + j)) 64) 2
  unfolding record_of
  channel_is c h = get_or_tab (λ d. tab (λ w. word_of (λ j. held d (64 * w + j)) 64) 2) 16 c [] h

  word_is : (c w : ℕ) → c < 16 → w < 2 → get_or (get_or (record_of held) c []) w 0 ≡ word_of (λ j. held c (64 * w + j)) 64
  word_is c w hc hw = ap (λ (row : List ℕ). get_or row w 0) (channel_is c hc) ∙ get_or_tab (λ v. word_of (λ j. held c (64 * v + j)) 64) 2 w 0 hw

  pub made_shaped : Shaped (record_of held)
  unfolding record_of
  made_shaped = record {
    channels = length_tab (λ d. tab (λ w. word_of (λ j. held d (64 * w + j)) 64) 2) 16;
    words = λ c h. ap (λ (row : List ℕ). length row) (channel_is c h) ∙ length_tab (λ w. word_of (λ j. held c (64 * w + j)) 64) 2;
    bits = λ c w hc hw. rw (word_is c w hc hw) (word_small (λ j. held c (64 * w + j)) 64);
  }

  pub made_held : (c k : ℕ) → c < 16 → k < 128 → is_held (record_of held) c k ≡ held c k
  unfolding is_held
  made_held c k hc hk =
      let place : 64 * (k / 64) + k % 64 ≡ k = omega arith in
      ap (λ (w : ℕ). bit w (k % 64)) (word_is c (k / 64) hc (omega arith)) ∙ word_bit (λ j. held c (64 * (k / 64) + j)) 64 (k % 64) (omega arith)
      ∙ ap (λ (n : ℕ). held c n) place

module _ (keys : List (List ℕ)) (channel : ℕ) (message : ChannelMessage) where
  -- key by key: a key is held after a message as its effect has it on the message's channel, and as it was on every other
  pub held_afterwards : (c k : ℕ) → c < 16 → k < 128 → is_held (record_after keys channel message) c k ≡ still_held keys channel message c k
  held_afterwards c k hc hk =
      split (ltb channel 16) (λ (t : ltb channel 16 ≡ true). rw t (made_held (still_held keys channel message) c k hc hk))
      (λ (f : ltb channel 16 ≡ false). rw (f, ne_eqb c channel (λ e. omega (arith, ltb-false channel 16 f))))

  -- a record that holds each key as the message leaves it is the record after the message
  pub afterwards_is : (later : List (List ℕ)) → channel < 16 → Shaped later
      → ((c k : ℕ) → is_held later c k ≡ still_held keys channel message c k) → later ≡ record_after keys channel message
  afterwards_is later h p same =
      rw (lt-ltb channel 16 h)
      (record_known later (record_of (still_held keys channel message)) p (made_shaped (still_held keys channel message))
      (λ c k hc hk. same c k ∙ sym (made_held (still_held keys channel message) c k hc hk)))

  -- no message changes the record's shape
  pub after_shaped : Shaped keys → Shaped (record_after keys channel message)
  after_shaped p =
      by_test (λ (r : List (List ℕ)). Shaped r) (ltb channel 16) (record_of (still_held keys channel message)) keys
      (λ t. made_shaped (still_held keys channel message)) (λ f. p)
