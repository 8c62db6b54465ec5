-- The first held key is the lowest held key of the lowest channel that has one, and the answer is none exactly if no key is held, because
-- the search passes every key below the one that it answers.
use Rattle.std.specs.Prelude.{None, Some}
use mathlib.Core.Path.{◌≡◌, refl, ap, ap₂, sym, ◌∙◌}
use mathlib.Core.Bool.{true, false}
use mathlib.Core.Logic.{◌⊎◌, inl, inr}
use mathlib.Core.List.{List, [], ◌∷◌, ◌++◌, append-nil}
use Prim.Native.Nat.{ℕ, zero, suc, ◌+◌, ◌*◌, ◌-◌, ◌/◌, ◌%◌, ◌≤◌, ◌<◌}
use native.Mathlib.Omega.{arith}
use lib.Dec.{ltb}
use lib.Seq.{append_snoc}
use borrow.Author.Tests.{ltb-true, ltb-false}
use Rattle.laws.specs.Tabulate.{tab}
use Rattle.laws.proofs.Tabulate.{tab_more, tab_add}
use Rattle.laws.proofs.Tests.{split}
use Rattle.held_keys.specs.HeldKeys.{is_held, every_key, first_of, first_held}

module _ (keys : List (List ℕ)) where
  -- none of the first n keys is held, counted channel by channel
  abbrev pub NoneBelow : ℕ → Type 0
  NoneBelow n = (i : ℕ) → i < n → is_held keys (i / 128) (i % 128) ≡ false

  none_below_next : (n : ℕ) → is_held keys (n / 128) (n % 128) ≡ false → NoneBelow n → NoneBelow (suc n)
  none_below_next n e none i h =
      split (ltb i n) (λ (t : ltb i n ≡ true). none i (ltb-true i n t))
      (λ (t : ltb i n ≡ false).
      let same : i ≡ n = omega (arith, ltb-false i n t) in
      ap (λ (j : ℕ). is_held keys (j / 128) (j % 128)) same ∙ e)

  -- key k of channel c is at place 128 * c + k
  there : (c k : ℕ) → k < 128 → is_held keys ((128 * c + k) / 128) ((128 * c + k) % 128) ≡ is_held keys c k
  there c k small =
      let channel : (128 * c + k) / 128 ≡ c = omega arith in
      let key : (128 * c + k) % 128 ≡ k = omega arith in
      ap₂ (λ (x y : ℕ). is_held keys x y) channel key

  pub passed_key : (c k : ℕ) → k < 128 → is_held keys c k ≡ false → NoneBelow (128 * c + k) → NoneBelow (128 * c + (k + 1))
  passed_key c k small e none i h = none_below_next (128 * c + k) (there c k small ∙ e) none i (omega arith)

  -- the search passes keys that are not held
  past_unheld : (n : ℕ) (later : List (ℕ × ℕ)) → NoneBelow n → first_of keys (tab (λ i. (i / 128, i % 128)) n ++ later) ≡ first_of keys later
  unfolding first_of
  past_unheld zero later none = refl
  past_unheld (suc n) later none =
      ap (λ (l : List (ℕ × ℕ)). first_of keys l) (append_snoc (tab (λ i. (i / 128, i % 128)) n) (n / 128, n % 128) later)
      ∙ past_unheld n ((n / 128, n % 128) ∷ later) (λ i h. none i (omega arith))
      ∙ (rw (none n (omega arith)))

  -- the search ends at the first held key
  found : (n : ℕ) → n < 2048 → NoneBelow n → is_held keys (n / 128) (n % 128) ≡ true → first_held keys ≡ Some (n / 128, n % 128)
  unfolding every_key first_of
  found n h none e =
      let place : ℕ → ℕ × ℕ = λ i. (i / 128, i % 128) in
      let rest : List (ℕ × ℕ) = tab (λ i. place (n + 1 + i)) (2047 - n) in
      let all : 2048 ≡ n + 1 + (2047 - n) = omega arith in
      ap (λ (m : ℕ). first_of keys (tab place m)) all
      ∙ ap (λ (l : List (ℕ × ℕ)). first_of keys l)
      (tab_add place (n + 1) (2047 - n) ∙ ap (λ (l : List (ℕ × ℕ)). l ++ rest) (tab_more place n) ∙ append_snoc (tab place n) (place n) rest)
      ∙ past_unheld n (place n ∷ rest) none
      ∙ (rw e)

  pub found_key : (c k : ℕ) → c < 16 → k < 128 → NoneBelow (128 * c + k) → is_held keys c k ≡ true → first_held keys ≡ Some (c, k)
  found_key c k hc hk none e =
      let channel : (128 * c + k) / 128 ≡ c = omega arith in
      let key : (128 * c + k) % 128 ≡ k = omega arith in
      found (128 * c + k) (omega arith) none (there c k hk ∙ e) ∙ ap₂ (λ (x y : ℕ). Some (x, y)) channel key

  -- the search says none where no key is held
  pub found_none : NoneBelow 2048 → first_held keys ≡ None
  unfolding every_key first_of
  found_none none =
      let place : ℕ → ℕ × ℕ = λ i. (i / 128, i % 128) in
      ap (λ (l : List (ℕ × ℕ)). first_of keys l) (sym (append-nil (tab place 2048))) ∙ past_unheld 2048 [] none

  -- a held key with none below it on its channel and none on any lower channel
  pub record Lowest : Type 0 where
    pub channel : ℕ
    pub key : ℕ
    pub small : (channel < 16) × (key < 128)
    pub is : is_held keys channel key ≡ true
    pub below : (k : ℕ) → k < key → is_held keys channel k ≡ false
    pub lower : (c k : ℕ) → c < channel → k < 128 → is_held keys c k ≡ false
    pub says : first_held keys ≡ Some (channel, key)

  -- no key is held
  abbrev pub NoneHeld : Type 0
  NoneHeld = (c k : ℕ) → c < 16 → k < 128 → is_held keys c k ≡ false

  -- a key that stands ahead of place n is not held
  not_held_ahead : (n c k : ℕ) → NoneBelow n → 128 * c + k < n → k < 128 → is_held keys c k ≡ false
  not_held_ahead n c k none h small = sym (there c k small) ∙ none (128 * c + k) h

  look : (n : ℕ) → n ≤ 2048 → Lowest ⊎ NoneBelow n
  look zero h = inr (λ i b. absurd (omega arith))
  look (suc n) h = go (look n (omega arith))
    where
      c : ℕ
      c = n / 128

      k : ℕ
      k = n % 128

      go : Lowest ⊎ NoneBelow n → Lowest ⊎ NoneBelow (suc n)
      go (inl x) = inl x
      go (inr none) =
          split (is_held keys c k)
          (λ (t : is_held keys c k ≡ true).
          inl (record {
            channel = c;
            key = k;
            small = (omega arith, omega arith);
            is = t;
            below = λ j b. not_held_ahead n c j none (omega arith) (omega arith);
            lower = λ d j b s. not_held_ahead n d j none (omega arith) s;
            says = found n (omega arith) none t;
          }))
          (λ (t : is_held keys c k ≡ false). inr (none_below_next n t none))

  -- the search answers the lowest held key, or none, and then no key is held
  pub first_is_lowest : Lowest ⊎ (NoneHeld × (first_held keys ≡ None))
  first_is_lowest = go (look 2048 (omega arith))
    where
      go : Lowest ⊎ NoneBelow 2048 → Lowest ⊎ (NoneHeld × (first_held keys ≡ None))
      go (inl x) = inl x
      go (inr none) = inr ((λ c k hc hk. not_held_ahead 2048 c k none (omega arith) hk), found_none none)
