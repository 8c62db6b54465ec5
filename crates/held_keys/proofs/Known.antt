-- A record is known by its held keys, because the bits of a word below 2 ^ n are its last bit and those of its half.
use mathlib.Core.Path.{◌≡◌, ap, sym, ◌∙◌}
use mathlib.Core.Bool.{true, false}
use mathlib.Core.List.{List, []}
use Prim.Native.Nat.{ℕ, zero, suc, ◌+◌, ◌*◌, ◌/◌, ◌%◌, ◌^◌, ◌<◌}
use native.Mathlib.Omega.{arith}
use lib.Dec.{eqb}
use lib.ListN.{get_or}
use lib.Pow.{shr-shr}
use lib.Seq.{ext_get_or}
use borrow.Author.Tests.{eqb-true, eqb-false}
use Rattle.laws.proofs.Tests.{split}
use Rattle.held_keys.specs.HeldKeys.{bit, is_held}
use Rattle.held_keys.specs.Record.{Shaped}

-- the bits of a word's half are those behind its last
pub bit_half : (a j : ℕ) → bit (a / 2) j ≡ bit a (suc j)
bit_half a j =
    let place : 1 + j ≡ suc j = omega arith in
    ap (λ (x : ℕ). eqb (x % 2) 1) (shr-shr a 1 j ∙ ap (λ (n : ℕ). a / 2 ^ n) place)

pub bit_last : (a : ℕ) → bit a 0 ≡ eqb (a % 2) 1
bit_last a =
    let whole : a / 1 ≡ a = omega arith in
    ap (λ (x : ℕ). eqb (x % 2) 1) whole

-- a number below 2 is known by the test for 1
same_last : (x y : ℕ) → x < 2 → y < 2 → eqb x 1 ≡ eqb y 1 → x ≡ y
same_last x y hx hy e =
    split (eqb x 1)
    (λ (t : eqb x 1 ≡ true). eqb-true x 1 t ∙ sym (eqb-true y 1 (sym e ∙ t)))
    (λ (f : eqb x 1 ≡ false). omega (arith, eqb-false x 1 f, eqb-false y 1 (sym e ∙ f)))

-- a word is known by its bits
pub word_known : (n a b : ℕ) → a < 2 ^ n → b < 2 ^ n → ((j : ℕ) → j < n → bit a j ≡ bit b j) → a ≡ b
word_known zero a b ha hb same = omega arith
word_known (suc n) a b ha hb same =
    let halves : a / 2 ≡ b / 2 =
    word_known n (a / 2) (b / 2) (omega arith) (omega arith) (λ j h. bit_half a j ∙ same (suc j) (omega arith) ∙ sym (bit_half b j)) in
    let last : a % 2 ≡ b % 2 =
    same_last (a % 2) (b % 2) (omega arith) (omega arith) (sym (bit_last a) ∙ same 0 (omega arith) ∙ bit_last b) in
    omega (arith, halves, last)

-- bit j of word w is key 64 * w + j
pub key_bit : (keys : List (List ℕ)) (c w j : ℕ) → j < 64 → is_held keys c (64 * w + j) ≡ bit (get_or (get_or keys c []) w 0) j
unfolding is_held
key_bit keys c w j h =
    let word : (64 * w + j) / 64 ≡ w = omega arith in
    let place : (64 * w + j) % 64 ≡ j = omega arith in
    rw (word, place)

-- two records in which the same keys are held are one
pub record_known : (keys others : List (List ℕ)) → Shaped keys → Shaped others → ((c k : ℕ) → c < 16 → k < 128 → is_held keys c k ≡ is_held others c k)
    → keys ≡ others
record_known keys others p q same =
    ext_get_or [] keys others (p.channels ∙ sym q.channels) (λ c h. channel c (omega (arith, h, p.channels)))
  where
    word : (c w : ℕ) → c < 16 → w < 2 → get_or (get_or keys c []) w 0 ≡ get_or (get_or others c []) w 0
    word c w hc hw =
        word_known 64 (get_or (get_or keys c []) w 0) (get_or (get_or others c []) w 0) (p.bits c w hc hw) (q.bits c w hc hw)
        (λ j h. sym (key_bit keys c w j h) ∙ same c (64 * w + j) hc (omega arith) ∙ key_bit others c w j h)

    channel : (c : ℕ) → c < 16 → get_or keys c [] ≡ get_or others c []
    channel c hc =
        ext_get_or 0 (get_or keys c []) (get_or others c []) (p.words c hc ∙ sym (q.words c hc))
        (λ w h. word c w hc (omega (arith, h, p.words c hc)))
