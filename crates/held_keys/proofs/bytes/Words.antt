-- A word that is read from eight bytes, or stored as eight, has the keys that these bytes say, because bit j of a word is bit j % 8 of its
-- byte j / 8.
use mathlib.Core.Path.{◌≡◌, refl, ap, ap₂, sym, ◌∙◌}
use mathlib.Core.Bool.{Bool}
use mathlib.Core.List.{List, []}
use Prim.Native.Nat.{ℕ, zero, suc, ◌+◌, ◌*◌, ◌-◌, ◌/◌, ◌%◌, ◌^◌, ◌<◌}
use native.Mathlib.Omega.{arith}
use lib.Dec.{eqb}
use lib.ListN.{get_or}
use lib.Pow.{shr-shr, field, mod-mod-pow}
use Rattle.laws.specs.Choice.{pick}
use Rattle.octets.specs.quick.Words.{word_at, octet}
use Rattle.octets.proofs.words.Words.{octet_read}
use Rattle.held_keys.specs.HeldKeys.{bit, is_held}
use Rattle.held_keys.specs.Record.{word_of}
use Rattle.held_keys.specs.HeldBytes.{held_in, byte_of}
use Rattle.held_keys.proofs.Known.{word_known}
use Rattle.held_keys.proofs.Made.{word_small, word_bit}

-- the bits from place i on
bit_shift : (n i j : ℕ) → bit (n / 2 ^ i) j ≡ bit n (i + j)
bit_shift n i j = ap (λ (x : ℕ). eqb (x % 2) 1) (shr-shr n i j)

-- the low eight bits
bit_low : (n j : ℕ) → j < 8 → bit (n % 256) j ≡ bit n j
bit_low n j h =
    let eight : 8 ≡ 7 - j + (1 + j) = omega arith in
    let low : n % 2 ^ 8 % 2 ^ (1 + j) ≡ n % 2 ^ (1 + j) = ap (λ (e : ℕ). n % 2 ^ e % 2 ^ (1 + j)) eight ∙ mod-mod-pow n (7 - j) (1 + j) in
    ap (λ (x : ℕ). eqb x 1) (sym (field (n % 256) 1 j) ∙ ap (λ (x : ℕ). x / 2 ^ j) low ∙ field n 1 j)

-- a word is made of the bits below its width alone
pub word_same : (f g : ℕ → Bool) (n : ℕ) → ((j : ℕ) → j < n → f j ≡ g j) → word_of f n ≡ word_of g n
unfolding word_of
word_same f g zero h = refl
word_same f g (suc n) h =
    ap₂ (λ (t : Bool) (w : ℕ). pick t 1 0 + 2 * w) (h 0 (omega arith)) (word_same (λ j. f (suc j)) (λ j. g (suc j)) n (λ j b. h (suc j) (omega arith)))

-- bit j of a word is bit j % 8 of its byte j / 8
octet_bit : (w j : ℕ) → bit w j ≡ bit (octet w (j / 8)) (j % 8)
octet_bit w j =
    let place : j ≡ 8 * (j / 8) + j % 8 = omega arith in
    ap (λ (i : ℕ). bit w i) place ∙ sym (bit_low (w / 2 ^ (8 * (j / 8))) (j % 8) (omega arith) ∙ bit_shift w (8 * (j / 8)) (j % 8))

-- eight bytes read as one word are the word of the keys that they say
pub word_read : (bytes : List ℕ) → ((i : ℕ) → get_or bytes i 0 < 256) → (c w at word : ℕ) → at ≡ 16 * c + 8 * w → word ≡ word_at bytes at
    → word ≡ word_of (λ j. held_in bytes c (64 * w + j)) 64
word_read bytes small c w at word e is =
    word_known 64 word (word_of (λ j. held_in bytes c (64 * w + j)) 64)
    (omega (arith, is, small at, small (at + 1), small (at + 2), small (at + 3), small (at + 4), small (at + 5), small (at + 6), small (at + 7)))
    (word_small (λ j. held_in bytes c (64 * w + j)) 64)
    (λ j h.
    let byte : at + j / 8 ≡ 16 * c + (64 * w + j) / 8 = omega arith in
    let place : j % 8 ≡ (64 * w + j) % 8 = omega arith in
    ap (λ (x : ℕ). bit x j) is ∙ octet_bit (word_at bytes at) j
    ∙ ap (λ (x : ℕ). bit x (j % 8)) (octet_read bytes at small (j / 8) (omega arith))
    ∙ ap₂ (λ (x y : ℕ). bit (get_or bytes x 0) y) byte place
    ∙ sym (word_bit (λ i. held_in bytes c (64 * w + i)) 64 j h))

-- a word's bytes are the record's bytes at its place
pub word_bytes : (keys : List (List ℕ)) (i k : ℕ) → k < 8 → byte_of keys (8 * i + k) ≡ octet (get_or (get_or keys (i / 2) []) (i % 2) 0) k
unfolding is_held
word_bytes keys i k h =
    word_known 8 (byte_of keys (8 * i + k)) (octet word k) (word_small (λ j. is_held keys ((8 * i + k) / 16) (8 * ((8 * i + k) % 16) + j)) 8) (omega arith)
    (λ j b. word_bit (λ t. is_held keys ((8 * i + k) / 16) (8 * ((8 * i + k) % 16) + t)) 8 j b ∙ same j b ∙ sym (bit_low (word / 2 ^ (8 * k)) j b ∙ bit_shift word (8 * k) j))
  where
    word : ℕ
    word = get_or (get_or keys (i / 2) []) (i % 2) 0

    same : (j : ℕ) → j < 8 → is_held keys ((8 * i + k) / 16) (8 * ((8 * i + k) % 16) + j) ≡ bit word (8 * k + j)
    same j b =
        let channel : (8 * i + k) / 16 ≡ i / 2 = omega arith in
        let key : 8 * ((8 * i + k) % 16) + j ≡ 64 * (i % 2) + (8 * k + j) = omega arith in
        let part : (64 * (i % 2) + (8 * k + j)) / 64 ≡ i % 2 = omega arith in
        let place : (64 * (i % 2) + (8 * k + j)) % 64 ≡ 8 * k + j = omega arith in
        ap₂ (λ (x y : ℕ). bit (get_or (get_or keys x []) (y / 64) 0) (y % 64)) channel key
        ∙ ap₂ (λ (x y : ℕ). bit (get_or (get_or keys (i / 2) []) x 0) y) part place
