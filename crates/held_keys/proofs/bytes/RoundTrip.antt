-- Nothing is lost between a record and its bytes, because each says which keys are held, and is known by them.
use mathlib.Core.Path.{◌≡◌, refl, ap, ap₂, sym, ◌∙◌}
use mathlib.Core.Bool.{false}
use mathlib.Core.List.{List}
use Prim.Native.Nat.{ℕ, ◌+◌, ◌*◌, ◌/◌, ◌%◌, ◌<◌}
use native.Mathlib.Omega.{arith}
use lib.ListN.{length, get_or, replicate}
use lib.Seq.{ext_get_or}
use Rattle.laws.specs.Tabulate.{tab}
use Rattle.laws.proofs.Tabulate.{length_tab, get_or_tab, tab_same}
use Rattle.held_keys.specs.HeldKeys.{bit, is_held}
use Rattle.held_keys.specs.Record.{Shaped, word_of}
use Rattle.held_keys.proofs.Known.{word_known, record_known}
use Rattle.held_keys.proofs.Made.{word_small, word_bit, made_shaped, made_held}
use Rattle.held_keys.specs.HeldBytes.{keys_of, bytes_of_keys, byte_of, held_in}
use Rattle.held_keys.proofs.bytes.Words.{word_same}

-- which keys the bytes say to be held
pub held_in_bytes : (bytes : List ℕ) (c k : ℕ) → c < 16 → k < 128 → is_held (keys_of bytes) c k ≡ bit (get_or bytes (16 * c + k / 8) 0) (k % 8)
held_in_bytes bytes c k hc hk = made_held (held_in bytes) c k hc hk

pub keys_shaped : (bytes : List ℕ) → Shaped (keys_of bytes)
keys_shaped bytes = made_shaped (held_in bytes)

pub bytes_long : (keys : List (List ℕ)) → length (bytes_of_keys keys) ≡ 256
unfolding bytes_of_keys
bytes_long keys = length_tab (byte_of keys) 256

byte_there : (keys : List (List ℕ)) (i : ℕ) → i < 256 → get_or (bytes_of_keys keys) i 0 ≡ byte_of keys i
unfolding bytes_of_keys
byte_there keys i h = get_or_tab (byte_of keys) 256 i 0 h

-- a record's bytes say just its held keys
bytes_say : (keys : List (List ℕ)) (c k : ℕ) → c < 16 → k < 128 → held_in (bytes_of_keys keys) c k ≡ is_held keys c k
bytes_say keys c k hc hk =
    let i : ℕ = 16 * c + k / 8 in
    let channel : i / 16 ≡ c = omega arith in
    let key : 8 * (i % 16) + k % 8 ≡ k = omega arith in
    ap (λ (b : ℕ). bit b (k % 8)) (byte_there keys i (omega arith))
    ∙ word_bit (λ j. is_held keys (i / 16) (8 * (i % 16) + j)) 8 (k % 8) (omega arith)
    ∙ ap₂ (λ (x y : ℕ). is_held keys x y) channel key

-- with no key held every byte is 0
all_zeros : tab (λ i. word_of (λ j. false) 8) 256 ≡ replicate 256 0
unfolding word_of
all_zeros = refl

pub bytes_fresh : (keys : List (List ℕ)) → ((c k : ℕ) → is_held keys c k ≡ false) → bytes_of_keys keys ≡ replicate 256 0
unfolding bytes_of_keys
bytes_fresh keys none =
    tab_same (byte_of keys) (λ i. word_of (λ j. false) 8) 256
    (λ i h. word_same (λ j. is_held keys (i / 16) (8 * (i % 16) + j)) (λ j. false) 8 (λ j b. none (i / 16) (8 * (i % 16) + j)))
    ∙ all_zeros

-- a record written and read is that record
pub keys_read_back : (keys : List (List ℕ)) → Shaped keys → keys_of (bytes_of_keys keys) ≡ keys
keys_read_back keys p =
    record_known (keys_of (bytes_of_keys keys)) keys (keys_shaped (bytes_of_keys keys)) p
    (λ c k hc hk. held_in_bytes (bytes_of_keys keys) c k hc hk ∙ bytes_say keys c k hc hk)

-- 256 bytes read and written are those bytes
pub bytes_written_back : (bytes : List ℕ) → length bytes ≡ 256 → ((i : ℕ) → i < 256 → get_or bytes i 0 < 256) → bytes_of_keys (keys_of bytes) ≡ bytes
bytes_written_back bytes e small =
    ext_get_or 0 (bytes_of_keys (keys_of bytes)) bytes (bytes_long (keys_of bytes) ∙ sym e)
    (λ i h. byte i (omega (arith, h, bytes_long (keys_of bytes))))
  where
    said : (i j : ℕ) → i < 256 → j < 8 → is_held (keys_of bytes) (i / 16) (8 * (i % 16) + j) ≡ bit (get_or bytes i 0) j
    said i j hi hj =
        let there : 16 * (i / 16) + (8 * (i % 16) + j) / 8 ≡ i = omega arith in
        let place : (8 * (i % 16) + j) % 8 ≡ j = omega arith in
        held_in_bytes bytes (i / 16) (8 * (i % 16) + j) (omega arith) (omega arith) ∙ ap₂ (λ (x y : ℕ). bit (get_or bytes x 0) y) there place

    byte : (i : ℕ) → i < 256 → get_or (bytes_of_keys (keys_of bytes)) i 0 ≡ get_or bytes i 0
    byte i h =
        byte_there (keys_of bytes) i h
        ∙ word_known 8 (byte_of (keys_of bytes) i) (get_or bytes i 0) (word_small (λ j. is_held (keys_of bytes) (i / 16) (8 * (i % 16) + j)) 8) (small i h)
        (λ j b. word_bit (λ t. is_held (keys_of bytes) (i / 16) (8 * (i % 16) + t)) 8 j b ∙ said i j h b)
