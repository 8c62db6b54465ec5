-- A record that is filled channel by channel, and bytes that are filled word by word, are whole behind the last, because nothing of what
-- was there is left.
use mathlib.Core.Path.{◌≡◌, ap, ap₂, sym, ◌∙◌}
use mathlib.Core.List.{List, [], ◌∷◌, ◌++◌, append-nil}
use Prim.Native.Nat.{ℕ, ◌+◌, ◌*◌, ◌/◌, ◌%◌, ◌<◌}
use native.Mathlib.Omega.{arith}
use lib.ListN.{length, get_or, set, drop, drop_of_length-le}
use Rattle.laws.specs.Tabulate.{tab}
use Rattle.laws.specs.Window.{window}
use Rattle.laws.proofs.Tabulate.{length_tab, tab_more}
use Rattle.laws.proofs.Window.{window_more, window_front, window_group}
use Rattle.octets.specs.quick.Words.{word_at, put_word, octet}
use Rattle.octets.proofs.words.Words.{word_window}
use Rattle.held_keys.specs.Record.{record_of, word_of}
use Rattle.held_keys.specs.HeldBytes.{keys_of, bytes_of_keys, byte_of, held_in}
use Rattle.held_keys.proofs.bytes.Words.{word_read, word_bytes}

-- filled to the end
filled_all : {A : Type 0} (f : ℕ → A) (l : List A) (n : ℕ) → length l ≡ n → window l 0 (tab f n) ≡ tab f n
filled_all f l n e =
    let none : drop (length (tab f n)) l ≡ [] = drop_of_length-le l {i = length (tab f n)} (omega (arith, length_tab f n, e)) in
    window_front l (tab f n) ∙ ap (λ (rest : List _). tab f n ++ rest) none ∙ append-nil (tab f n)

-- a channel's two words
abbrev pub channel_in : List ℕ → ℕ → List ℕ
channel_in bytes c = tab (λ w. word_of (λ j. held_in bytes c (64 * w + j)) 64) 2

pub channel_stored : (bytes : List ℕ) → ((i : ℕ) → get_or bytes i 0 < 256) → (l keys : List (List ℕ)) (c first second : ℕ)
    → keys ≡ window l 0 (tab (channel_in bytes) c) → c < length l → first ≡ word_at bytes (16 * c) → second ≡ word_at bytes (16 * c + 8)
    → set keys c (first ∷ second ∷ []) ≡ window l 0 (tab (channel_in bytes) (c + 1))
channel_stored bytes small l keys c first second e h p q =
    ap₂ (λ (k : List (List ℕ)) (row : List ℕ). set k c row) e
    (ap₂ (λ (x y : ℕ). x ∷ y ∷ []) (word_read bytes small c 0 (16 * c) first (omega arith) p) (word_read bytes small c 1 (16 * c + 8) second (omega arith) q))
    ∙ window_more l 0 (tab (channel_in bytes) c) (channel_in bytes c) c (omega (arith, length_tab (channel_in bytes) c)) h
    ∙ ap (λ (rows : List (List ℕ)). window l 0 rows) (sym (tab_more (channel_in bytes) c))

pub channels_all : (bytes : List ℕ) (l keys : List (List ℕ)) (c : ℕ) → c ≡ 16 → length l ≡ 16 → keys ≡ window l 0 (tab (channel_in bytes) c)
    → keys ≡ keys_of bytes
unfolding record_of
channels_all bytes l keys c last e p = p ∙ ap (λ (n : ℕ). window l 0 (tab (channel_in bytes) n)) last ∙ filled_all (channel_in bytes) l 16 e

-- the bytes of one word more
pub word_filled : (keys : List (List ℕ)) (l bytes later : List ℕ) (i : ℕ) → i < 32 → length l ≡ 256 → length bytes ≡ 256
    → bytes ≡ window l 0 (tab (byte_of keys) (8 * i)) → later ≡ put_word (get_or (get_or keys (i / 2) []) (i % 2) 0) bytes (8 * i)
    → later ≡ window l 0 (tab (byte_of keys) (8 * (i + 1)))
word_filled keys l bytes later i h e long p q =
    let next : 8 * i + 8 ≡ 8 * (i + 1) = omega arith in
    let word : ℕ = get_or (get_or keys (i / 2) []) (i % 2) 0 in
    q ∙ word_window word bytes (8 * i) (omega arith)
    ∙ ap (λ (b : List ℕ). window b (8 * i) (tab (octet word) 8)) p
    ∙ window_group (byte_of keys) (octet word) l (8 * i) 8 (λ k b. word_bytes keys i k b) (omega arith)
    ∙ ap (λ (n : ℕ). window l 0 (tab (byte_of keys) n)) next

pub words_all : (keys : List (List ℕ)) (l bytes : List ℕ) (n : ℕ) → n ≡ 256 → length l ≡ 256 → bytes ≡ window l 0 (tab (byte_of keys) n)
    → bytes ≡ bytes_of_keys keys
unfolding bytes_of_keys
words_all keys l bytes n last e p = p ∙ ap (λ (m : ℕ). window l 0 (tab (byte_of keys) m)) last ∙ filled_all (byte_of keys) l 256 e
