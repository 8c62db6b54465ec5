-- What was packed unpacks to the raw bytes and then zeros, because bit i of a group's first byte is the top bit of raw byte i, and
-- behind the raw bytes zeros were packed.
use mathlib.Core.Path.{◌≡◌, refl, ap, ap₂, sym, ◌∙◌}
use mathlib.Core.Bool.{Bool, true, false}
use mathlib.Core.List.{List, [], ◌∷◌, ◌++◌}
use Prim.Native.Nat.{ℕ, zero, suc, ◌+◌, ◌*◌, ◌-◌, ◌/◌, ◌%◌, ◌^◌, ◌<◌}
use native.Mathlib.Numerals.{add-one}
use native.Mathlib.Omega.{arith}
use lib.Dec.{eqb}
use lib.ListN.{length, get_or, replicate, length-append, length-replicate}
use lib.Seq.{ext_get_or}
use borrow.Author.Tests.{ne_eqb}
use Rattle.laws.specs.Choice.{pick}
use Rattle.laws.specs.Tabulate.{tab}
use Rattle.laws.proofs.Tabulate.{length_tab, get_or_tab, tab_same}
use Rattle.laws.proofs.Zeros.{get_or_padded}
use Rattle.packed.specs.Packed.{tops, group_byte, packed_byte, packed, packed_length, unpacked_byte, unpacked, unpacked_length}
use Rattle.packed.proofs.Groups.{bit_more}
use Rattle.packed.proofs.Lengths.{packed_then_unpacked}

-- a list of bytes
abbrev pub AllBytes : List ℕ → Type 0
AllBytes raw = (i : ℕ) → get_or raw i 0 < 256

-- one bit of a sum of seven bits
seven_places : (a b c d e f g : ℕ) → ℕ
seven_places a b c d e f g = 0 + a * 2 ^ 0 + b * 2 ^ 1 + c * 2 ^ 2 + d * 2 ^ 3 + e * 2 ^ 4 + f * 2 ^ 5 + g * 2 ^ 6

module _ (a b c d e f g : ℕ) (ha : a < 2) (hb : b < 2) (hc : c < 2) (hd : d < 2) (he : e < 2) (hf : f < 2) (hg : g < 2) where
  bit : (i : ℕ) → i < 7 → seven_places a b c d e f g / 2 ^ i % 2 ≡ get_or (a ∷ b ∷ c ∷ d ∷ e ∷ f ∷ g ∷ []) i 0
  unfolding seven_places
  bit zero h = omega arith
  bit (suc zero) h = omega arith
  bit (suc (suc zero)) h = omega arith
  bit (suc (suc (suc zero))) h = omega arith
  bit (suc (suc (suc (suc zero)))) h = omega arith
  bit (suc (suc (suc (suc (suc zero))))) h = omega arith
  bit (suc (suc (suc (suc (suc (suc zero)))))) h = omega arith
  bit (suc (suc (suc (suc (suc (suc (suc i))))))) h = absurd (omega arith)

-- the top bits of a group: bit i is the top bit of raw byte i
top_bit : (raw : List ℕ) (p i : ℕ) → AllBytes raw → i < 7 → tops raw p 7 / 2 ^ i % 2 ≡ get_or raw (p + i) 0 / 128
unfolding tops seven_places
top_bit raw p i bytes h =
    bit (x 0) (x 1) (x 2) (x 3) (x 4) (x 5) (x 6) (small 0) (small 1) (small 2) (small 3) (small 4) (small 5) (small 6) i h
    ∙ nth i h
  where
    x : ℕ → ℕ
    x k = get_or raw (p + k) 0 / 128

    small : (k : ℕ) → x k < 2
    small k = omega (arith, bytes (p + k))

    nth : (k : ℕ) → k < 7 → get_or (x 0 ∷ x 1 ∷ x 2 ∷ x 3 ∷ x 4 ∷ x 5 ∷ x 6 ∷ []) k 0 ≡ get_or raw (p + k) 0 / 128
    nth zero b = refl
    nth (suc zero) b = refl
    nth (suc (suc zero)) b = refl
    nth (suc (suc (suc zero))) b = refl
    nth (suc (suc (suc (suc zero)))) b = refl
    nth (suc (suc (suc (suc (suc zero))))) b = refl
    nth (suc (suc (suc (suc (suc (suc zero)))))) b = refl
    nth (suc (suc (suc (suc (suc (suc (suc k))))))) b = absurd (omega arith)

-- the packed bytes of group g
packed_first : (raw : List ℕ) (g : ℕ) → 8 * g < packed_length (length raw) → get_or (packed raw) (8 * g) 0 ≡ tops raw (7 * g) 7
packed_first raw g h =
    get_or_tab (packed_byte raw) (packed_length (length raw)) (8 * g) 0 h
    ∙ ap₂ (group_byte raw) group place
  where
    group : 7 * (8 * g / 8) ≡ 7 * g
    group = omega arith

    place : 8 * g % 8 ≡ 0
    place = omega arith

packed_data : (raw : List ℕ) (g i : ℕ) → i < 7 → 8 * g < packed_length (length raw)
    → get_or (packed raw) (8 * g + 1 + i) 0 ≡ get_or raw (7 * g + i) 0 % 128
packed_data raw g i b h =
    get_or_tab (packed_byte raw) (packed_length (length raw)) (8 * g + 1 + i) 0 (omega arith)
    ∙ ap₂ (group_byte raw) group place
    ∙ data_byte
  where
    group : 7 * ((8 * g + 1 + i) / 8) ≡ 7 * g
    group = omega arith

    place : (8 * g + 1 + i) % 8 ≡ 1 + i
    place = omega arith

    data_byte : group_byte raw (7 * g) (1 + i) ≡ get_or raw (7 * g + i) 0 % 128
    data_byte =
        let back : 7 * g + (1 + i - 1) ≡ 7 * g + i = omega arith in
        rw (ne_eqb (1 + i) 0 (λ e. omega arith)) (ap (λ (n : ℕ). get_or raw n 0 % 128) back)

-- raw byte k comes back
byte_back : (raw : List ℕ) (k : ℕ) → AllBytes raw → k < unpacked_length (packed_length (length raw)) → unpacked_byte (packed raw) k ≡ get_or raw k 0
byte_back raw k bytes h =
    let g = k / 7 in
    let i = k % 7 in
    let in_group : i < 7 = omega arith in
    let in-run : 8 * g < packed_length (length raw) = omega arith in
    let whole : 7 * g + i ≡ k = omega arith in
    ap₂ (λ (low high : ℕ). low % 128 + 128 * (high / 2 ^ i % 2)) (packed_data raw g i in_group in-run) (packed_first raw g in-run)
    ∙ ap (λ (top : ℕ). get_or raw (7 * g + i) 0 % 128 % 128 + 128 * top) (top_bit raw (7 * g) i bytes in_group)
    ∙ ap (λ (n : ℕ). get_or raw n 0 % 128 % 128 + 128 * (get_or raw n 0 / 128)) whole
    ∙ omega (arith, bytes k)

-- "unpacking what was packed gives the raw bytes and then zeros", as many as fill the last group
pub unpacks_what_was_packed : (raw : List ℕ) → AllBytes raw
    → unpacked (packed raw) ≡ raw ++ replicate (unpacked_length (packed_length (length raw)) - length raw) 0
unpacks_what_was_packed raw bytes =
    ext_get_or 0 (unpacked (packed raw)) (raw ++ replicate (all - length raw) 0) (length_tab (unpacked_byte (packed raw)) _ ∙ count ∙ whole)
    (λ i h.
    let h' : i < unpacked_length (length (packed raw)) = rw (length_tab (unpacked_byte (packed raw)) (unpacked_length (length (packed raw)))) at h in
    get_or_tab (unpacked_byte (packed raw)) (unpacked_length (length (packed raw))) i 0 h'
    ∙ byte_back raw i bytes (rw count at h')
    ∙ sym (get_or_padded raw (all - length raw) i))
  where
    all : ℕ
    all = unpacked_length (packed_length (length raw))

    count : unpacked_length (length (packed raw)) ≡ all
    count = ap unpacked_length (length_tab (packed_byte raw) (packed_length (length raw)))

    whole : all ≡ length (raw ++ replicate (all - length raw) 0)
    whole = simp (length-append, length-replicate) (omega (arith, packed_then_unpacked (length raw)))

-- packed bytes are all below 80
tops_below : (raw : List ℕ) (p n : ℕ) → AllBytes raw → tops raw p n < 2 ^ n
unfolding tops
tops_below raw p zero bytes = omega arith
tops_below raw p (suc n) bytes =
    rw (add-one n) at (bit_more (tops raw p n) (get_or raw (p + n) 0 / 128) n (tops_below raw p n bytes) (omega (arith, bytes (p + n))))

pub packed_below_80 : (raw : List ℕ) (j : ℕ) → AllBytes raw → j < length (packed raw) → get_or (packed raw) j 0 < 0x80
packed_below_80 raw j bytes h =
    rw (get_or_tab (packed_byte raw) (packed_length (length raw)) j 0 (rw (length_tab (packed_byte raw) (packed_length (length raw))) at h))
    (below (eqb (j % 8) 0))
  where
    below : (t : Bool) → pick t (tops raw (7 * (j / 8)) 7) (get_or raw (7 * (j / 8) + (j % 8 - 1)) 0 % 128) < 0x80
    below true = tops_below raw (7 * (j / 8)) 7 bytes
    below false = omega arith

-- the seven bits below the top one
low_bit : (a b i : ℕ) → i < 7 → a % 128 ≡ b % 128 → a / 2 ^ i % 2 ≡ b / 2 ^ i % 2
low_bit a b zero h e = omega arith
low_bit a b (suc zero) h e = omega arith
low_bit a b (suc (suc zero)) h e = omega arith
low_bit a b (suc (suc (suc zero))) h e = omega arith
low_bit a b (suc (suc (suc (suc zero)))) h e = omega arith
low_bit a b (suc (suc (suc (suc (suc zero))))) h e = omega arith
low_bit a b (suc (suc (suc (suc (suc (suc zero)))))) h e = omega arith
low_bit a b (suc (suc (suc (suc (suc (suc (suc i))))))) h e = absurd (omega arith)

-- runs that differ in top bits alone unpack alike
pub top_bits_ignored : (run other : List ℕ) → length run ≡ length other → ((j : ℕ) → get_or run j 0 % 128 ≡ get_or other j 0 % 128)
    → unpacked run ≡ unpacked other
top_bits_ignored run other e same =
    tab_same (unpacked_byte run) (unpacked_byte other) (unpacked_length (length run))
    (λ k h.
    ap₂ (λ (low top : ℕ). low + 128 * top) (same (8 * (k / 7) + 1 + k % 7))
    (low_bit (get_or run (8 * (k / 7)) 0) (get_or other (8 * (k / 7)) 0) (k % 7) (omega arith) (same (8 * (k / 7)))))
    ∙ ap (λ (n : ℕ). tab (unpacked_byte other) (unpacked_length n)) e
