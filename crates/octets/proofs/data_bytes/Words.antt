-- A mask that is put together byte by byte masks byte by byte, so what is left of a word are its bytes' top bits; where none is left
-- the eight bytes are data bytes.
use mathlib.Core.Path.{◌≡◌, refl, ap, ap₂, sym, ◌∙◌}
use mathlib.Core.Bool.{true, false}
use mathlib.Core.List.{List, []}
use Prim.Native.Nat.{ℕ, zero, suc, ◌+◌, ◌*◌, ◌/◌, ◌%◌, ◌^◌, ◌≤◌, ◌<◌}
use native.Mathlib.Omega.{arith}
use lib.Bits.{bit_and, bit_or, and_block, and_high, and_zero_l, and_le_l, and_le_r, or_add_and, or_lt}
use lib.Dec.{ltb, leb}
use borrow.Author.Tests.{lt-ltb, le-ltb, le-leb, lt-leb, ltb-true, ltb-false, leb-true, leb-false}
use Rattle.laws.proofs.Tests.{split}
use lib.ListN.{get_or, length, take, drop}
use lib.Seq.{drop-drop, get_or-take, get_or-drop}
use Rattle.std.specs.Simd.{first_chunks}
use Rattle.octets.specs.quick.Words.{word, word_at}
use Rattle.octets.specs.quick.Data.{top_bits, top_bits_at, data_run}
use Rattle.octets.proofs.data_bytes.Runs.{run_more, run_ends}

top_of : (r : ℕ) → r < 256 → r / 128 % 2 * 128 ≡ r / 128 * 128
top_of r byte = omega arith

-- a word and a mask, each with its lowest byte taken off
off : (w m v n r : ℕ) → v ≡ w * 2 ^ 8 + r → n ≡ m * 2 ^ 8 + 128 → r < 256 → bit_and v n ≡ bit_and w m * 256 + r / 128 * 128
off w m v n r p q byte =
    ap₂ bit_and p q ∙ and_block 8 w m r 128 byte (omega arith)
    ∙ ap (λ (x : ℕ). bit_and w m * 256 + x) (and_high r 1 7 ∙ top_of r byte)

-- eight bytes off, one after another: x is what is left of the masked word, q are the top bits
joined : (x0 x1 x2 x3 x4 x5 x6 x7 x8 q0 q1 q2 q3 q4 q5 q6 q7 : ℕ) → x0 ≡ x1 * 256 + q0 * 128 → x1 ≡ x2 * 256 + q1 * 128
    → x2 ≡ x3 * 256 + q2 * 128 → x3 ≡ x4 * 256 + q3 * 128 → x4 ≡ x5 * 256 + q4 * 128 → x5 ≡ x6 * 256 + q5 * 128
    → x6 ≡ x7 * 256 + q6 * 128 → x7 ≡ x8 * 256 + q7 * 128 → x8 ≡ 0
    → x0 ≡ q0 * 0x80 + q1 * 0x8000 + q2 * 0x80_0000 + q3 * 0x8000_0000 + q4 * 0x80_0000_0000 + q5 * 0x8000_0000_0000 + q6 * 0x80_0000_0000_0000
    + q7 * 0x8000_0000_0000_0000
joined x0 x1 x2 x3 x4 x5 x6 x7 x8 q0 q1 q2 q3 q4 q5 q6 q7 e0 e1 e2 e3 e4 e5 e6 e7 e8 = omega arith

module _ (a b c d e f g h : ℕ)
    (a₁ : a < 256) (b₁ : b < 256) (c₁ : c < 256) (d₁ : d < 256) (e₁ : e < 256) (f₁ : f < 256) (g₁ : g < 256) (h₁ : h < 256) where
  pub tops_left : bit_and (word a b c d e f g h) 0x8080_8080_8080_8080 ≡ top_bits a b c d e f g h
  tops_left =
      let wg : ℕ = g + 256 * h in
      let wf : ℕ = f + 256 * wg in
      let we : ℕ = e + 256 * wf in
      let wd : ℕ = d + 256 * we in
      let wc : ℕ = c + 256 * wd in
      let wb : ℕ = b + 256 * wc in
      joined _ _ _ _ _ _ _ _ _ _ _ _ _ _ _ _ _
      (off wb 0x80_8080_8080_8080 (word a b c d e f g h) 0x8080_8080_8080_8080 a (omega arith) refl a₁)
      (off wc 0x8080_8080_8080 wb 0x80_8080_8080_8080 b (omega arith) refl b₁)
      (off wd 0x80_8080_8080 wc 0x8080_8080_8080 c (omega arith) refl c₁)
      (off we 0x8080_8080 wd 0x80_8080_8080 d (omega arith) refl d₁)
      (off wf 0x80_8080 we 0x8080_8080 e (omega arith) refl e₁)
      (off wg 0x8080 wf 0x80_8080 f (omega arith) refl f₁)
      (off h 0x80 wg 0x8080 g (omega arith) refl g₁)
      (off 0 0 h 0x80 h (omega arith) refl h₁)
      (and_zero_l 0)

-- eight bytes with no top bit, right behind what was seen of the run, belong to it
pub word_more : (l : List ℕ) (i : ℕ) → i ≤ data_run l → i + 8 ≤ length l → top_bits_at l i ≡ 0 → i + 8 ≤ data_run l
word_more l i h room clear =
    (more (i + 7) (i + 8) (omega arith) (omega arith) (omega (arith, clear))
    (more (i + 6) (i + 7) (omega arith) (omega arith) (omega (arith, clear))
    (more (i + 5) (i + 6) (omega arith) (omega arith) (omega (arith, clear))
    (more (i + 4) (i + 5) (omega arith) (omega arith) (omega (arith, clear))
    (more (i + 3) (i + 4) (omega arith) (omega arith) (omega (arith, clear))
    (more (i + 2) (i + 3) (omega arith) (omega arith) (omega (arith, clear))
    (more (i + 1) (i + 2) (omega arith) (omega arith) (omega (arith, clear))
    (more i (i + 1) (omega arith) (omega arith) (omega (arith, clear))
    h))))))))
  where
    more : (j m : ℕ) → m ≡ j + 1 → j < length l → get_or l j 0 < 0x80 → j ≤ data_run l → m ≤ data_run l
    more j m e within low seen = omega (arith, e, run_more l j seen within low)

-- of two numbers joined bit by bit each is at most as much
or_left : (a b : ℕ) → a ≤ bit_or a b
or_left a b = omega (arith, or_add_and a b, and_le_r a b)

or_right : (a b : ℕ) → b ≤ bit_or a b
or_right a b = omega (arith, or_add_and a b, and_le_l a b)

-- bytes joined bit by bit have a top bit where one of them has: the run goes as far as there is none
pub seen_more : (l : List ℕ) (i all : ℕ) → i < length l → ltb all 0x80 ≡ leb i (data_run l)
    → ltb (bit_or all (get_or l i 0)) 0x80 ≡ leb (i + 1) (data_run l)
seen_more l i all h e = split (ltb all 0x80) low high
  where
    b : ℕ
    b = get_or l i 0

    low : ltb all 0x80 ≡ true → ltb (bit_or all b) 0x80 ≡ leb (i + 1) (data_run l)
    low t =
        let seen : i ≤ data_run l = leb-true i (data_run l) (sym e ∙ t) in
        split (ltb b 0x80)
        (λ s. lt-ltb (bit_or all b) 0x80 (or_lt 7 all b (ltb-true all 0x80 t) (ltb-true b 0x80 s)) ∙ sym (le-leb (i + 1) (data_run l) (run_more l i seen h (ltb-true b 0x80 s))))
        (λ s. le-ltb (bit_or all b) 0x80 (omega (arith, or_right all b, ltb-false b 0x80 s)) ∙ sym
        (lt-leb (i + 1) (data_run l) (omega (arith, run_ends l i seen (ltb-false b 0x80 s)))))

    high : ltb all 0x80 ≡ false → ltb (bit_or all b) 0x80 ≡ leb (i + 1) (data_run l)
    high t =
        le-ltb (bit_or all b) 0x80 (omega (arith, or_left all b, ltb-false all 0x80 t))
        ∙ sym (lt-leb (i + 1) (data_run l) (omega (arith, leb-false i (data_run l) (sym e ∙ t))))

-- the mask leaves of a word that was read its bytes' top bits
tops_read : (l : List ℕ) (i w : ℕ) → ((k : ℕ) → get_or l k 0 < 256) → w ≡ word_at l i → bit_and w 0x8080_8080_8080_8080 ≡ top_bits_at l i
tops_read l i w bytes e =
    ap (λ (x : ℕ). bit_and x 0x8080_8080_8080_8080) e
    ∙ tops_left _ _ _ _ _ _ _ _ (bytes i) (bytes (i + 1)) (bytes (i + 2)) (bytes (i + 3)) (bytes (i + 4)) (bytes (i + 5)) (bytes (i + 6)) (bytes (i + 7))

-- eight bytes have no top bit where the mask leaves nothing of their word
pub no_tops : (l : List ℕ) (i w : ℕ) → ((k : ℕ) → get_or l k 0 < 256) → w ≡ word_at l i → bit_and w 0x8080_8080_8080_8080 ≡ 0 → top_bits_at l i ≡ 0
no_tops l i w bytes e z = sym (tops_read l i w bytes e) ∙ z

-- chunk w of a list's first n chunks of eight begins at byte 8 * w
chunk_at : (l : List ℕ) (n w : ℕ) → w < n → get_or (first_chunks 8 n l) w [] ≡ take 8 (drop (w * 8) l)
chunk_at l zero w h = absurd (omega arith)
chunk_at l (suc n) zero h = refl
chunk_at l (suc n) (suc w) h =
    let place : 8 + w * 8 ≡ suc w * 8 = omega arith in
    chunk_at (drop 8 l) n w (omega arith) ∙ ap (take 8) (drop-drop (w * 8) 8 l ∙ ap (λ (i : ℕ). drop i l) place)

-- the word of chunk w is the word that stands at byte 8 * w of the list
chunk_word : (l : List ℕ) (n w : ℕ) → w < n → word_at (get_or (first_chunks 8 n l) w []) 0 ≡ word_at l (w * 8)
chunk_word l n w h =
    let start : w * 8 + 0 ≡ w * 8 = omega arith in
    rw (
      chunk_at l n w h,
      byte 0 (omega arith),
      byte 1 (omega arith),
      byte 2 (omega arith),
      byte 3 (omega arith),
      byte 4 (omega arith),
      byte 5 (omega arith),
      byte 6 (omega arith),
      byte 7 (omega arith),
      start,
    )
  where
    byte : (k : ℕ) → k < 8 → get_or (take 8 (drop (w * 8) l)) k 0 ≡ get_or l (w * 8 + k) 0
    byte k small = get_or-take 8 (drop (w * 8) l) k 0 small ∙ get_or-drop (w * 8) l k 0

-- a chunk with no top bit, right behind what was seen of the run, belongs to it
pub chunk_more : (l : List ℕ) (n w x : ℕ) → ((k : ℕ) → get_or l k 0 < 256) → n * 8 ≤ length l → w < n
    → x ≡ word_at (get_or (first_chunks 8 n l) w []) 0 → bit_and x 0x8080_8080_8080_8080 ≡ 0 → w * 8 ≤ data_run l → (w + 1) * 8 ≤ data_run l
chunk_more l n w x bytes room h e none seen =
    omega (arith, word_more l (w * 8) seen (omega arith) (no_tops l (w * 8) x bytes (e ∙ chunk_word l n w h) none))
