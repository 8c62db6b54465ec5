-- A state's bytes say the state, because each field has bytes of its own and a length below 2 to the 64th is its eight digits.
use Rattle.std.specs.Prelude.{None, Option, Some, is_some, unwrap_or}
use mathlib.Core.Path.{◌≡◌, refl, ap, sym, ◌∙◌}
use mathlib.Core.Bool.{Bool, true, false, ◌||◌}
use mathlib.Core.List.{List, [], ◌∷◌, ◌++◌, append-nil}
use Prim.Native.Nat.{ℕ, zero, suc, ◌+◌, ◌*◌, ◌/◌, ◌%◌, ◌^◌, ◌≤◌, ◌<◌}
use native.Mathlib.Omega.{arith}
use lib.Dec.{eqb, leb}
use lib.ListN.{length, get_or, drop, drop_of_length-le}
use lib.Seq.{sets, sets-eq, drop-cons}
use borrow.Author.Tests.{eqb-true, leb-true}
use Rattle.laws.specs.Choice.{flag}
use Rattle.laws.proofs.Tests.{both}
use Rattle.octets.specs.quick.Words.{word}
use Rattle.octets.proofs.words.Words.{digit0, digit1, digit2, digit3, digit4, digit5, digit6, digit7}
use Rattle.decoder.specs.declared.Decoder.{Decoder}
use Rattle.decoder.specs.State.{fresh}
use Rattle.stream.specs.State.{encoded, is_state, state_length, state_of, status_of, status_flag, status_byte}

-- stores one after another that fill a whole list
pub stored_all : (l vs : List ℕ) → length l ≡ length vs → sets l 0 vs ≡ vs
stored_all l vs e =
    let room : 0 + length vs ≤ length l = omega arith in
    let all : length l ≤ 0 + length vs = omega arith in
    sets-eq vs l 0 room ∙ ap (λ (t : List ℕ). vs ++ t) (drop_of_length-le l all) ∙ append-nil vs

-- the library's words for a status's flag and byte
pub status_told : (v : Option ℕ) → (flag (is_some v) ≡ status_flag v) × (unwrap_or v 0 ≡ status_byte v)
status_told None = (refl, refl)
status_told (Some b) = (refl, refl)

-- a fresh state is fourteen bytes 00
pub fresh_bytes : encoded fresh ≡ 0 ∷ 0 ∷ 0 ∷ 0 ∷ 0 ∷ 0 ∷ 0 ∷ 0 ∷ 0 ∷ 0 ∷ 0 ∷ 0 ∷ 0 ∷ 0 ∷ []
fresh_bytes = refl

-- every state's bytes are a state's
pub encoded_is_state : (d : Decoder) → is_state (encoded d) ≡ true
encoded_is_state d = go d.in_sysex d.status
  where
    go : (b : Bool) (v : Option ℕ) → is_state (encoded (record { in_sysex = b; len = d.len; status = v; have = d.have; data0 = d.data0; data1 = d.data1 })) ≡ true
    go true None = refl
    go true (Some x) = refl
    go false None = refl
    go false (Some x) = refl

-- four digits of a number, low first
four_digits : (n : ℕ) → n % 256 + 256 * (n / 0x100 % 256) + 65_536 * (n / 0x1_0000 % 256) + 16_777_216 * (n / 0x100_0000 % 256) ≡ n % 0x1_0000_0000
four_digits n =
    let one : n / 0x1_0000 ≡ n / 0x100 / 0x100 = omega arith in
    let two : n / 0x100_0000 ≡ n / 0x100 / 0x100 / 0x100 = omega arith in
    rw (one, two) (steps n (n / 0x100) (n / 0x100 / 0x100) (omega arith) (omega arith))
  where
    steps : (n a b : ℕ) → n / 0x100 ≡ a → a / 0x100 ≡ b
        → n % 256 + 256 * (a % 256) + 65_536 * (b % 256) + 16_777_216 * (b / 0x100 % 256) ≡ n % 0x1_0000_0000
    steps n a b p q = omega arith

eight_digits : (n : ℕ) → n < 2 ^ 64
    → (n % 256 + 256 * (n / 0x100 % 256) + 65_536 * (n / 0x1_0000 % 256) + 16_777_216 * (n / 0x100_0000 % 256))
    + 4_294_967_296 * (n / 0x1_0000_0000 % 256 + 256 * (n / 0x100_0000_0000 % 256) + 65_536 * (n / 0x1_0000_0000_0000 % 256) + 16_777_216 * (n / 0x100_0000_0000_0000 % 256))
    ≡ n
eight_digits n h =
    let high = n / 0x1_0000_0000 in
    let b : n / 0x100_0000_0000 ≡ high / 0x100 = omega arith in
    let c : n / 0x1_0000_0000_0000 ≡ high / 0x1_0000 = omega arith in
    let d : n / 0x100_0000_0000_0000 ≡ high / 0x100_0000 = omega arith in
    rw (four_digits n, b, c, d, four_digits (n / 0x1_0000_0000)) (together n h)
  where
    together : (n : ℕ) → n < 2 ^ 64 → n % 0x1_0000_0000 + 4_294_967_296 * (n / 0x1_0000_0000 % 0x1_0000_0000) ≡ n
    together n h = omega arith

-- a state reads back from its bytes: nothing is lost
pub state_read_back : (d : Decoder) → d.len < 2 ^ 64 → state_of (encoded d) ≡ d
state_read_back d h = go d.in_sysex d.status
  where
    digits : state_length (encoded d) ≡ d.len
    digits = eight_digits d.len h

    go : (b : Bool) (v : Option ℕ)
        → state_of (encoded (record { in_sysex = b; len = d.len; status = v; have = d.have; data0 = d.data0; data1 = d.data1 }))
        ≡ record { in_sysex = b; len = d.len; status = v; have = d.have; data0 = d.data0; data1 = d.data1 }
    go true None = ap (λ (n : ℕ). record { in_sysex = true; len = n; status = None; have = d.have; data0 = d.data0; data1 = d.data1 }) digits
    go true (Some x) = ap (λ (n : ℕ). record { in_sysex = true; len = n; status = Some x; have = d.have; data0 = d.data0; data1 = d.data1 }) digits
    go false None = ap (λ (n : ℕ). record { in_sysex = false; len = n; status = None; have = d.have; data0 = d.data0; data1 = d.data1 }) digits
    go false (Some x) = ap (λ (n : ℕ). record { in_sysex = false; len = n; status = Some x; have = d.have; data0 = d.data0; data1 = d.data1 }) digits

-- fourteen bytes one by one
pub fourteen : (l : List ℕ) → length l ≡ 14
    → l ≡ get_or l 0 0 ∷ get_or l 1 0 ∷ get_or l 2 0 ∷ get_or l 3 0 ∷ get_or l 4 0 ∷ get_or l 5 0 ∷ get_or l 6 0 ∷ get_or l 7 0
    ∷ get_or l 8 0 ∷ get_or l 9 0 ∷ get_or l 10 0 ∷ get_or l 11 0 ∷ get_or l 12 0 ∷ get_or l 13 0 ∷ []
fourteen l e =
    one 0 (omega (arith, e))
    (one 1 (omega (arith, e))
    (one 2 (omega (arith, e)) (one 3 (omega (arith, e))
    (one 4 (omega (arith, e)) (one 5 (omega (arith, e)) (one 6 (omega (arith, e))
    (one 7 (omega (arith, e))
    (one 8 (omega (arith, e)) (one 9 (omega (arith, e))
    (one 10 (omega (arith, e)) (one 11 (omega (arith, e)) (one 12 (omega (arith, e)) (one 13 (omega (arith, e)) (drop_of_length-le l {i = 14} (omega (arith, e))))))))))))))))
  where
    one : (j : ℕ) {rest : List ℕ} → j < length l → drop (suc j) l ≡ rest → drop j l ≡ get_or l j 0 ∷ rest
    one j h q = drop-cons l j 0 h ∙ ap (λ (t : List ℕ). get_or l j 0 ∷ t) q

-- a flag, and a status with its flag, are written back as they were read
bit_back : (b : ℕ) → b ≤ 1 → flag (eqb b 1) ≡ b
bit_back zero h = refl
bit_back (suc zero) h = refl
bit_back (suc (suc n)) h = absurd (omega arith)

pub status_decoded : (g b : ℕ) → g ≤ 1 → (eqb g 1 || eqb b 0) ≡ true → (status_flag (status_of g b) ≡ g) × (status_byte (status_of g b) ≡ b)
status_decoded zero b h e = (refl, sym (eqb-true b 0 e))
status_decoded (suc zero) b h e = (refl, refl)
status_decoded (suc (suc n)) b h e = absurd (omega arith)

-- bytes that are a state's are written back as they were
pub written_back : (l : List ℕ) → is_state l ≡ true → ((i : ℕ) → get_or l i 0 < 256) → encoded (state_of l) ≡ l
written_back l is bytes =
    let p = both (eqb (length l) 14) _ is in
    let q = both (leb (get_or l 0 0) 1) _ p.1 in
    let r = both (leb (get_or l 9 0) 1) _ q.1 in
    let frame = bit_back (get_or l 0 0) (leb-true (get_or l 0 0) 1 q.0) in
    let status = status_decoded (get_or l 9 0) (get_or l 10 0) (leb-true (get_or l 9 0) 1 r.0) r.1 in
    let whole : state_length l ≡ word (get_or l 1 0) (get_or l 2 0) (get_or l 3 0) (get_or l 4 0) (get_or l 5 0) (get_or l 6 0) (get_or l 7 0) (get_or l 8 0) = omega arith in
    rw (
      frame,
      status.0,
      status.1,
      whole,
      digit0 _ _ _ _ _ _ _ _ (bytes 1) (bytes 2) (bytes 3) (bytes 4) (bytes 5) (bytes 6) (bytes 7) (bytes 8),
      digit1 _ _ _ _ _ _ _ _ (bytes 1) (bytes 2) (bytes 3) (bytes 4) (bytes 5) (bytes 6) (bytes 7) (bytes 8),
      digit2 _ _ _ _ _ _ _ _ (bytes 1) (bytes 2)
          (bytes 3) (bytes 4) (bytes 5) (bytes 6) (bytes 7) (bytes 8),
      digit3 _ _ _ _ _ _ _ _ (bytes 1) (bytes 2) (bytes 3) (bytes 4) (bytes 5) (bytes 6)
          (bytes 7) (bytes 8),
      digit4 _ _ _ _ _ _ _ _ (bytes 1) (bytes 2) (bytes 3) (bytes 4) (bytes 5) (bytes 6) (bytes 7) (bytes 8),
      digit5 _ _ _ _ _ _ _
          _ (bytes 1) (bytes 2) (bytes 3) (bytes 4) (bytes 5) (bytes 6) (bytes 7) (bytes 8),
      digit6 _ _ _ _ _ _ _ _ (bytes 1) (bytes 2) (bytes 3) (bytes 4)
          (bytes 5) (bytes 6) (bytes 7) (bytes 8),
      digit7 _ _ _ _ _ _ _ _ (bytes 1) (bytes 2) (bytes 3) (bytes 4) (bytes 5) (bytes 6) (bytes 7) (bytes 8),
    )
    (sym (fourteen l (eqb-true (length l) 14 p.0)))
