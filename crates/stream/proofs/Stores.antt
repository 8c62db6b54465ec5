-- What the code stores are the bytes of the state that it means, because the bytes that it leaves alone are 0 already and the numbers that it
-- stores have the state's bytes as their digits.
use Rattle.std.specs.Prelude.{None, Option, Some}
use mathlib.Core.Path.{◌≡◌, refl, sym, ap, ◌∙◌}
use mathlib.Core.Bool.{false}
use mathlib.Core.List.{List, [], ◌∷◌}
use Prim.Native.Nat.{ℕ, ◌+◌, ◌*◌, ◌/◌, ◌%◌, ◌≤◌, ◌<◌}
use native.Mathlib.Omega.{arith}
use lib.ListN.{length, get_or, set}
use lib.Dec.{eqb}
use Rattle.laws.specs.Choice.{pick}
use Rattle.octets.specs.quick.Words.{put_word}
use Rattle.decoder.specs.declared.Decoder.{Decoder}
use Rattle.decoder.specs.State.{limit, cleared}
use Rattle.decoder.specs.Step.{holding}
use Rattle.stream.specs.State.{encoded, status_flag, status_byte}
use Rattle.stream.specs.quick.Bytes.{status_in, held_number, put_middle, put_waiting, open_state}
use Rattle.stream.specs.quick.Going.{FrontFree, MiddleFree}
use Rattle.stream.proofs.StateBytes.{fourteen}
use Rattle.stream.proofs.Tests.{limit_small}

-- a closed state with this status, so much pending and these data bytes
abbrev pub closed_of : Option ℕ → ℕ → ℕ → ℕ → Decoder
closed_of v h a z = record { in_sysex = false; len = 0; status = v; have = h; data0 = a; data1 = z }

-- the closed state that a number of four bytes says, with these data bytes
abbrev pub closed_by : ℕ → ℕ → ℕ → Decoder
closed_by m a z =
    record { in_sysex = false; len = 0; status = pick (eqb m 0) None (Some (status_in m)); have = m / 16_777_216; data0 = a; data1 = z }

-- bytes with no frame
front_known : (l : List ℕ) → FrontFree l
    → l ≡ 0 ∷ 0 ∷ 0 ∷ 0 ∷ 0 ∷ 0 ∷ 0 ∷ 0 ∷ get_or l 8 0 ∷ get_or l 9 0 ∷ get_or l 10 0 ∷ get_or l 11 0 ∷ get_or l 12 0 ∷ get_or l 13 0 ∷ []
front_known l free = sym free.1 ∙ ap (λ (x : List ℕ). put_word 0 x 0) (fourteen l free.0)

-- bytes with nothing waiting
middle_known : (l : List ℕ) → MiddleFree l
    → l ≡ get_or l 0 0 ∷ get_or l 1 0 ∷ get_or l 2 0 ∷ get_or l 3 0 ∷ get_or l 4 0 ∷ get_or l 5 0 ∷ get_or l 6 0 ∷ get_or l 7 0
    ∷ 0 ∷ 0 ∷ 0 ∷ 0 ∷ get_or l 12 0 ∷ get_or l 13 0 ∷ []
middle_known l free = sym free.1 ∙ ap (put_middle 0) (fourteen l free.0)

status_flag_small : (v : Option ℕ) → status_flag v < 256
status_flag_small None = omega arith
status_flag_small (Some b) = omega arith

-- a number's four bytes
four_stored : (m f b h : ℕ) → f < 256 → b < 256 → h < 256 → m ≡ 256 * f + 65_536 * b + 16_777_216 * h
    → (m % 256 ≡ 0) × (m / 0x100 % 256 ≡ f) × (m / 0x1_0000 % 256 ≡ b) × (m / 0x100_0000 % 256 ≡ h)
four_stored m f b h p q r e = (omega arith, omega arith, omega arith, omega arith)

-- what waits outside a frame, with both data bytes
module _ (l : List ℕ) (free : FrontFree l) (v : Option ℕ) (h a m : ℕ) (byte : status_byte v < 256) (few : h < 256)
    (m-is : m ≡ 256 * status_flag v + 65_536 * status_byte v + 16_777_216 * h) where
  digits : (m % 256 ≡ 0) × (m / 0x100 % 256 ≡ status_flag v) × (m / 0x1_0000 % 256 ≡ status_byte v) × (m / 0x100_0000 % 256 ≡ h)
  digits = four_stored m (status_flag v) (status_byte v) h (status_flag_small v) byte few m-is

  pub waiting_stored : put_waiting m a l ≡ encoded (closed_of v h a (get_or l 13 0))
  waiting_stored = ap (put_waiting m a) (front_known l free) ∙ rw (digits.0, digits.1, digits.2, digits.3) refl

  pub both_stored : (z : ℕ) → put_waiting m a (set l 13 z) ≡ encoded (closed_of v h a z)
  both_stored z = ap (λ (x : List ℕ). put_waiting m a (set x 13 z)) (front_known l free) ∙ rw (digits.0, digits.1, digits.2, digits.3) refl

-- what is stored in a frame: its n bytes, no frame, or no frame and a status
module _ (l : List ℕ) (free : MiddleFree l) where
  pub open_stored : (n : ℕ) → n ≤ limit → put_word (1 + 256 * n) l 0 ≡ encoded (open_state n l)
  open_stored n h = ap (λ (x : List ℕ). put_word (1 + 256 * n) x 0) (middle_known l free) ∙ rw (d0, d1, d2, d3, d4, d5, d6, d7, top) refl
    where
      small : n < 65_536
      small = omega (arith, h, limit_small)

      d0 : (1 + 256 * n) % 256 ≡ 1
      d0 = omega arith

      d1 : (1 + 256 * n) / 0x100 % 256 ≡ n % 256
      d1 = omega arith

      d2 : (1 + 256 * n) / 0x1_0000 % 256 ≡ n / 0x100 % 256
      d2 = omega arith

      d3 : (1 + 256 * n) / 0x100_0000 % 256 ≡ n / 0x1_0000 % 256
      d3 = omega arith

      d4 : (1 + 256 * n) / 0x1_0000_0000 % 256 ≡ n / 0x100_0000 % 256
      d4 = omega arith

      d5 : (1 + 256 * n) / 0x100_0000_0000 % 256 ≡ n / 0x1_0000_0000 % 256
      d5 = omega arith

      d6 : (1 + 256 * n) / 0x1_0000_0000_0000 % 256 ≡ n / 0x100_0000_0000 % 256
      d6 = omega arith

      d7 : (1 + 256 * n) / 0x100_0000_0000_0000 % 256 ≡ n / 0x1_0000_0000_0000 % 256
      d7 = omega arith

      top : n / 0x100_0000_0000_0000 % 256 ≡ 0
      top = omega (arith, small)

  -- 0 stored as the first word leaves no frame
  pub closed_stored : (n : ℕ) → put_word 0 l 0 ≡ encoded (cleared (open_state n l))
  closed_stored n = ap (λ (x : List ℕ). put_word 0 x 0) (middle_known l free)

  -- 0 and a status's number leave no frame, and the status
  pub status_stored : (n b : ℕ) → b < 256 → put_middle (held_number b) (put_word 0 l 0) ≡ encoded (holding (open_state n l) b)
  status_stored n b small =
      let d = four_stored (held_number b) 1 b 0 (omega arith) small (omega arith) (omega arith) in
      ap (λ (x : List ℕ). put_middle (held_number b) (put_word 0 x 0)) (middle_known l free) ∙ rw (d.0, d.1, d.2, d.3) refl

-- F0 outside a frame leaves bytes with nothing waiting
pub waiting_cleared : (l : List ℕ) (a : ℕ) → length l ≡ 14 → put_middle 0 (put_waiting 0 a l) ≡ put_waiting 0 a l
waiting_cleared l a long = ap (λ (x : List ℕ). put_middle 0 (put_waiting 0 a x)) (fourteen l long) ∙ sym (ap (put_waiting 0 a) (fourteen l long))
