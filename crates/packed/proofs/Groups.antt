-- Group by group the loops fill the buffer with the bytes of the definition, because place 8g + r of a packed run lies in group g
-- at r, and place 7g + i of the raw bytes in group g at i.
use mathlib.Core.Path.{◌≡◌, refl, ap, ap₂, sym, ◌∙◌}
use mathlib.Core.List.{List, ◌∷◌}
use Prim.Native.Nat.{ℕ, zero, suc, ◌+◌, ◌*◌, ◌/◌, ◌%◌, ◌^◌, ◌≤◌, ◌<◌}
use native.Mathlib.Nat.{pow-suc, mul-suc}
use native.Mathlib.Numerals.{add-one}
use native.Mathlib.Omega.{arith}
use lib.ListN.{length, get_or, set}
use Rattle.laws.specs.Tabulate.{tab}
use Rattle.laws.specs.Window.{window}
use Rattle.laws.proofs.Tabulate.{length_tab, tab_more}
use Rattle.laws.proofs.Window.{window_none, window_more, window_first, window_group}
use Rattle.packed.specs.Packed.{tops, group_byte, packed_byte, raw_byte, unpacked_byte}

-- one bit more below the next power
pub bit_more : (high x i : ℕ) → high < 2 ^ i → x < 2 → high + x * 2 ^ i < 2 ^ (i + 1)
bit_more high zero i h b = rw (add-one i, pow-suc) (omega arith)
bit_more high (suc zero) i h b = rw (add-one i, pow-suc) (omega arith)
bit_more high (suc (suc x)) i h b = absurd (omega arith)

-- a list with a stretch replaced by n bytes of f, and one byte more stored behind them
pub stored_more : (f : ℕ → ℕ) (out₀ : List ℕ) (p n : ℕ) → p + n < length out₀ → set (window out₀ p (tab f n)) (p + n) (f n) ≡ window out₀ p (tab f (n + 1))
stored_more f out₀ p n room =
    window_more out₀ p (tab f n) (f n) (p + n) (ap (λ (k : ℕ). p + k) (sym (length_tab f n))) room
    ∙ ap (λ (xs : List ℕ). window out₀ p xs) (sym (tab_more f n))

-- what holds while a group is packed: i raw bytes are done
pub record Packing (raw : List ℕ) (from : ℕ) (out₀ : List ℕ) (at : ℕ) (out : List ℕ) (high i : ℕ) : Type 0 where
  pub bits : high ≡ tops raw from i
  pub small : high < 2 ^ i
  pub filled : out ≡ window out₀ (at + 1) (tab (λ k. get_or raw (from + k) 0 % 128) i)

pub packing_none : (raw : List ℕ) (from : ℕ) (out : List ℕ) (at : ℕ) → Packing raw from out at out 0 0
unfolding tops
packing_none raw from out at = record { bits = refl; small = omega arith; filled = sym (window_none out (at + 1)) }

pub packing_more : (raw : List ℕ) (from : ℕ) (out₀ : List ℕ) (at : ℕ) (out : List ℕ) (high i b low high' : ℕ)
    → Packing raw from out₀ at out high i → at + 8 ≤ length out₀ → i < 7 → b ≡ get_or raw (from + i) 0 → b < 256 → low ≡ b % 128
    → high' ≡ high + b / 128 * 2 ^ i → Packing raw from out₀ at (set out (at + 1 + i) low) high' (i + 1)
unfolding tops
packing_more raw from out₀ at out high i b low high' p room h e byte l k =
    record {
      bits = rw (k, add-one i, ← p.bits, e);
      small = rw k (bit_more high (b / 128) i p.small (omega arith));
      filled =
          ap₂ (λ (o : List ℕ) (x : ℕ). set o (at + 1 + i) x) p.filled (l ∙ ap (λ (x : ℕ). x % 128) e)
          ∙ stored_more (λ n. get_or raw (from + n) 0 % 128) out₀ (at + 1) i (omega arith);
    }

-- the top bits stored last finish the group
pub packing_done : (raw : List ℕ) (from : ℕ) (out₀ : List ℕ) (at : ℕ) (out : List ℕ) (high i : ℕ)
    → Packing raw from out₀ at out high i → at + 8 ≤ length out₀ → i ≡ 7 → set out at high ≡ window out₀ at (tab (group_byte raw from) 8)
packing_done raw from out₀ at out high i p room seven =
    ap (λ (l : List ℕ). set l at high) p.filled
    ∙ window_first out₀ at (tab (λ k. get_or raw (from + k) 0 % 128) i) high (omega arith)
    ∙ ap (λ (x : ℕ). window out₀ at (x ∷ tab (λ k. get_or raw (from + k) 0 % 128) i)) p.bits
    ∙ ap (λ (n : ℕ). window out₀ at (tops raw from n ∷ tab (λ k. get_or raw (from + k) 0 % 128) n)) seven

-- seven bytes taken out of their place make the group that they make there
pub group_taken : (raw bytes : List ℕ) (p : ℕ) → ((i : ℕ) → i < 7 → get_or bytes i 0 ≡ get_or raw (p + i) 0)
    → tab (group_byte bytes 0) 8 ≡ tab (group_byte raw p) 8
unfolding tops
group_taken raw bytes p same =
    rw (
      same 0 (omega arith),
      same 1 (omega arith),
      same 2 (omega arith),
      same 3 (omega arith),
      same 4 (omega arith),
      same 5 (omega arith),
      same 6 (omega arith),
    ) refl

-- a further group of a packed run
pub packed_more : (raw out₀ : List ℕ) (g : ℕ) → 8 * g + 8 ≤ length out₀
    → window (window out₀ 0 (tab (packed_byte raw) (8 * g))) (8 * g) (tab (group_byte raw (7 * g)) 8)
    ≡ window out₀ 0 (tab (packed_byte raw) (8 * g + 8))
packed_more raw out₀ g room = window_group (packed_byte raw) (group_byte raw (7 * g)) out₀ (8 * g) 8 agree room
  where
    agree : (r : ℕ) → r < 8 → packed_byte raw (8 * g + r) ≡ group_byte raw (7 * g) r
    agree r h =
        let group : 7 * ((8 * g + r) / 8) ≡ 7 * g = omega arith in
        let place : (8 * g + r) % 8 ≡ r = omega arith in
        ap₂ (group_byte raw) group place

-- a further group of raw bytes, n of them
pub unpacked_more : (run out₀ : List ℕ) (g n : ℕ) → n ≤ 7 → 7 * g + n ≤ length out₀
    → window (window out₀ 0 (tab (unpacked_byte run) (7 * g))) (7 * g) (tab (raw_byte run (8 * g)) n)
    ≡ window out₀ 0 (tab (unpacked_byte run) (7 * g + n))
unpacked_more run out₀ g n most room =
    window_group (unpacked_byte run) (raw_byte run (8 * g)) out₀ (7 * g) n agree room
  where
    agree : (i : ℕ) → i < n → unpacked_byte run (7 * g + i) ≡ raw_byte run (8 * g) i
    agree i h =
        let group : 8 * ((7 * g + i) / 7) ≡ 8 * g = omega arith in
        let place : (7 * g + i) % 7 ≡ i = omega arith in
        ap₂ (raw_byte run) group place

-- what g groups fill at the front, so many bytes of f for each, with one group more
pub filled_more : (f : ℕ → ℕ) (size : ℕ) (out₀ out later : List ℕ) (g : ℕ) (h : ℕ → ℕ) → out ≡ window out₀ 0 (tab f (size * g))
    → later ≡ window out (size * g) (tab h size)
    → window (window out₀ 0 (tab f (size * g))) (size * g) (tab h size) ≡ window out₀ 0 (tab f (size * g + size))
    → later ≡ window out₀ 0 (tab f (size * (g + 1)))
filled_more f size out₀ out later g h k w e =
    w ∙ ap (λ (o : List ℕ). window o (size * g) (tab h size)) k ∙ e
    ∙ ap (λ (n : ℕ). window out₀ 0 (tab f n)) (sym (mul-suc size g) ∙ ap (λ (n : ℕ). size * n) (sym (add-one g)))
