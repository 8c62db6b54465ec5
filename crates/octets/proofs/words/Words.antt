-- A word's bytes are read back from it, so a word that was read and is stored is its eight bytes stored.
use mathlib.Core.Path.{◌≡◌, ap, sym, ◌∙◌}
use mathlib.Core.List.{List, [], ◌∷◌, ◌++◌, append_assoc}
use Prim.Native.Nat.{ℕ, zero, suc, ◌+◌, ◌/◌, ◌%◌, ◌≤◌, ◌<◌}
use native.Mathlib.Numerals.{unary_clauses}
use native.Mathlib.Omega.{arith}
use lib.ListN.{length, get_or, take, drop, set}
use lib.Seq.{sets, sets-eq, drop-drop}
use Rattle.std.specs.Int.{w64, to_le_bytes}
use borrow.Rule.Slice.PartMut.{put_mid}
use Rattle.laws.specs.Tabulate.{tab}
use Rattle.laws.specs.Window.{window}
use Rattle.octets.specs.quick.Words.{word, word_at, put_word, octet}

-- each of the eight bytes that make a word is read back from it
module _ (a b c d e f g h : ℕ)
    (a₁ : a < 256) (b₁ : b < 256) (c₁ : c < 256) (d₁ : d < 256) (e₁ : e < 256) (f₁ : f < 256) (g₁ : g < 256) (h₁ : h < 256) where
  pub digit0 : word a b c d e f g h % 256 ≡ a
  digit0 = omega arith

  pub digit1 : word a b c d e f g h / 0x100 % 256 ≡ b
  digit1 = omega arith

  pub digit2 : word a b c d e f g h / 0x1_0000 % 256 ≡ c
  digit2 = omega arith

  pub digit3 : word a b c d e f g h / 0x100_0000 % 256 ≡ d
  digit3 = omega arith

  pub digit4 : word a b c d e f g h / 0x1_0000_0000 % 256 ≡ e
  digit4 = omega arith

  pub digit5 : word a b c d e f g h / 0x100_0000_0000 % 256 ≡ f
  digit5 = omega arith

  pub digit6 : word a b c d e f g h / 0x1_0000_0000_0000 % 256 ≡ g
  digit6 = omega arith

  pub digit7 : word a b c d e f g h / 0x100_0000_0000_0000 % 256 ≡ h
  digit7 = omega arith

-- what holds of any eight bytes holds of those from a place on
of_bytes : (l : List ℕ) (at : ℕ) → ((k : ℕ) → get_or l k 0 < 256) → {P : ℕ → ℕ → ℕ → ℕ → ℕ → ℕ → ℕ → ℕ → Type 0}
    → ((a b c d e f g h : ℕ) → a < 256 → b < 256 → c < 256 → d < 256 → e < 256 → f < 256 → g < 256 → h < 256 → P a b c d e f g h)
    → P (get_or l at 0) (get_or l (at + 1) 0) (get_or l (at + 2) 0) (get_or l (at + 3) 0) (get_or l (at + 4) 0) (get_or l (at + 5) 0) (get_or l (at + 6) 0) (get_or l (at + 7) 0)
of_bytes l at bytes law = law _ _ _ _ _ _ _ _ (bytes at) (bytes (at + 1)) (bytes (at + 2)) (bytes (at + 3)) (bytes (at + 4)) (bytes (at + 5)) (bytes (at + 6)) (bytes (at + 7))

-- a word that was read from one list and is stored in another stores its eight bytes there
pub word_copied : (from l : List ℕ) (i j w : ℕ) → ((k : ℕ) → get_or from k 0 < 256) → w ≡ word_at from i
    → put_word w l j ≡ set
    (set
    (set (set (set (set (set (set l j (get_or from i 0)) (j + 1) (get_or from (i + 1) 0)) (j + 2) (get_or from (i + 2) 0)) (j + 3) (get_or from (i + 3) 0))
    (j + 4) (get_or from (i + 4) 0)) (j + 5) (get_or from (i + 5) 0))
    (j + 6) (get_or from (i + 6) 0))
    (j + 7) (get_or from (i + 7) 0)
word_copied from l i j w bytes e =
    ap (λ (x : ℕ). put_word x l j) e
    ∙ rw (
      of_bytes from i bytes digit0,
      of_bytes from i bytes digit1,
      of_bytes from i bytes digit2,
      of_bytes from i bytes digit3,
      of_bytes from i bytes digit4,
      of_bytes from i bytes digit5,
      of_bytes from i bytes digit6,
      of_bytes from i bytes digit7,
    )

-- byte k of a word that was read from a place is the byte k behind that place
pub octet_read : (l : List ℕ) (at : ℕ) → ((k : ℕ) → get_or l k 0 < 256) → (k : ℕ) → k < 8 → octet (word_at l at) k ≡ get_or l (at + k) 0
octet_read l at bytes zero h =
    let whole : word_at l at / 1 ≡ word_at l at = omega arith in
    let place : at ≡ at + 0 = omega arith in
    ap (λ (w : ℕ). w % 256) whole ∙ of_bytes l at bytes digit0 ∙ ap (λ (i : ℕ). get_or l i 0) place
octet_read l at bytes (suc zero) h = of_bytes l at bytes digit1
octet_read l at bytes (suc (suc zero)) h = of_bytes l at bytes digit2
octet_read l at bytes (suc (suc (suc zero))) h = of_bytes l at bytes digit3
octet_read l at bytes (suc (suc (suc (suc zero)))) h = of_bytes l at bytes digit4
octet_read l at bytes (suc (suc (suc (suc (suc zero))))) h = of_bytes l at bytes digit5
octet_read l at bytes (suc (suc (suc (suc (suc (suc zero)))))) h = of_bytes l at bytes digit6
octet_read l at bytes (suc (suc (suc (suc (suc (suc (suc zero))))))) h = of_bytes l at bytes digit7
octet_read l at bytes (suc (suc (suc (suc (suc (suc (suc (suc k)))))))) h = absurd (omega arith)

-- eight stores in a row, from a place on
in_a_row : (l : List ℕ) (at a b c d e f g h : ℕ)
    → set (set (set (set (set (set (set (set l at a) (at + 1) b) (at + 2) c) (at + 3) d) (at + 4) e) (at + 5) f) (at + 6) g) (at + 7) h
    ≡ sets l at (a ∷ b ∷ c ∷ d ∷ e ∷ f ∷ g ∷ h ∷ [])
in_a_row l at a b c d e f g h = simp unary_clauses

-- a stretch in the place of as many elements is that many stores
mid_stored : (l new : List ℕ) (at k : ℕ) → k ≡ length new → at + length new ≤ length l → put_mid at k l new ≡ sets l at new
mid_stored l new at k e h =
    ap (λ (behind : List ℕ). take at l ++ (new ++ behind)) (drop-drop k at l ∙ ap (λ (m : ℕ). drop (at + m) l) e)
    ∙ sym (sets-eq new l at h ∙ append_assoc (take at l) new (drop (at + length new) l))

-- the library's bytes of a number, in the place of eight, are the number stored
pub word_put : (w : ℕ) (l new : List ℕ) (at k : ℕ) → k ≡ 8 → at + 8 ≤ length l → new ≡ to_le_bytes w64 w → put_mid at k l new ≡ put_word w l at
word_put w l new at k e h n =
    let eight : length new ≡ 8 = ap length n in
    mid_stored l new at k (e ∙ sym eight) (omega (arith, h, eight)) ∙ ap (sets l at) n ∙ sym (in_a_row l at _ _ _ _ _ _ _ _)

-- a word stored replaces eight bytes by its own
pub word_window : (w : ℕ) (l : List ℕ) (at : ℕ) → at + 8 ≤ length l → put_word w l at ≡ window l at (tab (octet w) 8)
word_window w l at h =
    let whole : w ≡ w / 1 = omega arith in
    ap
    (λ (x : ℕ). set
    (set (set (set (set (set (set (set l at (x % 256)) (at + 1) (octet w 1)) (at + 2) (octet w 2)) (at + 3) (octet w 3)) (at + 4) (octet w 4))
    (at + 5) (octet w 5)) (at + 6) (octet w 6))
    (at + 7) (octet w 7))
    whole
    ∙ in_a_row l at (octet w 0) (octet w 1) (octet w 2) (octet w 3) (octet w 4) (octet w 5) (octet w 6) (octet w 7)
    ∙ sets-eq (tab (octet w) 8) l at h
