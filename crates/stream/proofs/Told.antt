-- The numbers of a report can be had from its bytes, because each message keeps its data bytes as they are, and a bend and a position join them.
use Rattle.std.specs.Prelude.{Option}
use mathlib.Core.Path.{◌≡◌, refl, sym, subst}
use mathlib.Core.Bool.{Bool, true, false, ◌&&◌, not}
use Prim.Native.Nat.{ℕ, ◌+◌, ◌*◌, ◌/◌, ◌≤◌, ◌<◌}
use native.Mathlib.Omega.{arith}
use lib.Dec.{ltb, leb, eqb}
use borrow.Author.Tests.{eqb-true, eqb-false, ltb-true, ltb-false, leb-true}
use Rattle.laws.proofs.Tests.{both, split, true_is_not_false}
use Rattle.wire.specs.Status.{data_length}
use Rattle.wire.proofs.DataLength.{two_low, one_middle, two_high}
use Rattle.wire.specs.RealTime.{realtime_of}
use Rattle.decoder.specs.declared.Class.TheVariants as k
use Rattle.decoder.specs.Step.{message_report, realtime_report}
use Rattle.decoder.specs.Call.{some_report}
use Rattle.decoder.proofs.Classes.{Range}
use Rattle.decoder.proofs.SoundKept.{takes_data_held}
use Rattle.stream.specs.declared.FedAnswer.{FedAnswer}
use Rattle.stream.specs.Reports.{numbers_of}
use Rattle.stream.specs.quick.Bytes.{is_realtime}
use Rattle.stream.proofs.Statuses.{two_of_f2, waits_for_data, position}
use Rattle.decoder.specs.declared.Report.{Report}

-- a report, and its numbers behind n bytes
pub record Told (o : Option Report) (n : ℕ) (r : FedAnswer) : Type 0 where
  pub some : some_report o ≡ true
  pub numbers : r ≡ numbers_of n false o

abbrev pub from_numbers : ℕ → ℕ → ℕ → ℕ → ℕ → FedAnswer
from_numbers n kind v a b = record { number = 0; used = n; interrupted = 0; kind = kind; status = v; first = a; second = b }

same_numbers : (n kind v v' a a' b b' : ℕ) → v ≡ v' → a ≡ a' → b ≡ b' → from_numbers n kind v a b ≡ from_numbers n kind v' a' b'
same_numbers n kind v v' a a' b b' p q r = rw (p, q, r)

-- the numbers of a channel message, by its status byte's high four bits
module _ (v a b n : ℕ) (low : a < 0x80) (low₂ : b < 0x80) where
  abbrev Plain : Type 0
  Plain = Told (message_report v a b) n (from_numbers n 1 v a b)

  abbrev Single : Type 0
  Single = Told (message_report v a b) n (from_numbers n 1 v a 0)

  told_8 : v / 16 ≡ 0x8 → Plain
  unfolding message_report
  told_8 e = record { some = rw e; numbers = rw e (same_numbers n 1 v _ a _ b _ (omega arith) (omega arith) (omega arith)) }

  told_9 : v / 16 ≡ 0x9 → Plain
  unfolding message_report
  told_9 e = record { some = rw e; numbers = rw e (same_numbers n 1 v _ a _ b _ (omega arith) (omega arith) (omega arith)) }

  told_A : v / 16 ≡ 0xA → Plain
  unfolding message_report
  told_A e = record { some = rw e; numbers = rw e (same_numbers n 1 v _ a _ b _ (omega arith) (omega arith) (omega arith)) }

  told_B : v / 16 ≡ 0xB → Plain
  unfolding message_report
  told_B e = record { some = rw e; numbers = rw e (same_numbers n 1 v _ a _ b _ (omega arith) (omega arith) (omega arith)) }

  told_C : v / 16 ≡ 0xC → Single
  unfolding message_report
  told_C e = record { some = rw e; numbers = rw e (same_numbers n 1 v _ a _ 0 _ (omega arith) (omega arith) refl) }

  told_D : v / 16 ≡ 0xD → Single
  unfolding message_report
  told_D e = record { some = rw e; numbers = rw e (same_numbers n 1 v _ a _ 0 _ (omega arith) (omega arith) refl) }

  told_E : v / 16 ≡ 0xE → Told (message_report v a b) n (from_numbers n 1 v (a + 128 * b) 0)
  unfolding message_report
  told_E e = record { some = rw e; numbers = rw e (same_numbers n 1 v _ (a + 128 * b) _ 0 _ (omega arith) (omega arith) refl) }

  -- note off, note on, key pressure, control change
  pub plain_told : 0x80 ≤ v → v < 0xC0 → Plain
  plain_told l h =
      split (eqb (v / 16) 0x8) (λ t. told_8 (eqb-true _ _ t))
      (λ n8. split (eqb (v / 16) 0x9) (λ t. told_9 (eqb-true _ _ t))
      (λ n9. split (eqb (v / 16) 0xA) (λ t. told_A (eqb-true _ _ t)) (λ nA. told_B (left (eqb-false _ _ n8) (eqb-false _ _ n9) (eqb-false _ _ nA)))))
    where
      left : (v / 16 ≡ 0x8 → ⊥) → (v / 16 ≡ 0x9 → ⊥) → (v / 16 ≡ 0xA → ⊥) → v / 16 ≡ 0xB
      left n8 n9 nA = omega arith

  -- program change, channel pressure
  single_told : 0xC0 ≤ v → v < 0xE0 → Single
  single_told l h = split (ltb v 0xD0) (λ t. let s = ltb-true v 0xD0 t in told_C (omega arith)) (λ t. let s = ltb-false v 0xD0 t in told_D (omega arith))

  -- pitch bend
  pub bend_told : 0xE0 ≤ v → v < 0xF0 → Told (message_report v a b) n (from_numbers n 1 v (a + 128 * b) 0)
  bend_told l h = told_E (omega arith)

-- the system common messages with data
module _ (a b n : ℕ) (low : a < 0x80) (low₂ : b < 0x80) where
  told_F1 : Told (message_report 0xF1 a b) n (from_numbers n 3 0xF1 a 0)
  unfolding message_report
  told_F1 = record { some = refl; numbers = same_numbers n 3 0xF1 _ a _ 0 _ refl (omega arith) refl }

  told_F2 : Told (message_report 0xF2 a b) n (from_numbers n 3 0xF2 (a + 128 * b) 0)
  unfolding message_report
  told_F2 = record { some = refl; numbers = same_numbers n 3 0xF2 _ (a + 128 * b) _ 0 _ refl (omega arith) refl }

  told_F3 : Told (message_report 0xF3 a b) n (from_numbers n 3 0xF3 a 0)
  unfolding message_report
  told_F3 = record { some = refl; numbers = same_numbers n 3 0xF3 _ a _ 0 _ refl (omega arith) refl }

-- a message of one data byte
pub one_channel : (v a n : ℕ) → data_length v ≡ 1 → v < 0xF0 → a < 0x80 → Told (message_report v a 0) n (from_numbers n 1 v a 0)
one_channel v a n e h low =
    let r = waits_for_data v 1 e (omega arith) in
    single_told v a 0 n low (omega arith)
    (split (ltb v 0xC0) (λ t. absurd (omega (arith, e, two_low v r.0 (ltb-true v 0xC0 t)))) (λ t. ltb-false v 0xC0 t))
    (split (ltb v 0xE0) (λ t. ltb-true v 0xE0 t) (λ t. absurd (omega (arith, e, two_high v (ltb-false v 0xE0 t) h))))

pub one_common : (v a n : ℕ) → data_length v ≡ 1 → 0xF0 ≤ v → a < 0x80 → Told (message_report v a 0) n (from_numbers n 3 v a 0)
one_common v a n e h low =
    let r = waits_for_data v 1 e (omega arith) in
    split (eqb v 0xF1) (λ t. at 0xF1 (eqb-true _ _ t) (told_F1 a 0 n low (omega arith)))
    (λ n1. split (eqb v 0xF2) (λ t. absurd (twice (eqb-true _ _ t)))
    (λ n2. at 0xF3 (last r.1 r.2 (eqb-false _ _ n1) (eqb-false _ _ n2)) (told_F3 a 0 n low (omega arith))))
  where
    at : (x : ℕ) → v ≡ x → Told (message_report x a 0) n (from_numbers n 3 x a 0) → Told (message_report v a 0) n (from_numbers n 3 v a 0)
    at x q t = subst (λ (y : ℕ). Told (message_report y a 0) n (from_numbers n 3 y a 0)) (sym q) t

    twice : v ≡ 0xF2 → ⊥
    twice q = omega (arith, e, subst (λ (y : ℕ). data_length y ≡ 2) (sym q) two_of_f2)

    last : v < 0xF4 → (v ≡ 0xF0 → ⊥) → (v ≡ 0xF1 → ⊥) → (v ≡ 0xF2 → ⊥) → v ≡ 0xF3
    last s p q w = omega arith

-- a message of two data bytes
pub two_plain : (v a b n : ℕ) → data_length v ≡ 2 → v < 0xC0 → a < 0x80 → b < 0x80 → Told (message_report v a b) n (from_numbers n 1 v a b)
two_plain v a b n e h low low₂ = plain_told v a b n low low₂ (waits_for_data v 2 e (omega arith)).0 h

pub two_bend : (v a b n : ℕ) → data_length v ≡ 2 → 0xC0 ≤ v → v < 0xF0 → a < 0x80 → b < 0x80 → Told (message_report v a b) n (from_numbers n 1 v (a + 128 * b) 0)
two_bend v a b n e l h low low₂ =
    bend_told v a b n low low₂ (split (ltb v 0xE0) (λ t. absurd (omega (arith, e, one_middle v l (ltb-true v 0xE0 t)))) (λ t. ltb-false v 0xE0 t)) h

pub two_common : (v a b n : ℕ) → data_length v ≡ 2 → 0xF0 ≤ v → a < 0x80 → b < 0x80 → Told (message_report v a b) n (from_numbers n 3 v (a + 128 * b) 0)
two_common v a b n e h low low₂ =
    subst (λ (y : ℕ). Told (message_report y a b) n (from_numbers n 3 y (a + 128 * b) 0)) (sym (position v e h)) (told_F2 a b n low low₂)

-- a status that takes data has a report, whatever the data bytes
pub message_some : (v a b : ℕ) → 0 < data_length v → a < 0x80 → b < 0x80 → some_report (message_report v a b) ≡ true
message_some v a b h low low₂ =
    let r = takes_data_held v h in
    split (ltb v 0xC0) (λ t. (plain_told v a b 0 low low₂ r.0 (ltb-true v 0xC0 t)).some)
    (λ c. split (ltb v 0xE0) (λ t. (single_told v a b 0 low low₂ (ltb-false v 0xC0 c) (ltb-true v 0xE0 t)).some)
    (λ d. split (ltb v 0xF0) (λ t. (bend_told v a b 0 low low₂ (ltb-false v 0xE0 d) (ltb-true v 0xF0 t)).some)
    (λ e. common r (ltb-false v 0xF0 e))))
  where
    at : (x : ℕ) → v ≡ x → some_report (message_report x a b) ≡ true → some_report (message_report v a b) ≡ true
    at x q t = subst (λ (y : ℕ). some_report (message_report y a b) ≡ true) (sym q) t

    last : v < 0xF4 → (v ≡ 0xF0 → ⊥) → (v ≡ 0xF1 → ⊥) → (v ≡ 0xF2 → ⊥) → 0xF0 ≤ v → v ≡ 0xF3
    last s p q w l = omega arith

    common : Range k.Held v → 0xF0 ≤ v → some_report (message_report v a b) ≡ true
    common r l =
        split (eqb v 0xF1) (λ t. at 0xF1 (eqb-true _ _ t) (told_F1 a b 0 low low₂).some)
        (λ n1. split (eqb v 0xF2) (λ t. at 0xF2 (eqb-true _ _ t) (told_F2 a b 0 low low₂).some)
        (λ n2. at 0xF3 (last r.1 r.2 (eqb-false _ _ n1) (eqb-false _ _ n2) l) (told_F3 a b 0 low low₂).some))

-- a real-time message
pub realtime_told : (b n : ℕ) → b < 256 → is_realtime b ≡ true → Told (realtime_report (realtime_of b)) n (from_numbers n 4 b 0 0)
realtime_told b n small h =
    let e = both (leb 0xF8 b) (not (eqb b 0xF9) && not (eqb b 0xFD)) h in
    let f = both (not (eqb b 0xF9)) (not (eqb b 0xFD)) e.1 in
    go (leb-true 0xF8 b e.0) (eqb-false b 0xF9 (off (eqb b 0xF9) f.0)) (eqb-false b 0xFD (off (eqb b 0xFD) f.1))
  where
    off : (t : Bool) → not t ≡ true → t ≡ false
    off true q = absurd (true_is_not_false (sym q))
    off false q = refl

    at : (x : ℕ) → b ≡ x → Told (realtime_report (realtime_of x)) n (from_numbers n 4 x 0 0) → Told (realtime_report (realtime_of b)) n (from_numbers n 4 b 0 0)
    at x e t = subst (λ (y : ℕ). Told (realtime_report (realtime_of y)) n (from_numbers n 4 y 0 0)) (sym e) t

    one : 0xF8 ≤ b → (b ≡ 0xF8 → ⊥) → (b ≡ 0xF9 → ⊥) → 0xFA ≤ b
    one l m k = omega arith

    two : 0xFA ≤ b → (b ≡ 0xFA → ⊥) → (b ≡ 0xFB → ⊥) → 0xFC ≤ b
    two l m k = omega arith

    three : 0xFC ≤ b → (b ≡ 0xFC → ⊥) → (b ≡ 0xFD → ⊥) → 0xFE ≤ b
    three l m k = omega arith

    four : 0xFE ≤ b → (b ≡ 0xFE → ⊥) → b ≡ 0xFF
    four l m = omega arith

    last : 0xF8 ≤ b → (b ≡ 0xF9 → ⊥) → (b ≡ 0xFD → ⊥)
        → (b ≡ 0xF8 → ⊥) → (b ≡ 0xFA → ⊥) → (b ≡ 0xFB → ⊥) → (b ≡ 0xFC → ⊥) → (b ≡ 0xFE → ⊥) → b ≡ 0xFF
    last l p q n8 nA nB nC nE = four (three (two (one l n8 p) nA nB) nC q) nE

    go : 0xF8 ≤ b → (b ≡ 0xF9 → ⊥) → (b ≡ 0xFD → ⊥) → Told (realtime_report (realtime_of b)) n (from_numbers n 4 b 0 0)
    go l p q =
        split (eqb b 0xF8) (λ t. at 0xF8 (eqb-true _ _ t) (record { some = refl; numbers = refl }))
        (λ n8. split (eqb b 0xFA) (λ t. at 0xFA (eqb-true _ _ t) (record { some = refl; numbers = refl }))
        (λ nA. split (eqb b 0xFB) (λ t. at 0xFB (eqb-true _ _ t) (record { some = refl; numbers = refl }))
        (λ nB. split (eqb b 0xFC) (λ t. at 0xFC (eqb-true _ _ t) (record { some = refl; numbers = refl }))
        (λ nC. split (eqb b 0xFE) (λ t. at 0xFE (eqb-true _ _ t) (record { some = refl; numbers = refl }))
        (λ nE. at 0xFF (last l p q (eqb-false _ _ n8) (eqb-false _ _ nA) (eqb-false _ _ nB) (eqb-false _ _ nC) (eqb-false _ _ nE)) (record { some = refl; numbers = refl }))))))
