-- A status that takes data is one of 80 to EF and F1 to F3, because no other has a data length above 0; and from F0 on F2 alone takes two,
-- because F1 and F3 take one.
use mathlib.Core.Path.{◌≡◌, refl, sym, subst}
use Prim.Native.Nat.{ℕ, ◌≤◌, ◌<◌}
use native.Mathlib.Omega.{arith}
use Rattle.wire.specs.Status.{data_length}
use Rattle.decoder.specs.declared.Class.TheVariants as k
use Rattle.decoder.proofs.Classes.{Range}
use Rattle.decoder.proofs.SoundKept.{takes_data_held}

one_of_f1 : data_length 0xF1 ≡ 1
unfolding data_length
one_of_f1 = refl

pub two_of_f2 : data_length 0xF2 ≡ 2
unfolding data_length
two_of_f2 = refl

one_of_f3 : data_length 0xF3 ≡ 1
unfolding data_length
one_of_f3 = refl

-- a status that waits for data
pub waits_for_data : (v n : ℕ) → data_length v ≡ n → 0 < n → Range k.Held v
waits_for_data v n e h = takes_data_held v (omega (arith, e, h))

-- from F0 on the position alone takes two
pub position : (v : ℕ) → data_length v ≡ 2 → 0xF0 ≤ v → v ≡ 0xF2
position v e h = let r = waits_for_data v 2 e (omega arith) in last r.1 r.2 (once 0xF1 one_of_f1) (once 0xF3 one_of_f3)
  where
    once : (x : ℕ) → data_length x ≡ 1 → v ≡ x → ⊥
    once x one q = omega (arith, e, subst (λ (y : ℕ). data_length y ≡ 1) (sym q) one)

    last : v < 0xF4 → (v ≡ 0xF0 → ⊥) → (v ≡ 0xF1 → ⊥) → (v ≡ 0xF3 → ⊥) → v ≡ 0xF2
    last s p q w = omega arith
