-- A byte's class and its range tell each other, because the classes are ranges that leave nothing out.
use mathlib.Core.Path.{◌≡◌, refl}
use Prim.Native.Nat.{ℕ, ◌≤◌, ◌<◌}
use native.Mathlib.Omega.{arith}
use lib.Dec.{ltb, eqb}
use borrow.Author.Tests.{ltb-true, ltb-false, eqb-true, eqb-false, lt-ltb, le-ltb, ne_eqb}
use Rattle.laws.proofs.Tests.{by_test}
use Rattle.decoder.specs.declared.Class.{Class}
use Rattle.decoder.specs.declared.Class.TheVariants as k
use Rattle.decoder.specs.Step.{class_of}

-- the byte values of each class
abbrev pub Range : Class → ℕ → Type 0
Range k.Data b = b < 0x80
Range k.Held b = (0x80 ≤ b) × (b < 0xF4) × (b ≡ 0xF0 → ⊥)
Range k.Start b = b ≡ 0xF0
Range k.Undefined b = (0xF4 ≤ b) × (b < 0xF6)
Range k.Tune b = b ≡ 0xF6
Range k.End b = b ≡ 0xF7
Range k.Realtime b = 0xF8 ≤ b

pub range_of : (b : ℕ) → Range (class_of b) b
unfolding class_of
range_of b =
    let R : Class → Type 0 = λ (c : Class). Range c b in
    by_test R (ltb b 0x80) _ _ (λ e. ltb-true b 0x80 e)
    (λ d. by_test R (ltb b 0xF0) _ _ (λ e. let h : b < 0xF0 = ltb-true b 0xF0 e in (ltb-false b 0x80 d, omega arith, λ (q : b ≡ 0xF0). omega arith))
    (λ h. by_test R (eqb b 0xF0) _ _ (λ e. eqb-true b 0xF0 e)
    (λ n. by_test R (ltb b 0xF4) _ _ (λ e. (ltb-false b 0x80 d, ltb-true b 0xF4 e, eqb-false b 0xF0 n))
    (λ f. by_test R (ltb b 0xF6) _ _ (λ e. (ltb-false b 0xF4 f, ltb-true b 0xF6 e))
    (λ g. by_test R (eqb b 0xF6) _ _ (λ e. eqb-true b 0xF6 e)
    (λ u. by_test R (eqb b 0xF7) _ _ (λ e. eqb-true b 0xF7 e) (λ v. above (ltb-false b 0xF6 g) (eqb-false b 0xF6 u) (eqb-false b 0xF7 v))))))))
  where
    above : 0xF6 ≤ b → (b ≡ 0xF6 → ⊥) → (b ≡ 0xF7 → ⊥) → 0xF8 ≤ b
    above l p q = omega arith

-- a byte within a class's bounds is of that class
pub class_is : (b : ℕ) (c : Class) → Range c b → class_of b ≡ c
unfolding class_of
class_is b k.Data h = rw (lt-ltb b 0x80 h)
class_is b k.Held h =
    rw (le-ltb b 0x80 h.0) (by_test (λ (c : Class). c ≡ k.Held) (ltb b 0xF0) _ _ (λ e. refl) (λ e. rw (ne_eqb b 0xF0 h.2, lt-ltb b 0xF4 h.1)))
class_is b k.Start h = rw h
class_is b k.Undefined h =
    rw (le-ltb b 0x80 (omega arith), le-ltb b 0xF0 (omega arith), ne_eqb b 0xF0 (λ e. omega arith), le-ltb b 0xF4 h.0, lt-ltb b 0xF6 h.1)
class_is b k.Tune h = rw h
class_is b k.End h = rw h
class_is b k.Realtime h =
    rw (
      le-ltb b 0x80 (omega arith),
      le-ltb b 0xF0 (omega arith),
      ne_eqb b 0xF0 (λ e. omega arith),
      le-ltb b 0xF4 (omega arith),
      le-ltb b 0xF6
          (omega arith),
      ne_eqb b 0xF6 (λ e. omega arith),
      ne_eqb b 0xF7 (λ e. omega arith),
    )
