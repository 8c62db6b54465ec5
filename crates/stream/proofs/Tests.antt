-- A frame's length fits two bytes, because the limit does. A byte from F8 on that the test of real-time bytes turns down is F9 or FD, because
-- the test leaves out these two alone.
use mathlib.Core.Path.{◌≡◌, refl, sym, ◌∙◌}
use mathlib.Core.Logic.{◌⊎◌, inl, inr}
use mathlib.Core.Bool.{true, false}
use Prim.Native.Nat.{ℕ, ◌≤◌, ◌<◌}
use native.Mathlib.Omega.{arith}
use lib.Dec.{leb, eqb}
use borrow.Author.Tests.{le-leb, leb-true, eqb-true}
use Rattle.laws.proofs.Tests.{split, both, true_is_not_false}
use Rattle.decoder.specs.State.{limit}
use Rattle.decoder.proofs.Limit.{limit_is}
use Rattle.stream.specs.quick.Bytes.{is_realtime}

-- a frame's length has two bytes
pub limit_small : limit < 65_536
limit_small = omega (arith, limit_is)

pub realtime_high : (b : ℕ) → is_realtime b ≡ true → 0xF8 ≤ b
realtime_high b t = leb-true 0xF8 b (both (leb 0xF8 b) _ t).0

-- of F8 to FF, F9 and FD alone are no real-time message
pub f9_or_fd : (b : ℕ) → 0xF8 ≤ b → b < 256 → is_realtime b ≡ false → (b ≡ 0xF9) ⊎ (b ≡ 0xFD)
f9_or_fd b l small f =
    split (eqb b 0xF9) (λ t. inl (eqb-true b 0xF9 t))
    (λ n. split (eqb b 0xFD) (λ t. inr (eqb-true b 0xFD t)) (λ m. absurd (true_is_not_false (sym (rw (le-leb 0xF8 b l, n, m) refl) ∙ f))))
