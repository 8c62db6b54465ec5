-- A version that `from_byte` made is in range and holds the byte that it was made from, because the call tests that byte first and then
-- only wraps it.
use mathlib.Core.Path.{◌≡◌, refl}
use mathlib.Core.Bool.{true, ◌||◌}
use Prim.Native.Nat.{ℕ}
use lib.Dec.{eqb}
use Rattle.refusal.specs.Outcome.{gives}
use Rattle.ids.proofs.Range.{wrapped}
use Rattle.ids.specs.declared.version.ProtocolVersion.{ProtocolVersion}
use Rattle.ids.specs.Version.{version_of}

-- a version is 6 or 7
pub version_in_range : (n : ℕ) (x : ProtocolVersion) → version_of n ≡ gives x → (x.0 ≡ n) × ((eqb n 6 || eqb n 7) ≡ true)
version_in_range n x e =
    wrapped (λ k. record { 0 = k }) (λ (y : ProtocolVersion). y.0) (λ k. refl) (λ k. eqb k 6 || eqb k 7) 8 n x e
