-- Setting or clearing one bit of a word leaves every other bit as it was.
use Rattle.std.proofs.Common.{◌≡◌, ℕ, ◌*◌, ◌-◌, ◌%◌, ◌^◌, ◌<◌, true, false, eqb, bit_and, bit_or}
use Rattle.std.proofs.lemmas.Nat.Bits.{bit_at-zero, bit_at_set_same, bit_at_set_other, bit_at_clear_same, bit_at_clear_other}
use Rattle.std.specs.Int.{w64}
use borrow.Author.Tests.{eqb-true, eqb-false}
use Rattle.laws.specs.Choice.{pick}
use Rattle.laws.proofs.Tests.{split}
use Rattle.held_keys.specs.HeldKeys.{bit}

-- no bit of 0 is set
pub bit_zero : (k : ℕ) → bit 0 k ≡ false
bit_zero k = rw (bit_at-zero k)

-- bit k of a word set, bit k cleared
pub bit_with : (w k j : ℕ) → k < 64 → bit (bit_or w (1 * 2 ^ k % 2 ^ 64)) j ≡ pick (eqb j k) true (bit w j)
bit_with w k j h =
    split (eqb j k) (λ (t : eqb j k ≡ true). rw (t, eqb-true j k t, bit_at_set_same w64 w k h))
    (λ (f : eqb j k ≡ false). rw (f, bit_at_set_other w64 w k h j (eqb-false j k f)))

pub bit_without : (w k j : ℕ) → k < 64 → j < 64 → bit (bit_and w (2 ^ 64 - 1 - 1 * 2 ^ k % 2 ^ 64)) j ≡ pick (eqb j k) false (bit w j)
bit_without w k j h small =
    split (eqb j k) (λ (t : eqb j k ≡ true). rw (t, eqb-true j k t, bit_at_clear_same w64 w k h))
    (λ (f : eqb j k ≡ false). rw (f, bit_at_clear_other w64 w k h j small (eqb-false j k f)))
