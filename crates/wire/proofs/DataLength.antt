-- How many data bytes each range of status bytes takes: the definition's tests, decided by the range.
use mathlib.Core.Path.{◌≡◌, refl}
use Prim.Native.Nat.{ℕ, ◌≤◌, ◌<◌}
use native.Mathlib.Omega.{arith}
use borrow.Author.Tests.{lt-ltb, le-ltb, ne_eqb}
use Rattle.wire.specs.Status.{data_length}

-- note off to control change
pub two_low : (b : ℕ) → 0x80 ≤ b → b < 0xC0 → data_length b ≡ 2
unfolding data_length
two_low b l h = rw (le-ltb b 0x80 l, lt-ltb b 0xC0 h)

-- program change and channel pressure
pub one_middle : (b : ℕ) → 0xC0 ≤ b → b < 0xE0 → data_length b ≡ 1
unfolding data_length
one_middle b l h = rw (le-ltb b 0x80 (omega arith), le-ltb b 0xC0 l, lt-ltb b 0xE0 h)

-- pitch bend
pub two_high : (b : ℕ) → 0xE0 ≤ b → b < 0xF0 → data_length b ≡ 2
unfolding data_length
two_high b l h = rw (le-ltb b 0x80 (omega arith), le-ltb b 0xC0 (omega arith), le-ltb b 0xE0 l, lt-ltb b 0xF0 h)

-- a data byte is no status
pub none_of_data : (b : ℕ) → b < 0x80 → data_length b ≡ 0
unfolding data_length
none_of_data b h = rw (lt-ltb b 0x80 h)

-- a frame's first byte, and every status from F4 on
pub none_of_start : data_length 0xF0 ≡ 0
unfolding data_length
none_of_start = refl

pub none_above : (b : ℕ) → 0xF4 ≤ b → data_length b ≡ 0
unfolding data_length
none_above b l =
    rw (
      le-ltb b 0x80 (omega arith),
      le-ltb b 0xC0 (omega arith),
      le-ltb b 0xE0 (omega arith),
      le-ltb b 0xF0 (omega arith),
      ne_eqb b 0xF1
          (λ e. omega arith),
      ne_eqb b 0xF2 (λ e. omega arith),
      ne_eqb b 0xF3 (λ e. omega arith),
    )
