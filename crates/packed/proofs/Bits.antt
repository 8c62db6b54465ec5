-- The masks and shifts of packing are sums, because each bit is put where nothing stands yet.
use mathlib.Core.Path.{◌≡◌}
use Prim.Native.Nat.{ℕ, ◌+◌, ◌*◌, ◌/◌, ◌%◌, ◌^◌, ◌<◌}
use native.Mathlib.Nat.{add_comm}
use native.Mathlib.Omega.{arith}
use lib.Bits.{bit_and, bit_or, and_mask, or_shifted_r}
use lib.Pow.{shl_exact}

-- a top bit shifted to place i, above what stands below
pub top_bit_in : (high b i : ℕ) → b < 256 → i < 7 → high < 2 ^ i → bit_or high ((b / 2 ^ 7 * 2 ^ i) % 2 ^ 8) ≡ high + b / 128 * 2 ^ i
top_bit_in high b i byte place below =
    let bit : b / 2 ^ 7 < 2 ^ 1 = omega arith in
    rw (shl_exact {a = b / 2 ^ 7} 1 i 8 bit (omega arith), or_shifted_r (b / 2 ^ 7) i high below) (add_comm (b / 128 * 2 ^ i) high)

-- unpacking: the bit at place i over seven bits of data
pub top_bit_out : (d high i : ℕ) → bit_or (bit_and d 127) ((bit_and (high / 2 ^ i) 1 * 2 ^ 7) % 2 ^ 8) ≡ d % 128 + 128 * (high / 2 ^ i % 2)
top_bit_out d high i =
    let bit : high / 2 ^ i % 2 ^ 1 < 2 ^ 1 = omega arith in
    let low : d % 128 < 2 ^ 7 = omega arith in
    rw (and_mask d 7, and_mask (high / 2 ^ i) 1, shl_exact {a = high / 2 ^ i % 2 ^ 1} 1 7 8 bit (omega arith), or_shifted_r (high / 2 ^ i % 2 ^ 1) 7 (d % 128) low)
    (omega arith)
