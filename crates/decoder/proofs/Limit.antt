-- The two things that proofs know of the frame limit: its value, for the code's constant, and that every message but a frame fits.
use mathlib.Core.Path.{◌≡◌, refl}
use Prim.Native.Nat.{◌≤◌}
use native.Mathlib.Omega.{arith}
use Rattle.decoder.specs.State.{limit}

pub limit_is : limit ≡ 2354
unfolding limit
limit_is = refl

pub room_for_three : 3 ≤ limit
unfolding limit
room_for_three = omega arith
