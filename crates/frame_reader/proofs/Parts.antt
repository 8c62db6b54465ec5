-- What the code takes of a frame's bytes are the parts that the definitions name.
use mathlib.Core.Path.{◌≡◌}
use mathlib.Core.List.{List}
use Prim.Native.Nat.{ℕ, ◌-◌}
use native.Mathlib.Omega.{arith}
use lib.ListN.{length, take, drop}
use Rattle.framing.specs.Framing.{body}
use Rattle.frame_reader.specs.Reader.{payload}

-- the part between the ends, as the code takes it
pub body_part : (bytes : List ℕ) → take (length bytes - 1 - 1) (drop 1 bytes) ≡ body bytes
body_part bytes =
    let e : length bytes - 1 - 1 ≡ length bytes - 2 = omega arith in
    rw e

-- the payload, as the code takes it
pub payload_part : (bytes : List ℕ) → take (length bytes - 1 - 7) (drop 7 bytes) ≡ payload bytes
payload_part bytes =
    let e : length bytes - 1 - 7 ≡ length bytes - 8 = omega arith in
    rw e
