-- The lengths of raw and packed bytes fit together, because packed bytes come in whole groups of eight, and each group gives back
-- seven raw bytes.
use mathlib.Core.Path.{◌≡◌, sym}
use mathlib.Core.Bool.{true, not}
use mathlib.Core.List.{[], ◌∷◌}
use Prim.Native.Nat.{ℕ, ◌+◌, ◌%◌, ◌^◌, ◌≤◌, ◌<◌}
use native.Mathlib.Omega.{arith}
use lib.Dec.{ltb, eqb}
use Rattle.refusal.specs.Outcome.{gives}
use Rattle.refusal.proofs.Given.{passed, passed_on}
use Rattle.packed.specs.Packed.{packed_length, packed_length_of, unpacked_length, unpacked_length_of}

-- "the lengths fit together": what n raw bytes pack to unpacks, and holds them with less than a group more
pub packed_then_unpacked : (n : ℕ) → (packed_length n % 8 ≡ 0) × (n ≤ unpacked_length (packed_length n)) × (unpacked_length (packed_length n) < n + 7)
packed_then_unpacked n = omega arith

-- a length that was given is the definition's
pub packed_given : (l n : ℕ) → gives n ≡ packed_length_of l → n ≡ packed_length l
packed_given l n e =
    let given : gives (packed_length l) ≡ gives n = passed_on (ltb (packed_length l) (2 ^ 64)) 22 [] (gives (packed_length l)) n (sym e) in
    cc

pub unpacked_given : (l n : ℕ) → gives n ≡ unpacked_length_of l → (n ≡ unpacked_length l) × (not (eqb (l % 8) 1) ≡ true)
unpacked_given l n e =
    let given : gives (unpacked_length l) ≡ gives n =
    passed_on (not (eqb (l % 8) 1)) 13 (l ∷ []) (gives (unpacked_length l)) n (sym e) in
    (cc, passed (not (eqb (l % 8) 1)) 13 (l ∷ []) (gives (unpacked_length l)) n (sym e))
