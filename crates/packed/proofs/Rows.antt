-- Marked rows (a) to (e) of document 01, computed from the definitions.
use mathlib.Core.Path.{◌≡◌, refl}
use mathlib.Core.List.{[], ◌∷◌}
use Rattle.refusal.specs.Outcome.{refused}
use Rattle.packed.specs.Packed.{tops, packed, unpacked, unpacked_length_of}

-- (a) nothing gives nothing
pub row_a : packed [] ≡ []
row_a = refl

-- (b) 80 gives 01 and seven 00
pub row_b : packed (0x80 ∷ []) ≡ 0x01 ∷ 0x00 ∷ 0x00 ∷ 0x00 ∷ 0x00 ∷ 0x00 ∷ 0x00 ∷ 0x00 ∷ []
unfolding tops
row_b = refl

-- (c) seven FF give eight 7F
pub row_c : packed (0xFF ∷ 0xFF ∷ 0xFF ∷ 0xFF ∷ 0xFF ∷ 0xFF ∷ 0xFF ∷ []) ≡ 0x7F ∷ 0x7F ∷ 0x7F ∷ 0x7F ∷ 0x7F ∷ 0x7F ∷ 0x7F ∷ 0x7F ∷ []
unfolding tops
row_c = refl

-- (d) unpacking 02 01 01 gives 01 81
pub row_d : unpacked (0x02 ∷ 0x01 ∷ 0x01 ∷ []) ≡ 0x01 ∷ 0x81 ∷ []
row_d = refl

-- (e) length 9 gives 13, with the length
pub row_e : unpacked_length_of 9 ≡ refused 13 (9 ∷ [])
row_e = refl
