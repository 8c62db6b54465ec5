-- Rows computed from the definitions: marked rows (k) and (l) of document 01, and the two lengths that refusal 7 names for a pattern.
use mathlib.Core.Path.{◌≡◌, refl}
use mathlib.Core.List.{List, [], ◌∷◌, ◌++◌}
use Prim.Native.Nat.{ℕ}
use lib.ListN.{replicate}
use Rattle.refusal.specs.Outcome.{gives, refused}
use Rattle.ids.specs.declared.device.DeviceId.TheVariants as d
use Rattle.message.specs.declared.head.Head.TheVariants as h
use Rattle.frame_reader.specs.Payload.{read_run}
use Rattle.frame_reader.specs.Reader.{read_record, parsed}

-- (k) F0 00 20 32 20 00 03 F7: edit request to unit 0
pub row_k : parsed (0xF0 ∷ 0x00 ∷ 0x20 ∷ 0x32 ∷ 0x20 ∷ 0x00 ∷ 0x03 ∷ 0xF7 ∷ []) ≡ gives (record { device = d.Unit 0; head = h.EditBufferDumpRequest })
unfolding read_record
row_k = refl

-- (l) F0 00 20 32 20 7F 07 20 F7: refusal 11
pub row_l : parsed (0xF0 ∷ 0x00 ∷ 0x20 ∷ 0x32 ∷ 0x20 ∷ 0x7F ∷ 0x07 ∷ 0x20 ∷ 0xF7 ∷ []) ≡ refused 11 (0x20 ∷ [])
unfolding read_record
row_l = refl

-- "with one, prefix alone if that is missing (pattern 1)": a pattern dump with no payload misses its version; expected 1, found 0
pub pattern_without_version : parsed (0xF0 ∷ 0x00 ∷ 0x20 ∷ 0x32 ∷ 0x20 ∷ 0x00 ∷ 0x08 ∷ 0xF7 ∷ []) ≡ refused 7 (0x08 ∷ 1 ∷ 0 ∷ [])
unfolding read_record
pattern_without_version = refl

-- a pattern dump to unit 0, version 7, with n bytes 00 after v
abbrev pub pattern_dump : ℕ → List ℕ
pattern_dump n = 0xF0 ∷ 0x00 ∷ 0x20 ∷ 0x32 ∷ 0x20 ∷ 0x00 ∷ 0x08 ∷ 0x07 ∷ replicate n 0 ++ (0xF7 ∷ [])

-- "else prefix plus 8 per started 7 raw (pattern 81)": after v no byte, one below the shortest run, one above the longest; expected
-- 81 each time, found with the version
pub pattern_of_wrong_length :
    (parsed (pattern_dump 0) ≡ refused 7 (0x08 ∷ 81 ∷ 1 ∷ []))
    × (parsed (pattern_dump 74) ≡ refused 7 (0x08 ∷ 81 ∷ 75 ∷ []))
    × (parsed (pattern_dump 84) ≡ refused 7 (0x08 ∷ 81 ∷ 85 ∷ []))
unfolding read_record read_run
pattern_of_wrong_length = (refl, refl, refl)
