-- The first bytes of three are a system common message's bytes, because each message has one to three of them.
use mathlib.Core.Path.{◌≡◌, refl, ap}
use mathlib.Core.Bool.{true}
use mathlib.Core.List.{[], ◌∷◌}
use Prim.Native.Nat.{ℕ, ◌+◌, ◌/◌, ◌%◌, ◌≤◌}
use native.Mathlib.Omega.{arith}
use lib.ListN.{take}
use borrow.Author.Tests.{leb-true}
use Rattle.wire.specs.Status.{data_length}
use Rattle.wire.specs.declared.system_common.CommonStatus.{CommonStatus}
use Rattle.wire.specs.declared.system_common.CommonStatus.TheVariants as s
use Rattle.wire.specs.SystemCommon.{common_status_byte, common, common_in_range, common_bytes}

pub masked_common_in_range : (s : CommonStatus) (v : ℕ) → common_in_range (common s v) ≡ true
    → take (1 + data_length (common_status_byte s)) (common_status_byte s ∷ v % 128 ∷ v / 128 % 128 ∷ []) ≡ common_bytes (common s v)
unfolding data_length
masked_common_in_range s.TimeCodeQuarterFrame v h =
    let small : v ≤ 127 = leb-true v 127 h in
    ap (λ (x : ℕ). 0xF1 ∷ x ∷ []) (omega arith)
masked_common_in_range s.SongPosition v h =
    let small : v ≤ 16383 = leb-true v 16383 h in
    ap (λ (x : ℕ). 0xF2 ∷ v % 128 ∷ x ∷ []) (omega arith)
masked_common_in_range s.SongSelect v h =
    let small : v ≤ 127 = leb-true v 127 h in
    ap (λ (x : ℕ). 0xF3 ∷ x ∷ []) (omega arith)
masked_common_in_range s.TuneRequest v h = refl

pub common_length : (s : CommonStatus) → data_length (common_status_byte s) ≤ 2
unfolding data_length
common_length s.TimeCodeQuarterFrame = omega arith
common_length s.SongPosition = omega arith
common_length s.SongSelect = omega arith
common_length s.TuneRequest = omega arith
