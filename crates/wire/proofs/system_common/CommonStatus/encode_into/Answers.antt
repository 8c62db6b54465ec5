-- `CommonStatus::encode_into` meets its contract: 21 first; then it hands the message's own bytes to `put_short`.
use Rattle.refusal.proofs.Written.{went_on, writes_equal_bytes}
use Rattle.wire.proofs.system_common.Bytes.{masked_common_in_range, common_length}
use Rattle.wire.specs.SystemCommon.{common_bytes, common, common_in_range}
use lib.ListN.{take}
use native.Mathlib.Omega.{arith}
use Prim.Native.Nat.{◌/◌, ◌%◌}
use mathlib.Core.List.{[], ◌∷◌}
use mathlib.Core.Bool.{true}
use mathlib.Core.Path.{◌≡◌, sym, ◌∙◌}
use Rattle.wire.proofs.system_common.CommonStatus.encode_into.Goals as goal

pub put_short-requires : goal.put_short-requires
put_short-requires c = let below = common_length c.args.self in omega (arith, c.encoded_len.ensures)

pub returns : goal.returns
returns c =
    let a = c.args in
    let s = c.to_status in
    let l = c.encoded_len in
    let p = c.put_short in
    let fits : common_in_range (common a.self a.value) ≡ true = sym c.carries.ensures ∙ c.if-not-carries.false in
    let same : take l.result (s.result ∷ a.value % 128 ∷ a.value / 128 % 128 ∷ []) ≡ common_bytes (common a.self a.value) =
    rw (l.ensures, s.ensures) (masked_common_in_range a.self a.value fits) in
    went_on _ 21 (a.value ∷ []) _ p.result a.out.now p.new.out fits
    (writes_equal_bytes _ _ p.result a.out.now p.new.out same p.ensures)
