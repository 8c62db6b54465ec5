-- A device that `from_byte` made is in range and stands for the byte that it was made from, because the call tests that byte first.
use mathlib.Core.Path.{◌≡◌, refl, ap, ◌∙◌, sym}
use mathlib.Core.Bool.{Bool, true, false}
use mathlib.Core.List.{[], ◌∷◌}
use Prim.Native.Nat.{ℕ}
use lib.Dec.{ltb, eqb}
use borrow.Author.Tests.{eqb-true}
use Rattle.laws.specs.Choice.{pick}
use Rattle.refusal.specs.Outcome.{gives, unless}
use Rattle.refusal.proofs.Given.{given_not_refused}
use Rattle.refusal.proofs.Numbered.{numbered, unless_numbered}
use Rattle.ids.specs.declared.device.DeviceId.{DeviceId}
use Rattle.ids.specs.declared.device.DeviceId.TheVariants as d
use Rattle.ids.specs.Device.{device_of, device_byte, device_in_range}

-- a device that was read is in range, and its byte is the byte that was read
device_case : (n : ℕ) (x : DeviceId) (unit all : Bool) → (unit ≡ true → ltb n 16 ≡ true) → (all ≡ true → n ≡ 0x7F)
    → pick unit (gives (d.Unit n)) (unless all 5 (n ∷ []) (gives d.Broadcast)) ≡ gives x
    → (device_byte x ≡ n) × (device_in_range x ≡ true)
device_case n x true all below is_all e =
    let same : d.Unit n ≡ x = cc in
    (ap device_byte (sym same), ap device_in_range (sym same) ∙ below refl)
device_case n x false true below is_all e =
    let same : d.Broadcast ≡ x = cc in
    (ap device_byte (sym same) ∙ sym (is_all refl), ap device_in_range (sym same))
device_case n x false false below is_all e = absurd (given_not_refused x 5 (n ∷ []) e)

pub read_device_in_range : (n : ℕ) (x : DeviceId) → device_of n ≡ gives x → (device_byte x ≡ n) × (device_in_range x ≡ true)
read_device_in_range n x e = device_case n x (ltb n 16) (eqb n 0x7F) (λ h. h) (eqb-true n 0x7F) e

-- a device in range is read back from its byte
pub device_reads_back : (x : DeviceId) → device_in_range x ≡ true → device_of (device_byte x) ≡ gives x
device_reads_back (d.Unit n) h = rw h
device_reads_back d.Broadcast h = refl

-- a byte that is no device's is refused with a number of the table
pub device_numbered : (n : ℕ) → numbered (device_of n) ≡ true
device_numbered n = go (ltb n 16)
  where
    go : (t : Bool) → numbered (pick t (gives (d.Unit n)) (unless (eqb n 0x7F) 5 (n ∷ []) (gives d.Broadcast))) ≡ true
    go true = refl
    go false = unless_numbered (eqb n 0x7F) 5 (n ∷ []) (gives d.Broadcast) refl refl
