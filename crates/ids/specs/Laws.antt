-- A device and an interface that were read stand for the byte that they were read from. These two are proved here since an `impl` of
-- `OfByte` cites nothing of its own crate's proofs/.
use Rattle.std.specs.Prelude.{◌≡◌, Bool, true, false, [], ◌∷◌, ℕ, ◌<◌, ltb, eqb}
use mathlib.Core.Path.{refl, sym, ◌∙◌}
use native.Mathlib.Omega.{arith}
use borrow.Author.Tests.{eqb-true, eqb-false, ltb-true}
use Rattle.laws.specs.Choice.{pick}
use Rattle.refusal.specs.Outcome.{gives, refused}
use Rattle.refusal.proofs.Given.{given_not_refused, given_number, passed, first_with, either_with}
use Rattle.ids.specs.declared.device.DeviceId.{DeviceId}
use Rattle.ids.specs.declared.device.DeviceId.TheVariants as d
use Rattle.ids.specs.declared.interface.Interface.{Interface}
use Rattle.ids.specs.declared.interface.Interface.TheVariants as i
use Rattle.ids.specs.Device.{device_of, device_byte}
use Rattle.ids.specs.Interface.{interface_of, interface_at, interface_byte}

pub device_same_byte : (b : ℕ) (x : DeviceId) → device_of b ≡ gives x → device_byte x ≡ b
device_same_byte b x e =
    either_with device_byte (ltb b 16) (d.Unit b) b _ x refl
    (first_with device_byte d.Broadcast b (refused 5 (b ∷ [])) x (λ r. absurd (given_not_refused x 5 (b ∷ []) r))) e

interface_byte_at : (b : ℕ) (t u : Bool) → eqb b 0 ≡ t → eqb b 1 ≡ u → b < 3 → interface_byte (pick t i.Midi (pick u i.Usb i.WiFi)) ≡ b
interface_byte_at b true u h k below = sym (eqb-true b 0 h)
interface_byte_at b false true h k below = sym (eqb-true b 1 k)
interface_byte_at b false false h k below =
    let other = eqb-false b 0 h in
    let others = eqb-false b 1 k in
    omega arith

pub interface_same_byte : (b : ℕ) (x : Interface) → interface_of b ≡ gives x → interface_byte x ≡ b
interface_same_byte b x e =
    given_number (ltb b 3) 12 (b ∷ []) (interface_at b) x interface_byte e
    ∙ interface_byte_at b (eqb b 0) (eqb b 1) refl refl (ltb-true b 3 (passed (ltb b 3) 12 (b ∷ []) (gives (interface_at b)) x e))
