-- A device told as two numbers is the device that the two name, because everyone is told as 1 and a unit as 0 with its number.
use mathlib.Core.Path.{◌≡◌, refl}
use Prim.Native.Nat.{◌≤◌}
use native.Mathlib.Omega.{arith}
use Rattle.ids.specs.declared.device.DeviceId.{DeviceId}
use Rattle.ids.specs.declared.device.DeviceId.TheVariants as d
use Rattle.host_answer.specs.Device.{device_from, everyone_of, unit_of}

pub device_named_again : (x : DeviceId) → device_from (everyone_of x) (unit_of x) ≡ x
device_named_again (d.Unit n) = refl
device_named_again d.Broadcast = refl

-- the flag for everyone is 0 or 1
pub everyone_is_a_flag : (x : DeviceId) → everyone_of x ≤ 1
everyone_is_a_flag (d.Unit n) = omega arith
everyone_is_a_flag d.Broadcast = omega arith
