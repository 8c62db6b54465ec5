-- A device as it crosses to C: everyone (0 or 1) and the unit, since a hand-made unit 7F is not everyone.
use Rattle.std.specs.Prelude.{ℕ, eqb, leb, None, Option, Some}
use Rattle.laws.specs.Choice.{pick}
use Rattle.ids.specs.declared.device.DeviceId.{DeviceId}
use Rattle.ids.specs.declared.device.DeviceId.TheVariants as d

-- the device that the two numbers name: everyone above 0 is everyone (the entry points ask for 0 or 1 first), else the unit, in range or
-- not
abbrev pub device_from : ℕ → ℕ → DeviceId
device_from everyone unit = pick (eqb everyone 0) (d.Unit unit) d.Broadcast

-- none for everyone above 1, which no record has
abbrev pub device_named : ℕ → ℕ → Option DeviceId
device_named everyone unit = pick (leb everyone 1) (Some (device_from everyone unit)) None

-- the first number of a device: 1 for everyone, 0 for a unit
abbrev pub everyone_of : DeviceId → ℕ
everyone_of (d.Unit n) = 0
everyone_of d.Broadcast = 1

-- the second number of a device: its unit, 0 for everyone
abbrev pub unit_of : DeviceId → ℕ
unit_of (d.Unit n) = n
unit_of d.Broadcast = 0
