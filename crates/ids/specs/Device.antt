-- The device byte of document 01: "00 to 0F a unit, 7F everyone."
use Rattle.std.specs.Prelude.{Bool, true, [], ◌∷◌, ℕ, ltb, eqb}
use Rattle.laws.specs.Choice.{pick}
use Rattle.refusal.specs.Outcome.{Outcome, gives, unless}
use Rattle.ids.specs.declared.device.DeviceId.{DeviceId}
use Rattle.ids.specs.declared.device.DeviceId.TheVariants as d

-- 00 to 0F a unit, 7F everyone; 5 with the byte for any other
abbrev pub device_of : ℕ → Outcome DeviceId
device_of n = pick (ltb n 16) (gives (d.Unit n)) (unless (eqb n 0x7F) 5 (n ∷ []) (gives d.Broadcast))

-- the byte on the wire
abbrev pub device_byte : DeviceId → ℕ
device_byte (d.Unit n) = n
device_byte d.Broadcast = 0x7F

-- a message for everyone concerns each listener; any other, the listener with the same byte
abbrev pub reaches : DeviceId → DeviceId → Bool
reaches d.Broadcast listener = true
reaches (d.Unit n) listener = eqb n (device_byte listener)

-- "a unit above 0F" can be made by hand, and no device byte stands for it
abbrev pub device_in_range : DeviceId → Bool
device_in_range (d.Unit n) = ltb n 16
device_in_range d.Broadcast = true

-- what every writer of a device tests first: "5, also for a unit above 0F", with the byte
abbrev pub when_device : {A : Type 0} → DeviceId → Outcome A → Outcome A
when_device d next = unless (device_in_range d) 5 (device_byte d ∷ []) next
