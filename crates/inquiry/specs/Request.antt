-- The identity request of document 01: "Request F0 7E device 06 01 F7".
use Rattle.std.specs.Prelude.{Bool, List, [], ◌∷◌, ℕ, get_or}
use Rattle.refusal.specs.Outcome.{Outcome, unless, with_room}
use Rattle.ids.specs.declared.device.DeviceId.{DeviceId}
use Rattle.ids.specs.Device.{device_of, device_byte, when_device}
use Rattle.framing.specs.Framing.{when_framed}
use Rattle.inquiry.specs.Shape.{has_shape}

-- the shape of a request: six bytes, 7E, any device, 06 01
abbrev pub is_request : List ℕ → Bool
is_request = has_shape 6 (0x06 ∷ 0x01 ∷ [])

-- "Order: 1, shape (15 or 16), 5"
abbrev pub read_request : List ℕ → Outcome DeviceId
read_request bytes = when_framed bytes (unless (is_request bytes) 15 [] (device_of (get_or bytes 2 0)))

-- "Request F0 7E device 06 01 F7"
abbrev pub request_bytes : DeviceId → List ℕ
request_bytes d = 0xF0 ∷ 0x7E ∷ device_byte d ∷ 0x06 ∷ 0x01 ∷ 0xF7 ∷ []

-- the writer: 5, also for a unit above 0F, then 14
abbrev pub request_write : DeviceId → ℕ → Outcome (List ℕ)
request_write d room = when_device d (with_room room (request_bytes d))
