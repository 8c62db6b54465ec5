-- The identity reply of document 01: "reply 17 bytes: F0 7E device 06 02 00 20 32 20 00 01 00, firmware (minor in the high four bits), one free
-- byte, two voice bytes, F7."
use Rattle.std.specs.Prelude.{Bool, List, [], ◌∷◌, ◌++◌, ℕ, get_or}
use Rattle.refusal.specs.Outcome.{Outcome, gives, unless, and_then, with_room}
use Rattle.ids.specs.declared.device.DeviceId.{DeviceId}
use Rattle.ids.specs.Device.{device_of, device_byte, when_device}
use Rattle.framing.specs.Framing.{when_framed, maker}
use Rattle.inquiry.specs.Shape.{has_shape}
use Rattle.inquiry.specs.declared.identity.Identity.{Identity}
use Rattle.inquiry.specs.Identity.{firmware_of, packed_of}

-- the shape of a reply: seventeen bytes, 7E, any device, 06 02, maker, family and member, then any five bytes and the end
abbrev pub is_reply : List ℕ → Bool
is_reply = has_shape 17 (0x06 ∷ 0x02 ∷ maker ++ (0x00 ∷ 0x01 ∷ 0x00 ∷ []))

-- what a reply tells; "Voice bytes above 7F pass"
abbrev pub identity_at : DeviceId → List ℕ → Identity
identity_at d bytes =
    record { device = d; firmware = firmware_of (get_or bytes 12 0); voice = record { major = get_or bytes 14 0; minor = get_or bytes 15 0 } }

-- "Order: 1, shape (15 or 16), 5"
abbrev pub read_reply : List ℕ → Outcome Identity
read_reply bytes =
    when_framed bytes (unless (is_reply bytes) 16 [] (and_then (device_of (get_or bytes 2 0)) (λ d. gives (identity_at d bytes))))

-- "puts 00 in the free byte"
abbrev pub reply_bytes : Identity → List ℕ
reply_bytes x =
    0xF0 ∷ 0x7E ∷ device_byte x.device ∷ 0x06 ∷ 0x02 ∷ maker
    ++ (0x00 ∷ 0x01 ∷ 0x00 ∷ packed_of x.firmware ∷ 0x00 ∷ x.voice.major ∷ x.voice.minor ∷ 0xF7 ∷ [])

-- the writer: 5, also for a unit above 0F, then 14
abbrev pub reply_write : Identity → ℕ → Outcome (List ℕ)
reply_write x room = when_device x.device (with_room room (reply_bytes x))
