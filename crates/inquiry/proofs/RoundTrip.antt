-- Requests go round both ways, because every byte of one but the device is fixed; a reply that was written reads as what it held, but for the
-- bits that the writer masks.
use mathlib.Core.Path.{◌≡◌, ap, sym, ◌∙◌}
use mathlib.Core.Bool.{Bool, true, ◌&&◌}
use mathlib.Core.List.{List, [], ◌∷◌}
use Prim.Native.Nat.{ℕ, ◌-◌, ◌/◌, ◌%◌}
use native.Mathlib.Omega.{arith}
use lib.Dec.{leb, eqb}
use lib.ListN.{length, get_or, take, drop}
use lib.Seq.{get_or-drop, get_or-take}
use borrow.Author.Tests.{eqb-true}
use Rattle.laws.proofs.Tests.{both}
use Rattle.refusal.specs.Outcome.{gives, unless}
use Rattle.refusal.proofs.Given.{passed, passed_on}
use Rattle.ids.specs.declared.device.DeviceId.{DeviceId}
use Rattle.ids.specs.Device.{device_of, device_in_range}
use Rattle.ids.proofs.device.Range.{read_device_in_range, device_reads_back}
use Rattle.framing.specs.Framing.{framed, same_bytes}
use Rattle.framing.proofs.Bytes.{same_is, spelled}
use Rattle.inquiry.specs.declared.identity.Version.{Version}
use Rattle.inquiry.specs.declared.identity.Identity.{Identity}
use Rattle.inquiry.specs.Identity.{packed_of}
use Rattle.inquiry.specs.Request.{is_request, read_request, request_bytes}
use Rattle.inquiry.specs.Reply.{read_reply, reply_bytes}

-- a request that is written reads back as its device
pub request_reads_back : (d : DeviceId) → device_in_range d ≡ true → read_request (request_bytes d) ≡ gives d
request_reads_back d h = device_reads_back d h

-- a request that reads is the one that is written for its device
pub request_same_bytes : (bytes : List ℕ) (d : DeviceId) → read_request bytes ≡ gives d → (bytes ≡ request_bytes d) × (device_in_range d ≡ true)
request_same_bytes bytes d e =
    let e1 = passed_on (framed bytes) 1 [] (unless (is_request bytes) 15 [] (device_of (get_or bytes 2 0))) d e in
    let ends = passed (framed bytes) 1 [] (unless (is_request bytes) 15 [] (device_of (get_or bytes 2 0))) d e in
    let shape = passed (is_request bytes) 15 [] (device_of (get_or bytes 2 0)) d e1 in
    let device = read_device_in_range (get_or bytes 2 0) d (passed_on (is_request bytes) 15 [] (device_of (get_or bytes 2 0)) d e1) in
    let six : Bool = eqb (length bytes) 6 in
    let kind : Bool = eqb (get_or bytes 1 0) 0x7E in
    let rest : Bool = same_bytes (take 2 (drop 3 bytes)) (0x06 ∷ 0x01 ∷ []) in
    let long : length bytes ≡ 6 = eqb-true (length bytes) 6 (both six kind (both (six && kind) rest shape).0).0 in
    let b0 : get_or bytes 0 0 ≡ 0xF0 = eqb-true (get_or bytes 0 0) 0xF0 (both (leb 2 (length bytes)) _ (both (leb 2 (length bytes) && eqb (get_or bytes 0 0) 0xF0) _ ends).0).1 in
    let b5 : get_or bytes (length bytes - 1) 0 ≡ 0xF7 = eqb-true (get_or bytes (length bytes - 1) 0) 0xF7 (both (leb 2 (length bytes) && eqb (get_or bytes 0 0) 0xF0) _ ends).1 in
    let b1 : get_or bytes 1 0 ≡ 0x7E = eqb-true (get_or bytes 1 0) 0x7E (both six kind (both (six && kind) rest shape).0).1 in
    let same : take 2 (drop 3 bytes) ≡ 0x06 ∷ 0x01 ∷ [] = same_is (take 2 (drop 3 bytes)) (0x06 ∷ 0x01 ∷ []) (both (six && kind) rest shape).1 in
    let b3 : get_or bytes 3 0 ≡ 0x06 = sym (get_or-drop 3 bytes 0 0) ∙ sym (get_or-take 2 (drop 3 bytes) 0 0 (omega arith)) ∙ ap (λ (l : List ℕ). get_or l 0 0) same in
    let b4 : get_or bytes 4 0 ≡ 0x01 = sym (get_or-drop 3 bytes 1 0) ∙ sym (get_or-take 2 (drop 3 bytes) 1 0 (omega arith)) ∙ ap (λ (l : List ℕ). get_or l 1 0) same in
    let last : get_or bytes 5 0 ≡ 0xF7 = rw long at b5 in
    (spelled bytes 6 long ∙ rw (b0, b1, ← device.0, b3, b4, last), device.1)

-- what a written reply reads as: three bits of the firmware's minor number, four of its major
pub reply_reads_back : (x : Identity) → device_in_range x.device ≡ true
    → read_reply (reply_bytes x) ≡ gives (record { device = x.device; firmware = record { major = x.firmware.major % 16; minor = x.firmware.minor % 8 }; voice = x.voice })
reply_reads_back x h = rw (device_reads_back x.device h, major_back x.firmware, minor_back x.firmware)
  where
    major_back : (v : Version) → packed_of v % 16 ≡ v.major % 16
    major_back v = omega arith

    minor_back : (v : Version) → packed_of v / 16 ≡ v.minor % 8
    minor_back v = omega arith
