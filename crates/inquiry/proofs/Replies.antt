-- Which replies read: just those of the paper's seventeen bytes with a device byte of a unit or of everyone, any firmware, free and voice
-- bytes.
use mathlib.Core.Path.{◌≡◌, refl, ap, sym, ◌∙◌}
use mathlib.Core.Bool.{Bool, true, false, ◌&&◌}
use mathlib.Core.List.{List, [], ◌∷◌, ◌++◌}
use Prim.Native.Nat.{ℕ, ◌+◌, ◌-◌, ◌<◌}
use native.Mathlib.Omega.{arith}
use lib.Dec.{leb, eqb}
use lib.ListN.{length, get_or, take, drop}
use lib.Seq.{get_or-drop, get_or-take}
use borrow.Author.Tests.{eqb-true}
use Rattle.laws.proofs.Tests.{both}
use Rattle.refusal.specs.Outcome.{Outcome, gives, unless, and_then}
use Rattle.refusal.proofs.Given.{passed, passed_on, given_first}
use Rattle.ids.specs.declared.device.DeviceId.{DeviceId}
use Rattle.ids.specs.Device.{device_of}
use Rattle.framing.specs.Framing.{framed, when_framed, same_bytes, maker}
use Rattle.framing.proofs.Bytes.{same_is, spelled}
use Rattle.inquiry.specs.declared.identity.Identity.{Identity}
use Rattle.inquiry.specs.Reply.{is_reply, identity_at, read_reply}

-- a reply reads as its device does, with the versions behind it
pub device_first : (bytes : List ℕ)
    → and_then (when_framed bytes (unless (is_reply bytes) 16 [] (device_of (get_or bytes 2 0)))) (λ d. gives (identity_at d bytes)) ≡ read_reply bytes
device_first bytes = go (framed bytes) (is_reply bytes) (device_of (get_or bytes 2 0)) (λ d. gives (identity_at d bytes))
  where
    go : (t s : Bool) (o : Outcome DeviceId) (next : DeviceId → Outcome Identity)
        → and_then (unless t 1 [] (unless s 16 [] o)) next ≡ unless t 1 [] (unless s 16 [] (and_then o next))
    go true true o next = refl
    go true false o next = refl
    go false s o next = refl

-- "F0 7E device 06 02 00 20 32 20 00 01 00, firmware, one free byte, two voice bytes, F7"
abbrev pub reply_row : ℕ → ℕ → ℕ → ℕ → ℕ → List ℕ
reply_row device firmware free major minor =
    0xF0 ∷ 0x7E ∷ device ∷ 0x06 ∷ 0x02 ∷ maker ++ (0x00 ∷ 0x01 ∷ 0x00 ∷ firmware ∷ free ∷ major ∷ minor ∷ 0xF7 ∷ [])

-- every reply in the paper's row reads, where its device byte is a device's
pub reply_row_reads : (device firmware free major minor : ℕ) (d : DeviceId) → device_of device ≡ gives d
    → read_reply (reply_row device firmware free major minor) ≡ gives (identity_at d (reply_row device firmware free major minor))
reply_row_reads device firmware free major minor d e =
    ap (λ o. and_then o (λ x. gives (identity_at x (reply_row device firmware free major minor)))) e

-- every reply that reads is in the paper's row, with a device's byte
pub reply_is_row : (bytes : List ℕ) (x : Identity) → read_reply bytes ≡ gives x
    → (bytes ≡ reply_row (get_or bytes 2 0) (get_or bytes 12 0) (get_or bytes 13 0) (get_or bytes 14 0) (get_or bytes 15 0))
    × ((d : DeviceId) × (device_of (get_or bytes 2 0) ≡ gives d) × (x ≡ identity_at d bytes))
reply_is_row bytes x e =
    let fixed : List ℕ = 0x06 ∷ 0x02 ∷ maker ++ (0x00 ∷ 0x01 ∷ 0x00 ∷ []) in
    let inside = and_then (device_of (get_or bytes 2 0)) (λ d. gives (identity_at d bytes)) in
    let e1 = passed_on (framed bytes) 1 [] (unless (is_reply bytes) 16 [] inside) x e in
    let ends = passed (framed bytes) 1 [] (unless (is_reply bytes) 16 [] inside) x e in
    let shape = passed (is_reply bytes) 16 [] inside x e1 in
    let device = given_first (device_of (get_or bytes 2 0)) (λ d. gives (identity_at d bytes)) x (passed_on (is_reply bytes) 16 [] inside x e1) in
    let said : gives (identity_at device.0 bytes) ≡ gives x = device.2 in
    let is : identity_at device.0 bytes ≡ x = cc in
    let seventeen : Bool = eqb (length bytes) 17 in
    let kind : Bool = eqb (get_or bytes 1 0) 0x7E in
    let rest : Bool = same_bytes (take 9 (drop 3 bytes)) fixed in
    let front = both seventeen kind (both (seventeen && kind) rest shape).0 in
    let long : length bytes ≡ 17 = eqb-true (length bytes) 17 front.0 in
    let outer = both (leb 2 (length bytes) && eqb (get_or bytes 0 0) 0xF0) (eqb (get_or bytes (length bytes - 1) 0) 0xF7) ends in
    let b0 : get_or bytes 0 0 ≡ 0xF0 = eqb-true (get_or bytes 0 0) 0xF0 (both (leb 2 (length bytes)) (eqb (get_or bytes 0 0) 0xF0) outer.0).1 in
    let b1 : get_or bytes 1 0 ≡ 0x7E = eqb-true (get_or bytes 1 0) 0x7E front.1 in
    let end : get_or bytes (length bytes - 1) 0 ≡ 0xF7 = eqb-true (get_or bytes (length bytes - 1) 0) 0xF7 outer.1 in
    let b16 : get_or bytes 16 0 ≡ 0xF7 = rw long at end in
    let same : take 9 (drop 3 bytes) ≡ fixed = same_is (take 9 (drop 3 bytes)) fixed (both (seventeen && kind) rest shape).1 in
    let inner : (i : ℕ) → i < 9 → get_or bytes (3 + i) 0 ≡ get_or fixed i 0 =
    λ i h. sym (get_or-drop 3 bytes i 0) ∙ sym (get_or-take 9 (drop 3 bytes) i 0 h) ∙ ap (λ (l : List ℕ). get_or l i 0) same in (
      spelled bytes 17 long
          ∙ rw (
            b0,
            b1,
            inner 0 (omega arith),
            inner 1 (omega arith),
            inner 2 (omega arith),
            inner 3 (omega arith),
            inner 4 (omega arith),
            inner 5
                (omega arith),
            inner 6 (omega arith),
            inner 7 (omega arith),
            inner 8 (omega arith),
            b16,
          ),
      (device.0, device.1, sym is),
    )
