-- Every request and every reply that is refused gets a number of document 01's table: 1, 15 or 16, 5.
use mathlib.Core.Path.{◌≡◌, refl}
use mathlib.Core.Bool.{true}
use mathlib.Core.List.{List, []}
use Prim.Native.Nat.{ℕ}
use lib.ListN.{get_or}
use Rattle.refusal.specs.Outcome.{gives, unless, and_then}
use Rattle.refusal.proofs.Numbered.{numbered, unless_numbered, then_numbered}
use Rattle.ids.specs.Device.{device_of}
use Rattle.ids.proofs.device.Range.{device_numbered}
use Rattle.framing.specs.Framing.{framed}
use Rattle.inquiry.specs.Request.{is_request, read_request}
use Rattle.inquiry.specs.Reply.{is_reply, identity_at, read_reply}

pub request_numbered : (bytes : List ℕ) → numbered (read_request bytes) ≡ true
request_numbered bytes =
    let device = device_of (get_or bytes 2 0) in
    unless_numbered (framed bytes) 1 [] (unless (is_request bytes) 15 [] device) refl
    (unless_numbered (is_request bytes) 15 [] device refl (device_numbered (get_or bytes 2 0)))

pub reply_numbered : (bytes : List ℕ) → numbered (read_reply bytes) ≡ true
reply_numbered bytes =
    let inside = and_then (device_of (get_or bytes 2 0)) (λ d. gives (identity_at d bytes)) in
    unless_numbered (framed bytes) 1 [] (unless (is_reply bytes) 16 [] inside) refl
    (unless_numbered (is_reply bytes) 16 [] inside refl
    (then_numbered (device_of (get_or bytes 2 0)) (λ d. gives (identity_at d bytes)) (device_numbered (get_or bytes 2 0)) (λ d. refl)))
