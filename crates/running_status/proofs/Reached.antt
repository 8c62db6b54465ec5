-- Every state of the writer is left by some calls from none, because each status byte 80 to EF is the status byte of a channel message in range; and no
-- other state is ever left.
use Rattle.std.specs.Prelude.{None, Option, Some}
use mathlib.Core.Path.{◌≡◌, refl, ◌∙◌, ap, subst}
use mathlib.Core.Bool.{true}
use mathlib.Core.List.{List, [], ◌∷◌}
use Prim.Native.Nat.{ℕ, ◌+◌, ◌%◌, ◌≤◌, ◌<◌}
use native.Mathlib.Omega.{arith}
use lib.Dec.{ltb, leb}
use lib.ListN.{length}
use borrow.Author.Tests.{ltb-true, ltb-false, leb-true, lt-ltb, le-leb}
use Rattle.laws.proofs.Tests.{split, both}
use Rattle.wire.specs.declared.channel_message.ChannelMessage.{ChannelMessage}
use Rattle.wire.specs.declared.channel_message.ChannelMessage.TheVariants as w
use Rattle.wire.specs.ChannelMessage.{status_nibble, channel_bytes, message_in_range}
use Rattle.wire.proofs.channel_message.Bytes.{channel_length}
use Rattle.decoder.specs.State.{limit}
use Rattle.decoder.proofs.Limit.{room_for_three}
use Rattle.damage.specs.Sent.{Voice, sendable}
use Rattle.running_status.specs.RunningStatus.{is_running, Item, OfMessage}
use Rattle.running_status.specs.Sending.{Sending, no_call}
use Rattle.running_status.proofs.Sends.{sending_is_chain, state_is_theirs}
use Rattle.running_status.proofs.CanBeSent.{every_list_is_sent}

-- some message in range has this status byte on this channel
record OfStatus (b : ℕ) : Type 0 where
  message : ChannelMessage
  in_range : message_in_range message ≡ true
  is : status_nibble message + b % 16 ≡ b

message_of : (b : ℕ) → 0x80 ≤ b → b < 0xF0 → OfStatus b
message_of b low high =
    below 0x90 (λ h. record { message = w.NoteOff 0 0; in_range = refl; is = omega arith })
    (λ h8. below 0xA0 (λ h. record { message = w.NoteOn 0 0; in_range = refl; is = omega arith })
    (λ h9. below 0xB0 (λ h. record { message = w.PolyKeyPressure 0 0; in_range = refl; is = omega arith })
    (λ hA. below 0xC0 (λ h. record { message = w.ControlChange 0 0; in_range = refl; is = omega arith })
    (λ hB. below 0xD0 (λ h. record { message = w.ProgramChange 0; in_range = refl; is = omega arith })
    (λ hC. below 0xE0 (λ h. record { message = w.ChannelPressure 0; in_range = refl; is = omega arith })
    (λ hD. record { message = w.PitchBend 0; in_range = refl; is = omega arith }))))))
  where
    below : {P : Type 0} (n : ℕ) → (b < n → P) → (n ≤ b → P) → P
    below n f g = split (ltb b n) (λ t. f (ltb-true b n t)) (λ t. g (ltb-false b n t))

-- 20 is of a state "that no calls from fresh give": every other is given by some calls from none
pub every_state_is_reached : (st : Option ℕ) → is_running st ≡ true → (is : List Item) × (bytes : List ℕ) × Sending None is bytes st
every_state_is_reached None fine = ([], [], no_call)
every_state_is_reached (Some b) fine =
    let range = both (leb 0x80 b) (ltb b 0xF0) fine in
    let found = message_of b (leb-true 0x80 b range.0) (ltb-true b 0xF0 range.1) in
    let m = found.message in
    let short : length (channel_bytes (record { 0 = b % 16 }) m) ≤ limit = omega (arith, (channel_length m).1, room_for_three) in
    let fits : sendable (Voice (record { 0 = b % 16 }) m) ≡ true =
    rw (lt-ltb (b % 16) 16 (omega arith), found.in_range, le-leb (length (channel_bytes (record { 0 = b % 16 }) m)) limit short) in
    let is : List Item = OfMessage (Voice (record { 0 = b % 16 }) m) ∷ [] in
    let sent = every_list_is_sent None refl is (rw fits) in
    (is, sent.0, subst (λ (st : Option ℕ). Sending None is sent.0 st) (state_is_theirs sent.2 refl ∙ ap (λ (n : ℕ). Some n) found.is) sent.2)

-- no calls from none give a state that is refused
pub reached_is_running : {st : Option ℕ} {is : List Item} {bytes : List ℕ} → Sending None is bytes st → is_running st ≡ true
reached_is_running calls = (sending_is_chain calls refl).1
