-- What the frame writer writes has a body below 80, because it tests prefix and run, and the bytes ahead of them are all small.
use Rattle.std.specs.Prelude.{None}
use mathlib.Core.Path.{◌≡◌, refl, sym, ◌∙◌, ap, subst}
use mathlib.Core.Bool.{true}
use mathlib.Core.List.{List, [], ◌∷◌, ◌++◌, append_assoc}
use Prim.Native.Nat.{ℕ, ◌<◌}
use native.Mathlib.Omega.{arith}
use lib.Dec.{leb, ltb}
use lib.ListN.{length}
use borrow.Author.Tests.{lt-ltb, ltb-true}
use Rattle.refusal.specs.Outcome.{gives}
use Rattle.refusal.proofs.Given.{passed, passed_on, given_first}
use Rattle.ids.specs.declared.device.DeviceId.{DeviceId}
use Rattle.ids.specs.declared.device.DeviceId.TheVariants as d
use Rattle.ids.specs.Device.{device_byte, device_in_range}
use Rattle.command.specs.declared.Command.{Command}
use Rattle.command.specs.Command.{code_of}
use Rattle.command.proofs.Table.{of_every}
use Rattle.framing.specs.Framing.{body, first_high}
use Rattle.framing.proofs.Bytes.{body_is, no_high}
use Rattle.message.specs.declared.head.FrameHead.{FrameHead}
use Rattle.message.specs.Head.{command_of_head, fields_of}
use Rattle.message.specs.Prefix.{prefix_of, checked_fields}
use Rattle.frame_writer.specs.Writer.{row, own_run, length_for, seven_bit_write, room_write, fields_write, frame_write}

-- a device in range and a code are below 80
pub device_low : (x : DeviceId) → device_in_range x ≡ true → device_byte x < 0x80
device_low (d.Unit n) h = omega (arith, ltb-true n 16 h)
device_low d.Broadcast h = omega arith

pub code_low : (c : Command) → code_of c < 0x80
code_low c = ltb-true (code_of c) 0x80 (of_every (λ j. ltb (code_of j) 0x80) refl c)

-- the row's body
pub row_body_low : (device code : ℕ) (prefix run : List ℕ) → device < 0x80 → code < 0x80 → first_high (prefix ++ run) ≡ None
    → first_high (body (row device code prefix run)) ≡ None
row_body_low device code prefix run h g low =
    let xs : List ℕ = 0x00 ∷ 0x20 ∷ 0x32 ∷ 0x20 ∷ device ∷ code ∷ (prefix ++ run) in
    let same : row device code prefix run ≡ 0xF0 ∷ xs ++ (0xF7 ∷ []) =
    ap (λ (l : List ℕ). 0xF0 ∷ 0x00 ∷ 0x20 ∷ 0x32 ∷ 0x20 ∷ device ∷ code ∷ l) (sym (append_assoc prefix run (0xF7 ∷ []))) in
    ap (λ (l : List ℕ). first_high (body l)) same ∙ ap first_high (body_is xs) ∙ rw (lt-ltb device 0x80 h, lt-ltb code 0x80 g) low

-- what the writer writes is the row of a device in range, tested for bytes of 80 and above: the room plays no part in it
pub written_row : (x : FrameHead) (run : List ℕ) (room : ℕ) (bytes : List ℕ) → frame_write x run room ≡ gives bytes
    → (device_in_range x.device ≡ true)
    × (seven_bit_write x.device (command_of_head x.head) (prefix_of (command_of_head x.head) (fields_of x.head)) (own_run (command_of_head x.head) run)
    ≡ gives bytes)
written_row x run room bytes e =
    let c = command_of_head x.head in
    let f = fields_of x.head in
    let rest = fields_write x.device c f run room in
    let one = given_first (checked_fields c f) _ bytes (passed_on (device_in_range x.device) 5 (device_byte x.device ∷ []) rest bytes e) in
    let two = given_first (length_for c (length (prefix_of c f)) (length run)) (λ n. room_write x.device c (prefix_of c f) (own_run c run) room n) bytes one.2 in (
      passed (device_in_range x.device) 5 (device_byte x.device ∷ []) rest bytes e,
      passed_on (leb two.0 room) 14 (two.0 ∷ room ∷ []) (seven_bit_write x.device c (prefix_of c f) (own_run c run)) bytes two.2,
    )

pub written_body_low : (x : FrameHead) (run : List ℕ) (room : ℕ) (bytes : List ℕ) → frame_write x run room ≡ gives bytes → first_high (body bytes) ≡ None
written_body_low x run room bytes e =
    let c = command_of_head x.head in
    let f = fields_of x.head in
    let w = written_row x run room bytes e in
    let four = no_high (first_high (prefix_of c f ++ own_run c run)) (gives (row (device_byte x.device) (code_of c) (prefix_of c f) (own_run c run))) bytes w.1 in
    let last : gives (row (device_byte x.device) (code_of c) (prefix_of c f) (own_run c run)) ≡ gives bytes = four.1 in
    let same : row (device_byte x.device) (code_of c) (prefix_of c f) (own_run c run) ≡ bytes = cc in
    subst (λ (l : List ℕ). first_high (body l) ≡ None) same
    (row_body_low (device_byte x.device) (code_of c) (prefix_of c f) (own_run c run) (device_low x.device w.0) (code_low c) four.0)
