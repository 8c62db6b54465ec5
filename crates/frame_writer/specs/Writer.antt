-- The frame writer of document 01: "checks hand-made fields (5, also for a unit above 0F, then 6 where the command is given as a byte, then
-- 8, 12, 9, 10, 11 in wire order), 22, 14, then 2; it checks no run length."
use Rattle.std.specs.Prelude.{List, [], ◌∷◌, ◌++◌, ℕ, ◌+◌, ◌^◌, ltb, leb, length}
use Rattle.laws.specs.Choice.{pick}
use Rattle.refusal.specs.Outcome.{Outcome, gives, unless, and_then}
use Rattle.ids.specs.declared.device.DeviceId.{DeviceId}
use Rattle.ids.specs.Device.{device_byte, when_device}
use Rattle.command.specs.declared.Command.{Command}
use Rattle.command.specs.Command.{code_of, command_of}
use Rattle.framing.specs.Framing.{when_seven_bit, maker}
use Rattle.message.specs.declared.fields.Fields.{Fields}
use Rattle.message.specs.declared.head.Head.{Head}
use Rattle.message.specs.declared.head.FrameHead.{FrameHead}
use Rattle.message.specs.Head.{command_of_head, fields_of}
use Rattle.command.specs.Payload.{carries_run}
use Rattle.message.specs.Prefix.{prefix_of, checked_fields}

-- "Row: F0 00 20 32 20, device, command, payload, F7"
abbrev pub header : ℕ → ℕ → List ℕ
header device code = 0xF0 ∷ maker ++ (device ∷ code ∷ [])

-- the payload is a prefix and a run
abbrev pub row : ℕ → ℕ → List ℕ → List ℕ → List ℕ
row device code prefix run = header device code ++ (prefix ++ (run ++ (0xF7 ∷ [])))

-- a run that the command lacks is not written
abbrev pub own_run : Command → List ℕ → List ℕ
own_run k run = pick (carries_run k) run []

-- the frame's length: 22 where the machine cannot hold it
abbrev pub length_for : Command → ℕ → ℕ → Outcome ℕ
length_for k prefix run =
    unless (ltb (8 + prefix + pick (carries_run k) run 0) (2 ^ 64)) 22 [] (gives (8 + prefix + pick (carries_run k) run 0))

-- how long a message's frame is: its command and its fields fix the prefix
abbrev pub head_length : Head → ℕ → Outcome ℕ
head_length m run = length_for (command_of_head m) (length (prefix_of (command_of_head m) (fields_of m))) run

-- 2: the first byte of 80 or above in prefix and run
abbrev pub seven_bit_write : DeviceId → Command → List ℕ → List ℕ → Outcome (List ℕ)
seven_bit_write d k prefix run = when_seven_bit (prefix ++ run) (gives (row (device_byte d) (code_of k) prefix run))

-- 14 with the length needed and the room
abbrev pub room_write : DeviceId → Command → List ℕ → List ℕ → ℕ → ℕ → Outcome (List ℕ)
room_write d k prefix run room n = unless (leb n room) 14 (n ∷ room ∷ []) (seven_bit_write d k prefix run)

-- fields in wire order, 22, 14, 2
abbrev pub fields_write : DeviceId → Command → Fields → List ℕ → ℕ → Outcome (List ℕ)
fields_write d k f run room =
    and_then (checked_fields k f)
    (λ own. and_then (length_for k (length (prefix_of k f)) (length run)) (λ n. room_write d k (prefix_of k f) (own_run k run) room n))

-- 5 first
abbrev pub frame_write : FrameHead → List ℕ → ℕ → Outcome (List ℕ)
frame_write x run room =
    when_device x.device (fields_write x.device (command_of_head x.head) (fields_of x.head) run room)

-- 5, then 6
abbrev pub record_write : DeviceId → ℕ → Fields → List ℕ → ℕ → Outcome (List ℕ)
record_write d c f run room = when_device d (and_then (command_of c) (λ k. fields_write d k f run room))
