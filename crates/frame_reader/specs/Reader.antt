-- The frame reader of document 01, test by test: "framing (1); a body byte 80 or above (2, the first such); under eight bytes (3); maker
-- and model (4); device (5); command (6); then payload."
use Rattle.std.specs.Prelude.{◌≡◌, List, [], ◌∷◌, ℕ, ◌+◌, ◌-◌, leb, length, get_or, take, drop}
use Rattle.std.specs.Borrow.{Bor}
use Rattle.laws.specs.Choice.{pick}
use Rattle.refusal.specs.Outcome.{Outcome, gives, refused, unless, and_then}
use Rattle.ids.specs.Device.{device_of}
use Rattle.command.specs.Command.{command_of}
use Rattle.framing.specs.Framing.{when_framed, when_seven_bit, body, same_bytes}
pub use Rattle.framing.specs.Framing.{maker}
use Rattle.message.specs.declared.head.FrameHead.{FrameHead}
use Rattle.message.specs.Head.{head_from}
use Rattle.command.specs.Payload.{carries_run}
use Rattle.message.specs.Prefix.{field_list}
use Rattle.frame_reader.specs.Payload.{read_payload}
use Rattle.frame_reader.specs.declared.Record.{Record}
use Rattle.frame_reader.specs.declared.Located.{Located}

-- "Row: F0 00 20 32 20, device, command, payload, F7"
abbrev pub payload : List ℕ → List ℕ
payload bytes = take (length bytes - 8) (drop 7 bytes)

-- "device (5); command (6); then payload"
abbrev pub read_command : List ℕ → Outcome Record
read_command bytes =
    and_then (device_of (get_or bytes 5 0))
    (λ d. and_then (command_of (get_or bytes 6 0))
    (λ k. and_then (read_payload k (payload bytes)) (λ f. gives (record { device = d; command = k; fields = f }))))

-- "under eight bytes (3); maker and model (4)", with the four bytes found there
abbrev pub read_header : List ℕ → Outcome Record
read_header bytes =
    unless (leb 8 (length bytes)) 3 (length bytes ∷ [])
    (unless (same_bytes (take 4 (drop 1 bytes)) maker) 4 (get_or bytes 1 0 ∷ get_or bytes 2 0 ∷ get_or bytes 3 0 ∷ get_or bytes 4 0 ∷ [])
    (read_command bytes))

-- the whole reader: "framing (1); a body byte 80 or above (2, the first such)", then the header
unfoldable pub read_record : List ℕ → Outcome Record
read_record bytes = when_framed bytes (when_seven_bit (body bytes) (read_header bytes))

-- the frame with its message
abbrev pub frame_of : Record → FrameHead
frame_of r = record { device = r.device; head = head_from r.command r.fields }

-- the whole reader with the message in place of plain fields: the Rust's `Frame::parse`
abbrev pub parsed : List ℕ → Outcome FrameHead
parsed bytes = and_then (read_record bytes) (λ r. gives (frame_of r))

-- the run of an accepted frame, behind the prefix; empty where the command has none
abbrev pub run_in : Record → List ℕ → List ℕ
run_in r bytes = pick (carries_run r.command) (drop (length (field_list r.command r.fields.has_pattern)) (payload bytes)) []

-- the run of what the reader gave; empty where it gave a refusal
abbrev pub run_if : Outcome Record → List ℕ → List ℕ
run_if (gives r) bytes = run_in r bytes
run_if (refused n vs) bytes = []

-- the run of some bytes read as a frame; empty for a frame that is refused
abbrev pub run_of : List ℕ → List ℕ
run_of bytes = run_if (read_record bytes) bytes

-- where the run begins: behind the seven bytes of the header and the prefix; 0 where there is no run
abbrev pub place_in : Record → ℕ
place_in r = pick (carries_run r.command) (7 + length (field_list r.command r.fields.has_pattern)) 0

-- where the run of what the reader gave begins; 0 where it gave a refusal
abbrev pub place_if : Outcome Record → ℕ
place_if (gives r) = place_in r
place_if (refused n vs) = 0

-- where the run of a frame begins, 0 for a frame that is refused
abbrev pub run_place : List ℕ → ℕ
run_place bytes = place_if (read_record bytes)

-- "a record of plain fields beside the caller's packed run": the record, and where the run lies in the caller's bytes
abbrev pub with_place : List ℕ → Record → Located
with_place bytes r = record { frame = r; run = record { start = place_in r; len = length (run_in r bytes) } }

-- the reader's answer with the run's place
abbrev pub read_located : List ℕ → Outcome Located
read_located bytes = and_then (read_record bytes) (λ r. gives (with_place bytes r))

-- the run is no copy: it is these bytes, so many places behind the first of the caller's
pub record RunLent (bytes run : Bor (List ℕ)) : Type 0 where
  pub lies : run.ref_ptr ≡ (bytes.ref_ptr.0, run_place bytes.now + bytes.ref_ptr.1)
  pub reads : run.now ≡ run_of bytes.now
