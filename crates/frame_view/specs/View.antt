-- A frame beside its run: document 01's "record of plain fields beside the caller's packed run" as one struct.
use Rattle.std.specs.Prelude.{List, ℕ, Result, Ok, Err}
use Rattle.refusal.specs.declared.Refusal.{Refusal}
use Rattle.refusal.specs.Outcome.{Outcome, gives, refusal}
use Rattle.std.specs.Borrow.{Bor}
use Rattle.message.specs.declared.head.FrameHead.{FrameHead}
use Rattle.frame_view.specs.declared.frame.Frame.{Frame}

-- what the frame says, with its run where it lies
abbrev pub with_run : FrameHead → Bor (List ℕ) → Frame
with_run said run = record { device = said.device; head = said.head; run = run }

-- what the frame says, without its run
abbrev pub said : Frame → FrameHead
said frame = record { device = frame.device; head = frame.head }

-- the reader's answer, without the run
abbrev pub said_by : Result Frame Refusal → Outcome FrameHead
said_by (Ok frame) = gives (said frame)
said_by (Err e) = refusal e
