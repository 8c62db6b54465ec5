-- A frame read and written again, as one call.
use Rattle.std.specs.Prelude.{List, ℕ}
use Rattle.refusal.specs.Outcome.{Outcome, and_then}
use Rattle.frame_reader.specs.Reader.{parsed, run_of}
use Rattle.frame_writer.specs.Writer.{frame_write}

-- what the reader gives is written, with its run, into so much room; a frame that the reader refuses gets the reader's refusal
abbrev pub written_again : List ℕ → ℕ → Outcome (List ℕ)
written_again bytes room = and_then (parsed bytes) (λ x. frame_write x (run_of bytes) room)
