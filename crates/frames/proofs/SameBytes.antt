-- A frame that one call reads and writes again is the same bytes: what the reader gives and the run behind it are written as the bytes that
-- they were read from, and the call writes what its definition gives.
use Rattle.std.specs.Prelude.{Err, Ok, Result}
use mathlib.Core.Path.{◌≡◌, ap, ◌∙◌}
use mathlib.Core.List.{List, ◌++◌}
use Prim.Native.Nat.{ℕ, ◌^◌, ◌≤◌, ◌<◌}
use lib.ListN.{length, drop}
use Rattle.refusal.specs.Outcome.{Outcome, gives, refused, and_then, answered, count_of, after, Writes}
use Rattle.message.specs.declared.head.FrameHead.{FrameHead}
use Rattle.frame_reader.specs.Reader.{parsed, run_of}
use Rattle.frame_writer.specs.Writer.{frame_write}
use Rattle.frame_view.specs.Again.{written_again}
use Rattle.frames.proofs.Heads.{frame_written_again}
use Rattle.refusal.specs.declared.Refusal.{Refusal}

-- an accepted frame, with room for it, is written as itself
pub written_as_read : (bytes : List ℕ) (x : FrameHead) (room : ℕ) → parsed bytes ≡ gives x → length bytes < 2 ^ 64 → length bytes ≤ room → written_again bytes room ≡ gives bytes
written_as_read bytes x room e real fits =
    ap (λ (o : Outcome FrameHead). and_then o (λ y. frame_write y (run_of bytes) room)) e ∙ frame_written_again bytes x room e real fits

-- a count is the answer where one is given
count_given : (r : Result ℕ Refusal) (n : ℕ) → answered r ≡ gives n → r ≡ Ok n
count_given (Ok m) n e = let same : m ≡ n = cc in ap (λ (k : ℕ). Ok k) same
count_given (Err f) n e = cc

-- a call that writes an accepted frame again answers its length, and the frame stands at the front of the buffer, whose other bytes stay
pub same_bytes_again : (bytes out later : List ℕ) (x : FrameHead) (r : Result ℕ Refusal) → parsed bytes ≡ gives x → length bytes < 2 ^ 64 → length bytes ≤ length out
    → Writes (written_again bytes (length out)) r out later → (r ≡ Ok (length bytes)) × (later ≡ bytes ++ drop (length bytes) out)
same_bytes_again bytes out later x r e real fits w =
    let same : written_again bytes (length out) ≡ gives bytes = written_as_read bytes x (length out) e real fits in
    (count_given r (length bytes) (w.answers ∙ ap count_of same), w.leaves ∙ ap (λ (o : Outcome (List ℕ)). after o out) same)

-- a refused frame gets the reader's refusal, and the buffer stays
pub refused_again : (bytes out later : List ℕ) (n : ℕ) (values : List ℕ) (r : Result ℕ Refusal) → parsed bytes ≡ refused n values
    → Writes (written_again bytes (length out)) r out later → (answered r ≡ refused n values) × (later ≡ out)
refused_again bytes out later n values r e w =
    let same : written_again bytes (length out) ≡ refused n values = ap (λ (o : Outcome FrameHead). and_then o (λ y. frame_write y (run_of bytes) (length out))) e in
    (w.answers ∙ ap count_of same, w.leaves ∙ ap (λ (o : Outcome (List ℕ)). after o out) same)
