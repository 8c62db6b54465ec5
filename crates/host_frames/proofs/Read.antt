-- A C host sees only the number that dm_frame_read answers. It is 0 exactly where the frame was read, because every refusal's number stands in the
-- table, which begins at 1.
use mathlib.Core.Path.{◌≡◌, refl, ap, sym, ◌∙◌}
use mathlib.Core.List.{List}
use Prim.Native.Nat.{ℕ}
use Rattle.refusal.specs.Outcome.{Outcome, gives, refused}
use Rattle.refusal.proofs.Numbered.{number_told, given_where_0}
use Rattle.frame_reader.specs.declared.Record.{Record}
use Rattle.frame_reader.specs.Reader.{read_record}
use Rattle.frame_reader.proofs.Numbered.{record_numbered}
use Rattle.host_frames.specs.declared.ReadAnswer.{ReadAnswer}
use Rattle.host_frames.specs.Frames.{read_answer}

number_told_is : (o : Outcome Record) (bytes : List ℕ) → (read_answer o bytes).number ≡ number_told o
number_told_is (gives r) bytes = refl
number_told_is (refused n vs) bytes = refl

pub number_0_means_read : (bytes : List ℕ) (a : ReadAnswer) → a ≡ read_answer (read_record bytes) bytes
    → (a.number ≡ 0 → (r : Record) × (read_record bytes ≡ gives r)) × ((r : Record) → read_record bytes ≡ gives r → a.number ≡ 0)
number_0_means_read bytes a told =
    let number : a.number ≡ number_told (read_record bytes) = ap (λ (x : ReadAnswer). x.number) told ∙ number_told_is (read_record bytes) bytes in
    (λ z. given_where_0 (read_record bytes) (record_numbered bytes) (sym number ∙ z), λ r e. number ∙ ap number_told e)
