-- What dm_frame_read tells, handed number by number to dm_frame_write, is the same bytes: the numbers name the record that was read, the run lies
-- where it is told, and that record is written as the bytes that it was read from.
use mathlib.Core.Path.{◌≡◌, refl, ap, sym, subst, ◌∙◌}
use mathlib.Core.Bool.{Bool, true, false, ◌&&◌}
use mathlib.Core.List.{List, ◌++◌}
use Prim.Native.Nat.{ℕ, ◌^◌, ◌≤◌, ◌<◌}
use lib.Dec.{leb, eqb}
use lib.ListN.{length, take, drop}
use borrow.Author.Tests.{le-leb}
use Rattle.laws.specs.Choice.{flag}
use Rattle.laws.proofs.Tests.{and_true}
use Rattle.refusal.specs.Outcome.{Outcome, gives}
use Rattle.ids.specs.declared.device.DeviceId.{DeviceId}
use Rattle.command.specs.Command.{code_of}
use Rattle.message.specs.declared.fields.Fields.{Fields}
use Rattle.frame_reader.specs.declared.Record.{Record}
use Rattle.frame_reader.specs.Reader.{read_record, run_in, run_if, place_in}
use Rattle.frame_reader.proofs.RunPlace.{run_lies_there}
use Rattle.frame_writer.specs.Writer.{record_write}
use Rattle.frames.proofs.RoundTrip.{fields_written_again}
use Rattle.host_answer.specs.declared.Answer.{Answer}
use Rattle.host_answer.specs.Answer.{answer_of, Sends, SendsIf}
use Rattle.host_answer.specs.Device.{device_from, everyone_of}
use Rattle.host_answer.proofs.Devices.{device_named_again, everyone_is_a_flag}
use Rattle.host_frames.specs.declared.ReadAnswer.{ReadAnswer}
use Rattle.host_frames.specs.Frames.{read_answer}
use Rattle.host_frames.specs.Sent.{fields_from, pattern_flag_fits, FrameSent}
use Rattle.host_frames.proofs.Read.{number_0_means_read}

-- a flag told as a number is the flag that the number names
flag_again : (b : Bool) → eqb (flag b) 1 ≡ b
flag_again true = refl
flag_again false = refl

fields_again : (f : Fields)
    → fields_from f.free f.version f.bank f.program f.last f.pattern (flag f.has_pattern) f.interface f.rx f.tx ≡ f
fields_again f = rw (flag_again f.has_pattern)

told_flag_fits : (command : ℕ) (b : Bool) → pattern_flag_fits command (flag b) ≡ true
told_flag_fits command true = refl
told_flag_fits command false = refl

-- what dm_frame_write is asked for where it is handed what was told of these bytes: whether the flags name a record, and what it writes
abbrev flags_told : ReadAnswer → Bool
flags_told a = leb a.everyone 1 && pattern_flag_fits a.command a.has_pattern

abbrev sent_again : ReadAnswer → List ℕ → ℕ → Outcome (List ℕ)
sent_again a bytes room =
    record_write (device_from a.everyone a.unit) a.command
    (fields_from a.free a.version a.bank a.program a.last a.pattern a.has_pattern a.interface a.rx a.tx)
    (take a.run_len (drop a.run_start bytes)) room

module _ (bytes : List ℕ) (r : Record) (e : read_record bytes ≡ gives r) where
  flags_name : flags_told (read_answer (read_record bytes) bytes) ≡ true
  flags_name =
      ap (λ (o : Outcome Record). flags_told (read_answer o bytes)) e
      ∙ and_true _ _ (le-leb (everyone_of r.device) 1 (everyone_is_a_flag r.device)) (told_flag_fits (code_of r.command) r.fields.has_pattern)

  told_is_written : (room : ℕ) → length bytes < 2 ^ 64 → length bytes ≤ room → sent_again (read_answer (read_record bytes) bytes) bytes room ≡ gives bytes
  told_is_written room real fits =
      let run : List ℕ = take (length (run_in r bytes)) (drop (place_in r) bytes) in
      let f : Fields = r.fields in
      let told : Fields = fields_from f.free f.version f.bank f.program f.last f.pattern (flag f.has_pattern) f.interface f.rx f.tx in
      ap (λ (o : Outcome Record). sent_again (read_answer o bytes) bytes room) e
      ∙ ap (λ (x : DeviceId). record_write x (code_of r.command) told run room) (device_named_again r.device)
      ∙ ap (λ (x : Fields). record_write r.device (code_of r.command) x run room) (fields_again r.fields)
      ∙ ap (λ (l : List ℕ). record_write r.device (code_of r.command) r.fields l room)
      (run_lies_there bytes r (sym e) ∙ ap (λ (o : Outcome Record). run_if o bytes) (sym e))
      ∙ fields_written_again bytes r room e real fits

-- "A frame read and written again is the same bytes", of the entry points by their contracts. Where dm_frame_read told a of a frame that it read,
-- and dm_frame_write is handed a's numbers, the run from its place in the caller's bytes and a buffer as long as the frame or longer, the frame's
-- bytes stand in the buffer again, and just these were written
pub told_and_sent_again : (bytes : List ℕ) (r : Record) → read_record bytes ≡ gives r → length bytes < 2 ^ 64
    → (a : ReadAnswer) → a ≡ read_answer (read_record bytes) bytes
    → (before afterwards : List ℕ) (answer : Answer) → length bytes ≤ length before
    → FrameSent a.everyone a.unit a.command a.has_pattern
    (fields_from a.free a.version a.bank a.program a.last a.pattern a.has_pattern a.interface a.rx a.tx)
    (take a.run_len (drop a.run_start bytes)) answer before afterwards
    → (answer ≡ answer_of (gives (length bytes))) × (afterwards ≡ bytes ++ drop (length bytes) before)
told_and_sent_again bytes r e real a told before afterwards answer room sent =
    let flags : flags_told a ≡ true = ap flags_told told ∙ flags_name bytes r e in
    let same : sent_again a bytes (length before) ≡ gives bytes =
    ap (λ (x : ReadAnswer). sent_again x bytes (length before)) told ∙ told_is_written bytes r e (length before) real room in
    let named : SendsIf true (sent_again a bytes (length before)) answer before afterwards =
    subst (λ (t : Bool). SendsIf t (sent_again a bytes (length before)) answer before afterwards) flags sent in
    let done : Sends (gives bytes) answer before afterwards = subst (λ (o : Outcome (List ℕ)). Sends o answer before afterwards) same named in
    (done.answers, done.leaves)

-- A C host sees only the number. Where dm_frame_read told a with number 0, and dm_frame_write is handed a's numbers, the run from its place in
-- the caller's bytes and a buffer as long as the frame or longer, the frame's bytes stand in the buffer again, and just these were written:
-- the number 0 says that the frame was read
pub told_with_0_and_sent_again : (bytes : List ℕ) → length bytes < 2 ^ 64
    → (a : ReadAnswer) → a ≡ read_answer (read_record bytes) bytes → a.number ≡ 0
    → (before afterwards : List ℕ) (answer : Answer) → length bytes ≤ length before
    → FrameSent a.everyone a.unit a.command a.has_pattern
    (fields_from a.free a.version a.bank a.program a.last a.pattern a.has_pattern a.interface a.rx a.tx)
    (take a.run_len (drop a.run_start bytes)) answer before afterwards
    → (answer ≡ answer_of (gives (length bytes))) × (afterwards ≡ bytes ++ drop (length bytes) before)
told_with_0_and_sent_again bytes real a told zero before afterwards answer room sent =
    let read = (number_0_means_read bytes a told).0 zero in
    told_and_sent_again bytes read.0 read.1 real a told before afterwards answer room sent
