-- A message that the reader gives is written as the bytes that it was read from, so it reads back as itself: its head holds the same fields, and
-- its run is the same bytes.
use mathlib.Core.Path.{◌≡◌, refl, ap, ap₂, sym, subst, ◌∙◌}
use mathlib.Core.Bool.{Bool, true, false}
use mathlib.Core.List.{List, [], ◌∷◌}
use Prim.Native.Nat.{ℕ, zero, suc, ◌^◌, ◌≤◌, ◌<◌}
use native.Mathlib.Omega.{arith}
use lib.Dec.{ltb}
use lib.ListN.{length, get_or}
use borrow.Author.Tests.{ltb-true}
use Rattle.laws.proofs.Tests.{both}
use Rattle.refusal.specs.Outcome.{Outcome, gives}
use Rattle.refusal.proofs.Given.{given_first}
use Rattle.ids.specs.Device.{when_device}
use Rattle.command.specs.declared.Command.{Command}
use Rattle.command.specs.declared.Command.TheVariants as k
use Rattle.command.specs.Payload as y
use Rattle.command.proofs.Table.{code_reads_back, same_at_every}
use Rattle.message.specs.declared.fields.Fields.{Fields}
use Rattle.message.specs.declared.head.FrameHead.{FrameHead}
use Rattle.ids.specs.Interface.{interface_at, interface_byte}
use Rattle.message.specs.Fields.{notify_fields}
use Rattle.message.specs.Head.{command_of_head, fields_of, head_from}
use Rattle.message.specs.Prefix.{field_list, fields_at, all_fit}
use Rattle.frame_reader.specs.declared.Record.{Record}
use Rattle.frame_reader.specs.Payload.{numbered_by}
use Rattle.frame_reader.specs.Reader.{payload, read_record, frame_of, parsed, run_of}
use Rattle.frame_reader.proofs.Accepted.{Tested, tested}
use Rattle.frame_writer.specs.Writer.{fields_write, frame_write}
use Rattle.frames.proofs.RoundTrip.{fields_written_again}
use Rattle.frames.proofs.BodyLow.{written_row}

-- the command of a message that was made for a command
command_back : (c : Command) (f : Fields) → command_of_head (head_from c f) ≡ c
command_back c f = same_at_every (λ j. command_of_head (head_from j f)) (λ j. j) refl c

interface_back : (b : ℕ) → b < 3 → interface_byte (interface_at b) ≡ b
interface_back zero h = refl
interface_back (suc zero) h = refl
interface_back (suc (suc zero)) h = refl
interface_back (suc (suc (suc b))) h = absurd (omega arith)

-- the fields of a message that was made from fields in range
fields_back : (c : Command) (b : Bool) (p : List ℕ) → all_fit (field_list c b) p 0 ≡ true → fields_of (head_from c (fields_at c b p)) ≡ fields_at c b p
fields_back k.ControlAppNotifyRequest b p h = refl
fields_back k.ProgramDumpRequest b p h = refl
fields_back k.ProgramDumpResponse b p h = refl
fields_back k.EditBufferDumpRequest b p h = refl
fields_back k.EditBufferDumpResponse b p h = refl
fields_back k.GlobalParameterDumpRequest b p h = refl
fields_back k.GlobalParameterDumpResponse b p h = refl
fields_back k.SingleUserPatternDumpRequest b p h = refl
fields_back k.UserPatternDumpResponse true p h = refl
fields_back k.UserPatternDumpResponse false p h = refl
fields_back k.ProgramBankDumpRequest b p h = refl
fields_back k.BankProgramNamesDumpRequest b p h = refl
fields_back k.BankProgramNamesDumpResponse b p h = refl
fields_back k.SingleProgramNameDumpRequest b p h = refl
fields_back k.SingleProgramNameDumpResponse b p h = refl
fields_back k.EditBufferPatternDumpRequest b p h = refl
fields_back k.ControlAppNotifyResponse b p h =
    ap (λ (x : ℕ). notify_fields (get_or p 0 0) (get_or p 1 0) x (get_or p 3 0) (get_or p 4 0))
    (interface_back (get_or p 2 0) (ltb-true (get_or p 2 0) 3 (both (ltb (get_or p 2 0) 3) (all_fit (y.bank ∷ y.program ∷ []) p 3) h).0))
fields_back k.CalibrationDataDumpRequest b p h = refl
fields_back k.CalibrationDataDumpResponse b p h = refl
fields_back k.ChordMemoryDumpRequest b p h = refl
fields_back k.ChordMemoryDumpResponse b p h = refl
fields_back k.PolyChordMemoryDumpRequest b p h = refl
fields_back k.PolyChordMemoryDumpResponse b p h = refl

head_fields : (bytes : List ℕ) (r : Record) → Tested bytes r → fields_of (frame_of r).head ≡ r.fields
head_fields bytes r d =
    let b : Bool = numbered_by (length (payload bytes)) in
    ap (λ (f : Fields). fields_of (head_from r.command f)) d.says.says ∙ fields_back r.command b (payload bytes) d.says.fits ∙ sym d.says.says

-- what the reader gives is written as the bytes that it was read from
pub frame_written_again : (bytes : List ℕ) (x : FrameHead) (room : ℕ) → parsed bytes ≡ gives x → length bytes < 2 ^ 64 → length bytes ≤ room
    → frame_write x (run_of bytes) room ≡ gives bytes
frame_written_again bytes x room e real fits =
    let g = given_first (read_record bytes) (λ r. gives (frame_of r)) x e in
    let r : Record = g.0 in
    let d : Tested bytes r = tested bytes r g.1 in
    let same : frame_of r ≡ x = cc in
    let fields : fields_write r.device (command_of_head (frame_of r).head) (fields_of (frame_of r).head) (run_of bytes) room ≡ fields_write r.device
    r.command r.fields (run_of bytes) room =
    ap₂ (λ (c : Command) (f : Fields). fields_write r.device c f (run_of bytes) room) (command_back r.command r.fields) (head_fields bytes r d) in
    subst (λ (z : FrameHead). frame_write z (run_of bytes) room ≡ gives bytes) same
    (ap (λ (o : Outcome (List ℕ)). when_device r.device o) fields
    ∙ rw (code_reads_back r.command) at (fields_written_again bytes r room g.1 real fits))

-- what is written of a message that the reader gave, into a room of its length or more, reads back as that message, its run included
pub frame_reads_back : (bytes later : List ℕ) (x : FrameHead) (room : ℕ) → parsed bytes ≡ gives x → length bytes < 2 ^ 64 → length bytes ≤ room
    → frame_write x (run_of bytes) room ≡ gives later → (parsed later ≡ gives x) × (run_of later ≡ run_of bytes)
frame_reads_back bytes later x room e real fits w =
    let once : gives later ≡ gives bytes = sym w ∙ frame_written_again bytes x room e real fits in
    let same : later ≡ bytes = cc in
    (ap parsed same ∙ e, ap run_of same)

-- what is written of a message that the reader gave reads back as that message, its run included, whatever the room: that it was written
-- says that the room was enough
pub frame_reads_back_in_any_room : (bytes later : List ℕ) (x : FrameHead) (room : ℕ) → parsed bytes ≡ gives x → length bytes < 2 ^ 64
    → frame_write x (run_of bytes) room ≡ gives later → (parsed later ≡ gives x) × (run_of later ≡ run_of bytes)
frame_reads_back_in_any_room bytes later x room e real w =
    let again = frame_written_again bytes x (length bytes) e real (omega arith) in
    let once : gives later ≡ gives bytes = sym (written_row x (run_of bytes) room later w).1 ∙ (written_row x (run_of bytes) (length bytes) bytes again).1 in
    let same : later ≡ bytes = cc in
    (ap parsed same ∙ e, ap run_of same)
