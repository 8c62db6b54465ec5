-- The reader accepts exactly the frames that the table describes. What passes its tests is put together again as the row, byte by byte, and its
-- run's length is a printed one, since the reader's rule and the printed rows agree; and a row whose fields are in range and whose run has a
-- printed length passes each test. So no reader that turns down all, or always sees 03, meets it.
use mathlib.Core.Path.{◌≡◌, refl, ap, ap₂, sym, subst, ◌∙◌}
use mathlib.Core.Bool.{Bool, true, false, ◌&&◌}
use mathlib.Core.List.{List, [], ◌∷◌, ◌++◌, append_assoc}
use Prim.Native.Nat.{ℕ, ◌+◌, ◌-◌, ◌<◌}
use native.Mathlib.Omega.{arith}
use lib.ListN.{length, get_or, take, drop, length-append, length-drop, get_or-append}
use lib.Seq.{take_at, drop_at, get_or-take}
use borrow.Author.Tests.{eq-eqb, eqb-true}
use Rattle.laws.specs.Choice.{pick, flag}
use Rattle.laws.proofs.Tests.{split}
use Rattle.refusal.specs.Outcome.{Outcome, gives}
use Rattle.ids.specs.Device.{device_byte}
use Rattle.ids.proofs.device.Range.{read_device_in_range, device_reads_back}
use Rattle.command.specs.declared.Command.{Command}
use Rattle.command.specs.declared.Command.TheVariants as k
use Rattle.command.specs.Command.{code_of}
use Rattle.command.specs.Payload as y
use Rattle.command.specs.Payload.{Field, payload_of, carries_run}
use Rattle.command.proofs.Table.{code_reads_back}
use Rattle.framing.proofs.Bytes.{ends_framed}
use Rattle.framing.specs.Framing.{framed, first_high}
use Rattle.message.specs.declared.fields.Fields.{Fields}
use Rattle.message.specs.Prefix.{optional, field_list, fields_in, fields_at, all_fit}
use Rattle.message.proofs.prefix.ByKind.{fields_same, length_wire, version_first}
use Rattle.frame_reader.specs.declared.Record.{Record}
use Rattle.frame_reader.specs.Payload.{accepted, numbered_by, prefix_length}
use Rattle.frame_reader.specs.Reader.{payload, read_record, run_in, run_if, run_of}
use Rattle.frame_reader.proofs.payload.Tests.{optional_is}
use Rattle.frame_reader.proofs.Accepted.{TestedPayload, Tested, tested}
use Rattle.frame_reader.proofs.RunPlace.{same_list, own_list, length_payload, prefix_there}
use Rattle.frame_writer.specs.Writer.{row, own_run}
use Rattle.frames.specs.Lengths.{listed, lengths_of, pattern_alone, pattern_numbered}
use Rattle.frames.specs.Table.{prefix_in, Described}
use Rattle.frames.proofs.RunLengths.{pattern_alone_printed, pattern_numbered_printed, length_passes, run_table}
use Rattle.frames.proofs.BodyLow.{device_low, code_low, row_body_low}
use Rattle.frames.proofs.RoundTrip.{fit_front, prefix_back, run_back, row_again, payload_low, fields_fit}
use Rattle.frames.proofs.Complete.{accepted_if_tested}

-- the fields ahead of a run: a pattern's number counts where it is there
list_length : (c : Command) (b : Bool) → length (field_list c b) ≡ prefix_length c + flag (optional c && b)
list_length c b = go (optional c && b)
  where
    go : (t : Bool) → length (pick t ((payload_of c).fields ++ (y.pattern ∷ [])) (payload_of c).fields) ≡ prefix_length c + flag t
    go true = length-append (payload_of c).fields (y.pattern ∷ [])
    go false = omega arith

-- the test of a payload's length with the version that its fields name
passes_by_version : (c : Command) (f : Fields) (b : Bool) (p : List ℕ) (n : ℕ) → f ≡ fields_at c b p → length_passes c f.version n ≡ length_passes c (get_or p 0 0) n
passes_by_version c f b p n e = go (carries_run c) refl
  where
    go : (t : Bool) → carries_run c ≡ t → length_passes c f.version n ≡ length_passes c (get_or p 0 0) n
    go true h = ap (λ (v : ℕ). length_passes c v n) (ap (λ (g : Fields). g.version) e ∙ version_first c b p h)
    go false h = rw h

module _ (bytes : List ℕ) (r : Record) (d : Tested bytes r) where
  -- a run that the command lacks is not there
  own_run_is : own_run r.command (run_in r bytes) ≡ run_in r bytes
  own_run_is = go (carries_run r.command)
    where
      go : (t : Bool) → pick t (pick t (drop (length (field_list r.command r.fields.has_pattern)) (payload bytes)) []) []
          ≡ pick t (drop (length (field_list r.command r.fields.has_pattern)) (payload bytes)) []
      go true = refl
      go false = refl

  -- the flag for a number is set where the length says so
  flag_is : r.fields.has_pattern ≡ (optional r.command && numbered_by (length (payload bytes)))
  flag_is = ap (λ (f : Fields). f.has_pattern) d.says.says

  -- the payload's length passes, with its first byte as version
  passes : length_passes r.command (get_or (payload bytes) 0 0) (length (payload bytes)) ≡ true
  passes = go (carries_run r.command) refl
    where
      go : (t : Bool) → carries_run r.command ≡ t → length_passes r.command (get_or (payload bytes) 0 0) (length (payload bytes)) ≡ true
      go true h = rw h (d.says.run h)
      go false h = rw (h, eq-eqb (length (payload bytes)) (prefix_length r.command) (d.says.exact h))

  -- behind the fields, a pattern's number counted with the run
  behind : length (payload bytes) - prefix_length r.command ≡ flag r.fields.has_pattern + length (run_in r bytes)
  behind =
      let n = length (field_list r.command r.fields.has_pattern) in
      let run : length (run_in r bytes) ≡ length (payload bytes) - n = ap length (sym own_run_is ∙ run_back bytes r d) ∙ length-drop n (payload bytes) in
      let same : flag r.fields.has_pattern ≡ flag (optional r.command && numbered_by (length (payload bytes))) = ap flag flag_is in
      let list : n ≡ prefix_length r.command + flag (optional r.command && numbered_by (length (payload bytes))) =
      ap length (own_list bytes r d) ∙ list_length r.command (numbered_by (length (payload bytes))) in
      omega (arith, run, same, list, prefix_there bytes r d, length_payload bytes r d)

  described_if_tested : Described bytes r (run_in r bytes)
  described_if_tested =
      record {
        is = sym (row_again bytes r d) ∙ ap (λ (l : List ℕ). row (device_byte r.device) (code_of r.command) (prefix_in r) l) own_run_is;
        device = (read_device_in_range (get_or bytes 5 0) r.device d.device).1;
        fits = fields_fit bytes r d;
        own = own_fields;
        low = ap (λ (l : List ℕ). first_high (prefix_in r ++ l)) (sym own_run_is) ∙ payload_low bytes r d;
        long = printed;
      }
    where
      own_fields : r.fields ≡ fields_at r.command r.fields.has_pattern (prefix_in r)
      own_fields =
          let b : Bool = numbered_by (length (payload bytes)) in
          let l = field_list r.command r.fields.has_pattern in
          let again : (optional r.command && r.fields.has_pattern) ≡ (optional r.command && b) = twice (optional r.command) b r.fields.has_pattern flag_is in
          d.says.says
          ∙ ap₂ (λ (x : List Field) (h : Bool). fields_in x h (payload bytes)) (sym (own_list bytes r d)) (sym again)
          ∙ fields_same l (optional r.command && r.fields.has_pattern) (payload bytes) (prefix_in r) (length l) (omega arith)
          (λ i h. sym (ap (λ (x : List ℕ). get_or x i 0) (prefix_back bytes r d) ∙ get_or-take (length l) (payload bytes) i 0 h))
        where
          twice : (s t u : Bool) → u ≡ (s && t) → (s && u) ≡ (s && t)
          twice true t u e = e
          twice false t u e = refl

      printed : listed (lengths_of r.command r.fields.version r.fields.has_pattern) (flag r.fields.has_pattern + length (run_in r bytes)) ≡ true
      printed =
          let b : Bool = numbered_by (length (payload bytes)) in
          ap₂ (λ (h : Bool) (n : ℕ). listed (lengths_of r.command r.fields.version h) n) flag_is (sym behind)
          ∙ sym (run_table r.command r.fields.version (length (payload bytes)) d.says.long)
          ∙ passes_by_version r.command r.fields b (payload bytes) (length (payload bytes)) d.says.says
          ∙ passes

-- what the reader accepts is described, with the run that it tells
pub described_if_accepted : (bytes : List ℕ) (r : Record) → read_record bytes ≡ gives r → Described bytes r (run_of bytes)
described_if_accepted bytes r e =
    subst (λ (l : List ℕ). Described bytes r l) (ap (λ (o : Outcome Record). run_if o bytes) (sym e)) (described_if_tested bytes r (tested bytes r e))

-- a pattern's number is there just where the length says so
pattern_number : (b : Bool) (n : ℕ) → listed (pick b pattern_numbered pattern_alone) (flag b + n) ≡ true → numbered_by (1 + (flag b + n)) ≡ b
pattern_number true n h =
    let one : 1 + (1 + n) ≡ 1 + n + 1 = omega arith in
    ap numbered_by one ∙ pattern_numbered_printed (1 + n) ∙ h
pattern_number false n h =
    let one : 1 + (0 + n) - 1 ≡ n = omega arith in
    let same : n ≡ 0 + n = omega arith in
    let alone : accepted 65 n ≡ true = pattern_alone_printed n ∙ ap (listed pattern_alone) same ∙ h in
    rw (one, alone)

-- the row between its ends
payload_is : (device code : ℕ) (prefix run : List ℕ) → payload (row device code prefix run) ≡ prefix ++ run
payload_is device code prefix run =
    ap (take (length (row device code prefix run) - 8)) (sym (append_assoc prefix run (0xF7 ∷ [])))
    ∙ take_at (prefix ++ run) (0xF7 ∷ []) (length (row device code prefix run) - 8)
    (omega (arith, length-append prefix run, length-append prefix (run ++ (0xF7 ∷ [])), length-append run (0xF7 ∷ [])))

row_ends : (device code : ℕ) (prefix run : List ℕ) → framed (row device code prefix run) ≡ true
row_ends device code prefix run =
    let xs : List ℕ = 0x00 ∷ 0x20 ∷ 0x32 ∷ 0x20 ∷ device ∷ code ∷ (prefix ++ run) in
    ap (λ (l : List ℕ). framed (0xF0 ∷ 0x00 ∷ 0x20 ∷ 0x32 ∷ 0x20 ∷ device ∷ code ∷ l)) (sym (append_assoc prefix run (0xF7 ∷ []))) ∙ ends_framed xs

module _ (bytes : List ℕ) (r : Record) (run : List ℕ) (d : Described bytes r run) where
  prefix_long : length (prefix_in r) ≡ length (field_list r.command r.fields.has_pattern)
  prefix_long = length_wire true (field_list r.command r.fields.has_pattern) r.fields

  own_flag : r.fields.has_pattern ≡ (optional r.command && r.fields.has_pattern)
  own_flag = ap (λ (f : Fields). f.has_pattern) d.own

  size : length (prefix_in r ++ run) ≡ prefix_length r.command + (flag r.fields.has_pattern + length run)
  size =
      let list : length (field_list r.command r.fields.has_pattern) ≡ prefix_length r.command + flag r.fields.has_pattern =
      list_length r.command r.fields.has_pattern ∙ ap (λ (b : Bool). prefix_length r.command + flag b) (sym own_flag) in
      omega (arith, length-append (prefix_in r) run, prefix_long, list)

  number_flag_is : (optional r.command && numbered_by (length (prefix_in r ++ run))) ≡ r.fields.has_pattern
  number_flag_is = split (optional r.command) at_pattern elsewhere
    where
      at_pattern : optional r.command ≡ true → (optional r.command && numbered_by (length (prefix_in r ++ run))) ≡ r.fields.has_pattern
      at_pattern o =
          let is : r.command ≡ k.UserPatternDumpResponse = optional_is r.command o in
          let b : Bool = r.fields.has_pattern in
          let printed : listed (pick b pattern_numbered pattern_alone) (flag b + length run) ≡ true =
          ap (λ (x : Command). listed (lengths_of x r.fields.version b) (flag b + length run)) (sym is) ∙ d.long in
          let long : length (prefix_in r ++ run) ≡ 1 + (flag b + length run) = size ∙ ap (λ (x : Command). prefix_length x + (flag b + length run)) is in
          ap (λ (t : Bool). t && numbered_by (length (prefix_in r ++ run))) o ∙ ap numbered_by long ∙ pattern_number b (length run) printed

      elsewhere : optional r.command ≡ false → (optional r.command && numbered_by (length (prefix_in r ++ run))) ≡ r.fields.has_pattern
      elsewhere o =
          ap (λ (t : Bool). t && numbered_by (length (prefix_in r ++ run))) o ∙ sym (own_flag ∙ ap (λ (t : Bool). t && r.fields.has_pattern) o)

  -- the fields that the payload is read by are the record's
  field_list_kept : field_list r.command (numbered_by (length (prefix_in r ++ run))) ≡ field_list r.command r.fields.has_pattern
  field_list_kept = sym (same_list r.command (numbered_by (length (prefix_in r ++ run)))) ∙ ap (field_list r.command) number_flag_is

  front : (i : ℕ) → i < length (field_list r.command r.fields.has_pattern) → get_or (prefix_in r) i 0 ≡ get_or (prefix_in r ++ run) i 0
  front i h = sym (get_or-append (prefix_in r) run 0 i (omega (arith, prefix_long)))

  says : r.fields ≡ fields_at r.command (numbered_by (length (prefix_in r ++ run))) (prefix_in r ++ run)
  says =
      let l = field_list r.command r.fields.has_pattern in
      d.own
      ∙ fields_same l (optional r.command && r.fields.has_pattern) (prefix_in r) (prefix_in r ++ run) (length l) (omega arith) front
      ∙ ap₂ (λ (x : List Field) (h : Bool). fields_in x h (prefix_in r ++ run)) (sym field_list_kept) (sym own_flag ∙ sym number_flag_is)

  passes_too : length_passes r.command (get_or (prefix_in r ++ run) 0 0) (length (prefix_in r ++ run)) ≡ true
  passes_too =
      let n : ℕ = length (prefix_in r ++ run) in
      let count : n - prefix_length r.command ≡ flag r.fields.has_pattern + length run = omega (arith, size) in
      sym (passes_by_version r.command r.fields (numbered_by n) (prefix_in r ++ run) n says)
      ∙ run_table r.command r.fields.version n (omega (arith, size))
      ∙ ap₂ (λ (h : Bool) (x : ℕ). listed (lengths_of r.command r.fields.version h) x) number_flag_is count
      ∙ d.long

  payload_passes : TestedPayload r.command (prefix_in r ++ run) r.fields
  payload_passes =
      record {
        says = says;
        fits = ap (λ (l : List Field). all_fit l (prefix_in r ++ run) 0) field_list_kept
            ∙ fit_front (field_list r.command r.fields.has_pattern) (prefix_in r) (prefix_in r ++ run) 0
            (length (field_list r.command r.fields.has_pattern)) (omega arith) front d.fits;
        long = omega (arith, size);
        exact = λ h. eqb-true (length (prefix_in r ++ run)) (prefix_length r.command) (rw h at passes_too);
        run = λ h. rw h at passes_too;
      }

  row_passes : Tested (row (device_byte r.device) (code_of r.command) (prefix_in r) run) r
  row_passes =
      record {
        ends = row_ends (device_byte r.device) (code_of r.command) (prefix_in r) run;
        low = row_body_low (device_byte r.device) (code_of r.command) (prefix_in r) run (device_low r.device d.device) (code_low r.command) d.low;
        long = omega (arith, length-append (prefix_in r) (run ++ (0xF7 ∷ [])), length-append run (0xF7 ∷ []));
        ours = refl;
        device = device_reads_back r.device d.device;
        command = code_reads_back r.command;
        says = subst (λ (l : List ℕ). TestedPayload r.command l r.fields) (sym (payload_is (device_byte r.device) (code_of r.command) (prefix_in r) run)) payload_passes;
      }

  passes_tests : Tested bytes r
  passes_tests = subst (λ (l : List ℕ). Tested l r) (sym d.is) row_passes

  -- the run behind the fields is the described one
  same_run : run_in r bytes ≡ run
  same_run =
      let n = length (field_list r.command r.fields.has_pattern) in
      let between : payload bytes ≡ prefix_in r ++ run = ap payload d.is ∙ payload_is (device_byte r.device) (code_of r.command) (prefix_in r) run in
      sym (own_run_is bytes r passes_tests) ∙ run_back bytes r passes_tests ∙ ap (drop n) between ∙ drop_at (prefix_in r) run n prefix_long

-- what is described the reader accepts, and it tells that run
pub accepted_if_described : (bytes : List ℕ) (r : Record) (run : List ℕ) → Described bytes r run → (read_record bytes ≡ gives r) × (run_of bytes ≡ run)
accepted_if_described bytes r run d =
    let e : read_record bytes ≡ gives r = accepted_if_tested bytes r (passes_tests bytes r run d) in
    (e, ap (λ (o : Outcome Record). run_if o bytes) e ∙ same_run bytes r run d)
