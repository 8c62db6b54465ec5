-- A frame that is read and written again is the same bytes: the writer puts back every byte that the reader took apart.
use Rattle.std.specs.Prelude.{None}
use mathlib.Core.Path.{◌≡◌, refl, ap, ap₂, sym, ◌∙◌}
use mathlib.Core.Bool.{Bool, true, false, ◌&&◌}
use mathlib.Core.List.{List, [], ◌∷◌, ◌++◌, append_assoc}
use Prim.Native.Nat.{ℕ, suc, ◌+◌, ◌-◌, ◌^◌, ◌≤◌, ◌<◌}
use native.Mathlib.Omega.{arith}
use lib.Dec.{leb, eqb}
use lib.ListN.{length, get_or, take, drop, length-append, length-drop, take-append-drop, drop_of_length-le}
use lib.Seq.{take-suc, drop-drop, take-add, take_all, length-take-le, get_or-take, get_or-drop}
use borrow.Author.Tests.{eqb-true, lt-ltb, le-leb}
use Rattle.laws.specs.Choice.{pick}
use Rattle.laws.specs.Tabulate.{tab}
use Rattle.laws.proofs.Tests.{both}
use Rattle.laws.proofs.Tabulate.{tab_same}
use Rattle.refusal.specs.Outcome.{gives}
use Rattle.ids.specs.Device.{device_byte, device_in_range}
use Rattle.ids.proofs.device.Range.{read_device_in_range}
use Rattle.command.specs.declared.Command.{Command}
use Rattle.command.specs.Command.{code_of, commands}
use Rattle.command.specs.Payload.{Field, carries_run}
use Rattle.command.specs.Laws.{read_code}
use Rattle.command.proofs.Table.{code_reads_back, same_at_every}
use Rattle.framing.specs.Framing.{body, first_high}
use Rattle.framing.proofs.Bytes.{spelled, high_none_behind}
use Rattle.message.specs.declared.fields.Fields.{Fields}
use Rattle.message.specs.Prefix.{field_list, fields_at, wire, prefix_of, all_fit, field_fits, checked_fields}
use Rattle.frame_reader.specs.declared.Record.{Record}
use Rattle.frame_reader.specs.Payload.{numbered_by, prefix_length}
use Rattle.frame_reader.specs.Reader.{payload, maker, read_record, run_in, run_of}
use Rattle.frame_reader.proofs.Accepted.{Tested, tested, fit_given, no_option}
use Rattle.frame_reader.proofs.RunPlace.{own_list, length_payload, prefix_there}
use Rattle.frame_writer.specs.Writer.{header, row, own_run, record_write}

-- the first n bytes, byte by byte
front_spelled : (p : List ℕ) (n : ℕ) → n ≤ length p → take n p ≡ tab (λ i. get_or p i 0) n
front_spelled p n h =
    spelled (take n p) n (length-take-le n p h) ∙ tab_same (λ i. get_or (take n p) i 0) (λ i. get_or p i 0) n (λ i b. get_or-take n p i 0 b)

-- a payload's fields as they are written, and as many bytes as it has of them
abbrev wire_of : Bool → List ℕ → Command → List ℕ
wire_of b p c = wire true (field_list c b) (fields_at c b p)

abbrev first_bytes : Bool → List ℕ → Command → List ℕ
first_bytes b p c = tab (λ i. get_or p i 0) (length (field_list c b))

-- fields that were read from bytes are written as these bytes
wire_back : (c : Command) (b : Bool) (p : List ℕ) → wire_of b p c ≡ first_bytes b p c
wire_back c true p = same_at_every (wire_of true p) (first_bytes true p) refl c
wire_back c false p = same_at_every (wire_of false p) (first_bytes false p) refl c

-- a command without a run has no number to count
exact_list : (c : Command) (b : Bool) → carries_run c ≡ false → length (field_list c b) ≡ prefix_length c
exact_list c b h = rw (no_option c h)

-- fields fit by their bytes alone
pub fit_front : (l : List Field) (p q : List ℕ) (i n : ℕ) → i + length l ≤ n → ((j : ℕ) → j < n → get_or p j 0 ≡ get_or q j 0) → all_fit l p i ≡ true → all_fit l q i ≡ true
fit_front [] p q i n h same fit = refl
fit_front (f ∷ l) p q i n h same fit =
    let b : get_or p i 0 ≡ get_or q i 0 = same i (omega arith) in
    let here = (both (field_fits f (get_or p i 0)) (all_fit l p (suc i)) fit).0 in
    rw (← b, here) (fit_front l p q (suc i) n (omega arith) same (both (field_fits f (get_or p i 0)) (all_fit l p (suc i)) fit).1)

module _ (bytes : List ℕ) (r : Record) (d : Tested bytes r) where
  abbrev p : List ℕ
  p = payload bytes

  abbrev n : ℕ
  n = length (field_list r.command r.fields.has_pattern)

  -- the prefix that is written is the front of the payload
  pub prefix_back : prefix_of r.command r.fields ≡ take n p
  prefix_back =
      let b : Bool = numbered_by (length (payload bytes)) in
      ap₂ (λ (l : List Field) (f : Fields). wire true l f) (own_list bytes r d) d.says.says
      ∙ wire_back r.command b (payload bytes)
      ∙ ap (λ (l : List Field). tab (λ i. get_or (payload bytes) i 0) (length l)) (sym (own_list bytes r d))
      ∙ sym (front_spelled (payload bytes) (length (field_list r.command r.fields.has_pattern)) (omega (arith, prefix_there bytes r d, length_payload bytes r d)))

  -- the run that is written is the payload behind its fields
  pub run_back : own_run r.command (run_in r bytes) ≡ drop n p
  run_back = go (carries_run r.command) refl
    where
      go : (t : Bool) → carries_run r.command ≡ t → pick t
          (pick t (drop (length (field_list r.command r.fields.has_pattern)) (payload bytes)) []) [] ≡ drop
          (length (field_list r.command r.fields.has_pattern)) (payload bytes)
      go true e = refl
      go false e =
          sym
          (drop_of_length-le (payload bytes) {i = length (field_list r.command r.fields.has_pattern)}
          (omega (arith, d.says.exact e, exact_list r.command r.fields.has_pattern e)))

  -- the payload and F7 stand behind the seven bytes of the header
  rest_is : drop 7 bytes ≡ p ++ (0xF7 ∷ [])
  rest_is =
      let m : ℕ = length bytes - 8 in
      let ends : Bool = leb 2 (length bytes) && eqb (get_or bytes 0 0) 0xF0 in
      let last : get_or bytes (length bytes - 1) 0 ≡ 0xF7 = eqb-true (get_or bytes (length bytes - 1) 0) 0xF7 (both ends (eqb (get_or bytes (length bytes - 1) 0) 0xF7) d.ends).1 in
      let size : length (drop 7 bytes) ≡ suc m = simp length-drop (omega (arith, d.long)) in
      let place : 7 + m ≡ length bytes - 1 = omega (arith, d.long) in
      sym (take_all (suc m) (drop 7 bytes) (omega (arith, size)))
      ∙ take-suc (drop 7 bytes) m 0 (omega (arith, size))
      ∙ ap (λ (x : ℕ). take m (drop 7 bytes) ++ (x ∷ [])) (get_or-drop 7 bytes m 0 ∙ ap (λ (x : ℕ). get_or bytes x 0) place ∙ last)

  -- the header that is written is the frame's first seven bytes
  header_is : take 7 bytes ≡ header (device_byte r.device) (code_of r.command)
  header_is =
      let ends : Bool = leb 2 (length bytes) && eqb (get_or bytes 0 0) 0xF0 in
      let b0 : get_or bytes 0 0 ≡ 0xF0 = eqb-true (get_or bytes 0 0) 0xF0
      (both (leb 2 (length bytes)) (eqb (get_or bytes 0 0) 0xF0) (both ends (eqb (get_or bytes (length bytes - 1) 0) 0xF7) d.ends).0).1 in
      let at : (i : ℕ) → i < 4 → get_or bytes (1 + i) 0 ≡ get_or maker i 0 = λ i h. sym (get_or-drop 1 bytes i 0) ∙ sym (get_or-take 4 (drop 1 bytes) i 0 h) ∙
      ap (λ (l : List ℕ). get_or l i 0) d.ours in
      let b1 : get_or bytes 1 0 ≡ 0x00 = at 0 (omega arith) in
      let b2 : get_or bytes 2 0 ≡ 0x20 = at 1 (omega arith) in
      let b3 : get_or bytes 3 0 ≡ 0x32 = at 2 (omega arith) in
      let b4 : get_or bytes 4 0 ≡ 0x20 = at 3 (omega arith) in
      let b5 : device_byte r.device ≡ get_or bytes 5 0 = (read_device_in_range (get_or bytes 5 0) r.device d.device).0 in
      let b6 : code_of r.command ≡ get_or bytes 6 0 = read_code commands (get_or bytes 6 0) r.command d.command in
      front_spelled bytes 7 (omega (arith, d.long)) ∙ rw (b0, b1, b2, b3, b4, ← b5, ← b6)

  -- read and written again: the same bytes
  pub row_again : row (device_byte r.device) (code_of r.command) (prefix_of r.command r.fields) (own_run r.command (run_in r bytes)) ≡ bytes
  row_again =
      let h : List ℕ = header (device_byte r.device) (code_of r.command) in
      let cut : ℕ = length (field_list r.command r.fields.has_pattern) in
      ap₂ (λ (x z : List ℕ). h ++ (x ++ (z ++ (0xF7 ∷ [])))) prefix_back run_back
      ∙ ap (λ (x : List ℕ). h ++ x)
      (sym (append_assoc (take cut (payload bytes)) (drop cut (payload bytes)) (0xF7 ∷ [])) ∙ ap (λ (x : List ℕ). x ++ (0xF7 ∷ [])) (take-append-drop cut (payload bytes)))
      ∙ ap₂ (λ (x z : List ℕ). x ++ z) (sym header_is) (sym rest_is)
      ∙ take-append-drop 7 bytes

  -- no byte of the payload is 80 or above
  pub payload_low : first_high (prefix_of r.command r.fields ++ own_run r.command (run_in r bytes)) ≡ None
  payload_low =
      let cut : ℕ = length (field_list r.command r.fields.has_pattern) in
      let whole : prefix_of r.command r.fields ++ own_run r.command (run_in r bytes) ≡ payload bytes = ap₂ (λ (x z : List ℕ). x ++ z)
      prefix_back run_back ∙ take-append-drop cut (payload bytes) in
      let count : length bytes - 2 ≡ 6 + (length bytes - 8) = omega (arith, d.long) in
      let parts : body bytes ≡ take 6 (drop 1 bytes) ++ payload bytes =
      ap (λ (x : ℕ). take x (drop 1 bytes)) count ∙ take-add 6 (length bytes - 8) (drop 1 bytes)
      ∙ ap (λ (x : List ℕ). take 6 (drop 1 bytes) ++ take (length bytes - 8) x) (drop-drop 6 1 bytes) in
      ap first_high whole ∙ high_none_behind (take 6 (drop 1 bytes)) (payload bytes) (ap first_high (sym parts) ∙ d.low)

  -- the fields are in range as they are written
  pub fields_fit : all_fit (field_list r.command r.fields.has_pattern) (prefix_of r.command r.fields) 0 ≡ true
  fields_fit =
      fit_front (field_list r.command r.fields.has_pattern) (payload bytes) (prefix_of r.command r.fields) 0
      (length (field_list r.command r.fields.has_pattern)) (omega arith)
      (λ i h. sym (ap (λ (l : List ℕ). get_or l i 0) prefix_back ∙ get_or-take (length (field_list r.command r.fields.has_pattern)) (payload bytes) i 0 h))
      (ap (λ (l : List Field). all_fit l (payload bytes) 0) (own_list bytes r d) ∙ d.says.fits)

  -- the fields that were read pass the writer's tests
  pub fields_pass : checked_fields r.command r.fields ≡ gives (fields_at r.command r.fields.has_pattern (prefix_of r.command r.fields))
  fields_pass = fit_given (field_list r.command r.fields.has_pattern) (prefix_of r.command r.fields) 0 _ fields_fit

-- what the reader gives as plain fields is written as the bytes that it was read from, wherever they fit
pub fields_written_again : (bytes : List ℕ) (r : Record) (room : ℕ) → read_record bytes ≡ gives r → length bytes < 2 ^ 64 → length bytes ≤ room
    → record_write r.device (code_of r.command) r.fields (run_of bytes) room ≡ gives bytes
fields_written_again bytes r room e real fits =
    let d : Tested bytes r = tested bytes r e in
    let c : Command = r.command in
    let run : List ℕ = run_in r bytes in
    let pre : List ℕ = prefix_of c r.fields in
    let ok : device_in_range r.device ≡ true = (read_device_in_range (get_or bytes 5 0) r.device d.device).1 in
    let long : length (row (device_byte r.device) (code_of c) pre (own_run c run)) ≡ 8 + (length pre + length (own_run c run)) = simp length-append (omega arith) in
    let whole : length (row (device_byte r.device) (code_of c) pre (own_run c run)) ≡ length bytes = ap length (row_again bytes r d) in
    let size : 8 + length pre + pick (carries_run c) (length run) 0 ≡ length bytes = counts (carries_run c) (length pre) run (length bytes) (omega (arith, long, whole)) in
    rw
    (ok, code_reads_back c, fields_pass bytes r d, e, size, lt-ltb (length bytes) (2 ^ 64) real, le-leb (length bytes) room fits, payload_low bytes r d)
    (ap (λ (l : List ℕ). gives l) (row_again bytes r d))
  where
    counts : (t : Bool) (a : ℕ) (run : List ℕ) (total : ℕ) → 8 + (a + length (pick t run [])) ≡ total → 8 + a + pick t (length run) 0 ≡ total
    counts true a run total h = omega arith
    counts false a run total h = omega arith
