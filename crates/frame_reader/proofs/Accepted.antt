-- A frame that is given passed every test of the reader on the way: the tests, put together in records that other proofs take apart.
use Rattle.std.specs.Prelude.{None}
use mathlib.Core.Path.{◌≡◌, refl, ap, sym, subst, ◌∙◌}
use mathlib.Core.Bool.{Bool, true, false, ◌&&◌, ◌||◌, not}
use mathlib.Core.List.{List, [], ◌∷◌}
use Prim.Native.Nat.{ℕ, suc, ◌+◌, ◌-◌, ◌%◌, ◌≤◌}
use native.Mathlib.Omega.{arith}
use lib.Dec.{leb, eqb}
use lib.ListN.{length, get_or, take, drop}
use borrow.Author.Tests.{leb-true, eqb-true}
use Rattle.laws.specs.Choice.{pick}
use Rattle.laws.proofs.Tests.{both}
use Rattle.refusal.specs.Outcome.{Outcome, gives, unless}
use Rattle.refusal.proofs.Given.{passed, passed_on, given_first}
use Rattle.ids.specs.Device.{device_of}
use Rattle.command.specs.declared.Command.{Command}
use Rattle.command.specs.Command.{code_of, command_of}
use Rattle.command.specs.Payload as y
use Rattle.command.specs.Payload.{Field, payload_of, raw_length_for, carries_run}
use Rattle.command.proofs.Table.{same_at_every}
use Rattle.packed.specs.Packed.{packed_length}
use Rattle.framing.specs.Framing.{framed, body, first_high, when_seven_bit, same_bytes}
use Rattle.framing.proofs.Bytes.{same_is, no_high}
use Rattle.message.specs.declared.fields.Fields.{Fields}
use Rattle.message.specs.Prefix.{optional, field_list, fields_at, field_fits, field_refusal, field_ok, all_fit, checked}
use Rattle.frame_reader.specs.declared.Record.{Record}
use Rattle.frame_reader.specs.Payload.{accepted, numbered_by, prefix_length, early, is_any, when_run, read_fields, read_short, read_run, read_dump, read_payload}
use Rattle.frame_reader.specs.Reader.{payload, maker, read_command, read_header, read_record}

-- fields that were given all fit, and are the ones that were read
pub given_fit : {A : Type 0} (l : List Field) (p : List ℕ) (i : ℕ) (a b : A) → checked l p i (gives a) ≡ gives b → (all_fit l p i ≡ true) × (a ≡ b)
given_fit [] p i a b e = (refl, cc)
given_fit (f ∷ fs) p i a b e =
    let rest = given_fit fs p (suc i) a b (passed_on (field_fits f (get_or p i 0)) (field_refusal f) (get_or p i 0 ∷ []) (checked fs p (suc i) (gives a)) b e) in
    (rw (passed (field_fits f (get_or p i 0)) (field_refusal f) (get_or p i 0 ∷ []) (checked fs p (suc i) (gives a)) b e) rest.0, rest.1)

-- where all fields fit, their tests leave what follows as it is
pub fit_given : {A : Type 0} (l : List Field) (p : List ℕ) (i : ℕ) (next : Outcome A) → all_fit l p i ≡ true → checked l p i next ≡ next
fit_given [] p i next h = refl
fit_given (f ∷ fs) p i next h =
    rw (both (field_fits f (get_or p i 0)) (all_fit fs p (suc i)) h).0 (fit_given fs p (suc i) next (both (field_fits f (get_or p i 0)) (all_fit fs p (suc i)) h).1)

-- the run length that a dump's payload needs: "not 1 mod 8" for the calibration, else one of the accepted lengths
abbrev pub run_fits : Command → List ℕ → Bool
run_fits c p =
    pick (is_any (payload_of c).run) (not (eqb ((length p - prefix_length c) % 8) 1))
    (accepted (raw_length_for c (get_or p 0 0)) (length p - prefix_length c) || (optional c && numbered_by (length p)))

-- a payload that passed the tests, and the fields that it says
pub record TestedPayload (c : Command) (p : List ℕ) (f : Fields) : Type 0 where
  pub says : f ≡ fields_at c (numbered_by (length p)) p
  pub fits : all_fit (field_list c (numbered_by (length p))) p 0 ≡ true
  pub long : prefix_length c ≤ length p
  pub exact : carries_run c ≡ false → length p ≡ prefix_length c
  pub run : carries_run c ≡ true → run_fits c p ≡ true

-- a frame that passed the tests, and what it says
pub record Tested (bytes : List ℕ) (r : Record) : Type 0 where
  pub ends : framed bytes ≡ true
  pub low : first_high (body bytes) ≡ None
  pub long : 8 ≤ length bytes
  pub ours : take 4 (drop 1 bytes) ≡ maker
  pub device : device_of (get_or bytes 5 0) ≡ gives r.device
  pub command : command_of (get_or bytes 6 0) ≡ gives r.command
  pub says : TestedPayload r.command (payload bytes) r.fields

-- a payload without a run has no pattern number that could be missing
pub no_option : (c : Command) → carries_run c ≡ false → optional c ≡ false
no_option c h = sym (rw h at (same_at_every (λ j. carries_run j && optional j) optional refl c))

run_given : (c : Command) (v : ℕ) (p : List ℕ) (next : Outcome Fields) (f : Fields) → when_run c v p next ≡ gives f
    →
    (pick (is_any (payload_of c).run) (not (eqb ((length p - prefix_length c) % 8) 1))
    (accepted (raw_length_for c v) (length p - prefix_length c) || (optional c && numbered_by (length p))) ≡ true)
    × (next ≡ gives f)
run_given c v p next f e = go (is_any (payload_of c).run) e
  where
    any_ok : Bool
    any_ok = not (eqb ((length p - prefix_length c) % 8) 1)

    len_ok : Bool
    len_ok = accepted (raw_length_for c v) (length p - prefix_length c) || (optional c && numbered_by (length p))

    go : (t : Bool)
        → pick t (unless any_ok 13 ((length p - prefix_length c) ∷ []) next)
        (unless len_ok 7 (code_of c ∷ (prefix_length c + packed_length (raw_length_for c v)) ∷ length p ∷ []) next) ≡ gives f
        → (pick t any_ok len_ok ≡ true) × (next ≡ gives f)
    go true g = (passed any_ok 13 ((length p - prefix_length c) ∷ []) next f g, passed_on any_ok 13 ((length p - prefix_length c) ∷ []) next f g)
    go false g = (
      passed len_ok 7 (code_of c ∷ (prefix_length c + packed_length (raw_length_for c v)) ∷ length p ∷ []) next f g,
      passed_on len_ok 7
          (code_of c ∷ (prefix_length c + packed_length (raw_length_for c v)) ∷ length p ∷ []) next f g,
    )

dump_given : (c : Command) (p : List ℕ) (f : Fields) → carries_run c ≡ true → read_dump c p ≡ gives f → TestedPayload c p f
unfolding read_run
dump_given c p f h e =
    let v : ℕ = get_or p 0 0 in
    let wrong : List ℕ = code_of c ∷ prefix_length c ∷ length p ∷ [] in
    let e1 = passed_on (leb (early c) (length p)) 7 wrong (field_ok y.version v (read_run c v p)) f e in
    let e2 = passed_on (field_fits y.version v) 8 (v ∷ []) (read_run c v p) f e1 in
    let e3 = passed_on (leb (prefix_length c) (length p)) 7 wrong (when_run c v p (read_fields c (numbered_by (length p)) p)) f e2 in
    let r = run_given c v p (read_fields c (numbered_by (length p)) p) f e3 in
    let a = given_fit (field_list c (numbered_by (length p))) p 0 (fields_at c (numbered_by (length p)) p) f r.1 in
    record {
      says = sym a.1;
      fits = a.0;
      long = leb-true (prefix_length c) (length p) (passed (leb (prefix_length c) (length p)) 7 wrong (when_run c v p (read_fields c (numbered_by (length p)) p)) f e2);
      exact = λ q. let z : ◌≡◌ {A = ℕ} 0 1 = cc in absurd (omega arith);
      run = λ q. r.0;
    }

short_given : (c : Command) (p : List ℕ) (f : Fields) → carries_run c ≡ false → read_short c p ≡ gives f → TestedPayload c p f
short_given c p f h e =
    let wrong : List ℕ = code_of c ∷ prefix_length c ∷ length p ∷ [] in
    let e1 = passed_on (eqb (length p) (prefix_length c)) 7 wrong (read_fields c false p) f e in
    let len : length p ≡ prefix_length c = eqb-true (length p) (prefix_length c) (passed (eqb (length p) (prefix_length c)) 7 wrong (read_fields c false p) f e) in
    let a = given_fit (field_list c false) p 0 (fields_at c false p) f e1 in
    let same : fields_at c (numbered_by (length p)) p ≡ fields_at c false p = rw (no_option c h) in
    let list : field_list c (numbered_by (length p)) ≡ field_list c false = rw (no_option c h) in
    record {
      says = sym a.1 ∙ sym same;
      fits = ap (λ (l : List Field). all_fit l p 0) list ∙ a.0;
      long = omega (arith, len);
      exact = λ q. len;
      run = λ q. let z : ◌≡◌ {A = ℕ} 0 1 = cc in absurd (omega arith);
    }

payload_given : (c : Command) (p : List ℕ) (f : Fields) → read_payload c p ≡ gives f → TestedPayload c p f
payload_given c p f e = go (carries_run c) refl e
  where
    go : (t : Bool) → carries_run c ≡ t → pick t (read_dump c p) (read_short c p) ≡ gives f → TestedPayload c p f
    go true h g = dump_given c p f h g
    go false h g = short_given c p f h g

-- the reader accepts only what passes
pub tested : (bytes : List ℕ) (r : Record) → read_record bytes ≡ gives r → Tested bytes r
unfolding read_record
tested bytes r e =
    let e1 = passed_on (framed bytes) 1 [] (when_seven_bit (body bytes) (read_header bytes)) r e in
    let h = no_high (first_high (body bytes)) (read_header bytes) r e1 in
    let first4 : List ℕ = get_or bytes 1 0 ∷ get_or bytes 2 0 ∷ get_or bytes 3 0 ∷ get_or bytes 4 0 ∷ [] in
    let e2 = passed_on (leb 8 (length bytes)) 3 (length bytes ∷ []) (unless (same_bytes (take 4 (drop 1 bytes)) maker) 4 first4 (read_command bytes)) r h.1 in
    let e3 = passed_on (same_bytes (take 4 (drop 1 bytes)) maker) 4 first4 (read_command bytes) r e2 in
    let d = given_first (device_of (get_or bytes 5 0)) _ r e3 in
    let c = given_first (command_of (get_or bytes 6 0)) _ r d.2 in
    let f = given_first (read_payload c.0 (payload bytes)) _ r c.2 in
    let same : ◌≡◌ {A = Record} (record { device = d.0; command = c.0; fields = f.0 }) r = cc in
    record {
      ends = passed (framed bytes) 1 [] (when_seven_bit (body bytes) (read_header bytes)) r e;
      low = h.0;
      long = leb-true 8 (length bytes)
          (passed (leb 8 (length bytes)) 3 (length bytes ∷ []) (unless (same_bytes (take 4 (drop 1 bytes)) maker) 4 first4 (read_command bytes)) r h.1);
      ours = same_is (take 4 (drop 1 bytes)) maker (passed (same_bytes (take 4 (drop 1 bytes)) maker) 4 first4 (read_command bytes) r e2);
      device = d.1 ∙ ap (λ (x : Record). gives x.device) same;
      command = c.1 ∙ ap (λ (x : Record). gives x.command) same;
      says = subst (λ (x : Record). TestedPayload x.command (payload bytes) x.fields) same (payload_given c.0 (payload bytes) f.0 f.1);
    }
