-- Every frame that the reader refuses gets a number of document 01's table, test by test.
use mathlib.Core.Path.{◌≡◌, refl}
use mathlib.Core.Bool.{Bool, true, false, ◌&&◌, ◌||◌, not}
use mathlib.Core.List.{List, [], ◌∷◌}
use Prim.Native.Nat.{ℕ, suc, ◌+◌, ◌-◌, ◌%◌}
use lib.Dec.{leb, eqb}
use lib.ListN.{length, get_or, take, drop}
use Rattle.laws.specs.Choice.{pick}
use Rattle.refusal.specs.Outcome.{Outcome, gives, unless}
use Rattle.refusal.proofs.Numbered.{numbered, unless_numbered, then_numbered}
use Rattle.ids.specs.Device.{device_of}
use Rattle.ids.proofs.device.Range.{device_numbered}
use Rattle.command.specs.declared.Command.{Command}
use Rattle.command.specs.Command.{code_of, command_of}
use Rattle.command.specs.Payload as y
use Rattle.command.specs.Payload.{Field, payload_of, raw_length_for, carries_run}
use Rattle.command.proofs.Table.{command_numbered}
use Rattle.packed.specs.Packed.{packed_length}
use Rattle.framing.proofs.Bytes.{high_numbered}
use Rattle.framing.specs.Framing.{framed, body, first_high, when_seven_bit, same_bytes}
use Rattle.message.specs.declared.fields.Fields.{Fields}
use Rattle.message.specs.Prefix.{optional, field_list, fields_at, field_fits, field_ok, checked}
use Rattle.frame_reader.specs.Payload.{accepted, is_any, numbered_by, early, prefix_length, when_length, when_run, read_fields, read_short, read_run, read_dump, read_payload}
use Rattle.frame_reader.specs.Reader.{payload, maker, read_command, read_header, read_record}

-- the three kinds that take any byte never refuse
field_numbered : {A : Type 0} (f : Field) (b : ℕ) (next : Outcome A) → numbered next ≡ true → numbered (field_ok f b next) ≡ true
field_numbered y.free b next h = h
field_numbered y.version b next h = unless_numbered (field_fits y.version b) 8 (b ∷ []) next refl h
field_numbered y.bank b next h = unless_numbered (field_fits y.bank b) 9 (b ∷ []) next refl h
field_numbered y.program b next h = unless_numbered (field_fits y.program b) 10 (b ∷ []) next refl h
field_numbered y.pattern b next h = unless_numbered (field_fits y.pattern b) 11 (b ∷ []) next refl h
field_numbered y.receive b next h = h
field_numbered y.transmit b next h = h
field_numbered y.interface b next h = unless_numbered (field_fits y.interface b) 12 (b ∷ []) next refl h

checked_numbered : {A : Type 0} (l : List Field) (p : List ℕ) (i : ℕ) (next : Outcome A) → numbered next ≡ true → numbered (checked l p i next) ≡ true
checked_numbered [] p i next h = h
checked_numbered (f ∷ fs) p i next h = field_numbered f (get_or p i 0) (checked fs p (suc i) next) (checked_numbered fs p (suc i) next h)

-- 7
length_numbered : (ok : Bool) (k : Command) (expected : ℕ) (p : List ℕ) (next : Outcome Fields) → numbered next ≡ true
    → numbered (when_length ok k expected p next) ≡ true
length_numbered ok k expected p next h = unless_numbered ok 7 (code_of k ∷ expected ∷ length p ∷ []) next refl h

-- 7, or 13
run_test_numbered : (k : Command) (v : ℕ) (p : List ℕ) (next : Outcome Fields) → numbered next ≡ true → numbered (when_run k v p next) ≡ true
run_test_numbered k v p next h = go (is_any (payload_of k).run)
  where
    len : ℕ
    len = length p - prefix_length k

    go : (t : Bool)
        → numbered
        (pick t (unless (not (eqb (len % 8) 1)) 13 (len ∷ []) next)
        (when_length (accepted (raw_length_for k v) len || (optional k && numbered_by (length p))) k (prefix_length k + packed_length (raw_length_for k v)) p next)) ≡ true
    go true = unless_numbered (not (eqb (len % 8) 1)) 13 (len ∷ []) next refl h
    go false =
        length_numbered (accepted (raw_length_for k v) len || (optional k && numbered_by (length p))) k (prefix_length k + packed_length (raw_length_for k v)) p next h

fields_numbered : (k : Command) (b : Bool) (p : List ℕ) → numbered (read_fields k b p) ≡ true
fields_numbered k b p = checked_numbered (field_list k b) p 0 (gives (fields_at k b p)) refl

behind_version : (k : Command) (v : ℕ) (p : List ℕ) → numbered (read_run k v p) ≡ true
unfolding read_run
behind_version k v p =
    let fields = read_fields k (numbered_by (length p)) p in
    length_numbered (leb (prefix_length k) (length p)) k (prefix_length k) p (when_run k v p fields)
    (run_test_numbered k v p fields (fields_numbered k (numbered_by (length p)) p))

payload_numbered : (k : Command) (p : List ℕ) → numbered (read_payload k p) ≡ true
payload_numbered k p = go (carries_run k)
  where
    go : (t : Bool) → numbered (pick t (read_dump k p) (read_short k p)) ≡ true
    go true =
        let v : ℕ = get_or p 0 0 in
        length_numbered (leb (early k) (length p)) k (prefix_length k) p (field_ok y.version v (read_run k v p))
        (field_numbered y.version v (read_run k v p) (behind_version k v p))
    go false = length_numbered (eqb (length p) (prefix_length k)) k (prefix_length k) p (read_fields k false p) (fields_numbered k false p)

behind_header : (bytes : List ℕ) → numbered (read_command bytes) ≡ true
behind_header bytes =
    then_numbered (device_of (get_or bytes 5 0)) _ (device_numbered (get_or bytes 5 0))
    (λ x. then_numbered (command_of (get_or bytes 6 0)) _ (command_numbered (get_or bytes 6 0))
    (λ k. then_numbered (read_payload k (payload bytes)) _ (payload_numbered k (payload bytes)) (λ f. refl)))

header_numbered : (bytes : List ℕ) → numbered (read_header bytes) ≡ true
header_numbered bytes =
    let found : List ℕ = get_or bytes 1 0 ∷ get_or bytes 2 0 ∷ get_or bytes 3 0 ∷ get_or bytes 4 0 ∷ [] in
    let ours : Bool = same_bytes (take 4 (drop 1 bytes)) maker in
    unless_numbered (leb 8 (length bytes)) 3 (length bytes ∷ []) (unless ours 4 found (read_command bytes)) refl
    (unless_numbered ours 4 found (read_command bytes) refl (behind_header bytes))

-- the whole reader
pub record_numbered : (bytes : List ℕ) → numbered (read_record bytes) ≡ true
unfolding read_record
record_numbered bytes =
    unless_numbered (framed bytes) 1 [] (when_seven_bit (body bytes) (read_header bytes)) refl
    (high_numbered (first_high (body bytes)) (read_header bytes) (header_numbered bytes))
