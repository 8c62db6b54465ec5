-- Where the run lies: behind as many payload bytes as the command's fields take, which are there in every accepted frame.
use mathlib.Core.Path.{◌≡◌, refl, ap, sym, ◌∙◌}
use mathlib.Core.Bool.{Bool, true, false, ◌&&◌}
use mathlib.Core.List.{List, [], ◌∷◌, ◌++◌}
use Prim.Native.Nat.{ℕ, zero, suc, ◌+◌, ◌-◌, ◌≤◌}
use native.Mathlib.Nat.{sub-zero}
use native.Mathlib.Omega.{arith}
use lib.Dec.{ltb}
use lib.ListN.{length, take, drop, length-take, length-drop}
use lib.Seq.{drop-drop, take-nil}
use borrow.Author.Tests.{ltb-true, ltb-false}
use Rattle.laws.specs.Choice.{pick}
use Rattle.refusal.proofs.Given.{given_not_refused}
use Rattle.laws.proofs.Tests.{both, split}
use Rattle.command.specs.declared.Command.{Command}
use Rattle.command.specs.Payload as y
use Rattle.command.specs.Payload.{payload_of, carries_run}
use Rattle.message.specs.declared.fields.Fields.{Fields}
use Rattle.refusal.specs.declared.Refusal.{Refusal}
use Rattle.refusal.specs.Outcome.{Outcome, gives, refused, refusal, and_then}
use Rattle.message.specs.Prefix.{optional, field_list}
use Rattle.frame_reader.specs.declared.Record.{Record}
use Rattle.frame_reader.specs.Payload.{numbered_by, prefix_length}
use Rattle.frame_reader.specs.declared.Located.{Located}
use Rattle.frame_reader.specs.Reader.{payload, read_record, run_in, run_of, place_in, run_place, with_place, read_located}
use Rattle.frame_reader.proofs.payload.Tests.{numbered_short, optional_is}
use Rattle.frame_reader.proofs.Accepted.{Tested, tested}

-- dropping from a part of a list
pub drop_take : {A : Type 0} (n m : ℕ) (l : List A) → drop n (take m l) ≡ take (m - n) (drop n l)
drop_take zero m l = rw (sub-zero m)
drop_take (suc n) zero l =
    let z : 0 - suc n ≡ 0 = omega arith in
    rw z
drop_take (suc n) (suc m) [] = sym (take-nil (suc m - suc n))
drop_take (suc n) (suc m) (x ∷ l) =
    let z : suc m - suc n ≡ m - n = omega arith in
    rw z (drop_take n m l)

-- a payload that names its pattern has two bytes
pub numbered_long : (n : ℕ) → numbered_by n ≡ true → 2 ≤ n
numbered_long n h = go (ltb n 2) refl
  where
    go : (t : Bool) → ltb n 2 ≡ t → 2 ≤ n
    go true e =
        let none : false ≡ numbered_by n = numbered_short n (ltb-true n 2 e) in
        let z : ◌≡◌ {A = ℕ} 0 1 = cc in
        absurd (omega arith)
    go false e = ltb-false n 2 e

-- the bytes ahead of a run are there where the prefix is, and two for a pattern dump that names its pattern
list_long : (c : Command) (b : Bool) (n : ℕ) → (b ≡ true → 2 ≤ n) → prefix_length c ≤ n → length (field_list c b) ≤ n
list_long c b n two h = split (optional c && b) (λ e. at_pattern (both (optional c) b e)) (λ e. rw e h)
  where
    at_pattern : (optional c ≡ true) × (b ≡ true) → length (field_list c b) ≤ n
    at_pattern d = rw (optional_is c d.0, d.1) (two d.1)

-- the number counts only where it is optional
pub same_list : (c : Command) (b : Bool) → field_list c (optional c && b) ≡ field_list c b
same_list c b = go (optional c)
  where
    go : (t : Bool) → pick (t && (t && b)) ((payload_of c).fields ++ (y.pattern ∷ [])) (payload_of c).fields ≡ pick (t && b)
        ((payload_of c).fields ++ (y.pattern ∷ [])) (payload_of c).fields
    go true = refl
    go false = refl

module _ (bytes : List ℕ) (r : Record) (d : Tested bytes r) where
  -- the fields that an accepted frame's bytes are read by
  pub own_list : field_list r.command r.fields.has_pattern ≡ field_list r.command (numbered_by (length (payload bytes)))
  own_list =
      ap (λ (f : Fields). field_list r.command f.has_pattern) d.says.says ∙ same_list r.command (numbered_by (length (payload bytes)))

  pub length_payload : length (payload bytes) ≡ length bytes - 8
  length_payload = simp (length-take, length-drop) (omega arith)

  pub prefix_there : length (field_list r.command r.fields.has_pattern) ≤ length bytes - 8
  prefix_there =
      let h : length (field_list r.command (numbered_by (length (payload bytes)))) ≤ length (payload bytes) =
      list_long r.command (numbered_by (length (payload bytes))) (length (payload bytes)) (numbered_long (length (payload bytes))) d.says.long in
      let e : length (field_list r.command r.fields.has_pattern) ≡ length (field_list r.command (numbered_by (length (payload bytes)))) = ap length own_list in
      omega (arith, h, e, length_payload)

-- the run as the code takes it
pub run_part : (bytes : List ℕ) (n : ℕ) → take (length bytes - 1 - (7 + n)) (drop (7 + n) bytes) ≡ drop n (payload bytes)
run_part bytes n =
    let e : length bytes - 1 - (7 + n) ≡ length bytes - 8 - n = omega arith in
    rw (drop_take n (length bytes - 8) (drop 7 bytes), drop-drop n 7 bytes, e)

module _ (bytes : List ℕ) (r : Record) (h : gives r ≡ read_record bytes) where
  -- the prefix is there in every accepted frame
  pub prefix_fits : 8 + length (field_list r.command r.fields.has_pattern) ≤ length bytes
  prefix_fits =
      let d = tested bytes r (sym h) in
      omega (arith, d.long, prefix_there bytes r d)

  -- the run ends ahead of the closing F7
  pub run_length_is : pick (carries_run r.command) (length bytes - 1 - place_in r) 0 ≡ length (run_in r bytes)
  run_length_is = go (carries_run r.command) refl
    where
      go : (t : Bool) → carries_run r.command ≡ t → pick (carries_run r.command) (length bytes - 1 - place_in r) 0 ≡ length (run_in r bytes)
      go true c =
          let n = length (field_list r.command r.fields.has_pattern) in
          let p : length (drop n (payload bytes)) ≡ length (payload bytes) - n = length-drop n (payload bytes) in
          rw (c, p, length_payload bytes r (tested bytes r (sym h))) (omega (arith, prefix_fits))
      go false c = rw c

  pub run_inside_frame : place_in r + length (run_in r bytes) ≤ length bytes
  run_inside_frame = go (carries_run r.command) refl
    where
      go : (t : Bool) → carries_run r.command ≡ t → place_in r + length (run_in r bytes) ≤ length bytes
      go true c = rw (← run_length_is, c) (omega (arith, prefix_fits))
      go false c = rw c (omega arith)

  -- the run's place is right: the bytes there are the run
  pub run_lies_there : take (length (run_in r bytes)) (drop (place_in r) bytes) ≡ run_in r bytes
  run_lies_there = go (carries_run r.command) refl
    where
      go : (t : Bool) → carries_run r.command ≡ t → take (length (run_in r bytes)) (drop (place_in r) bytes) ≡ run_in r bytes
      go true c = rw (← run_length_is, c, run_part bytes (length (field_list r.command r.fields.has_pattern)))
      go false c = rw c

-- what was read with its run's place: the reader's record, and where its run lies
pub record WithPlace (bytes : List ℕ) (x : Located) : Type 0 where
  pub found : gives x.frame ≡ read_record bytes
  pub starts : x.run.start ≡ place_in x.frame
  pub long : x.run.len ≡ length (run_in x.frame bytes)

pub place_given : (bytes : List ℕ) (x : Located) → gives x ≡ read_located bytes → WithPlace bytes x
place_given bytes x h = go (read_record bytes) refl h
  where
    go : (o : Outcome Record) → read_record bytes ≡ o → gives x ≡ and_then o (λ r. gives (with_place bytes r)) → WithPlace bytes x
    go (gives r) e g =
        let same : x ≡ with_place bytes r = cc in
        rw same (record { found = sym e; starts = refl; long = refl })
    go (refused n vs) e g = absurd (given_not_refused x n vs (sym g))

-- a frame that was read has its run at the place that was told, and the bytes there are the run
pub read_starts : (bytes : List ℕ) (x : Located) → gives x ≡ read_located bytes → x.run.start ≡ run_place bytes
read_starts bytes x h = let p = place_given bytes x h in p.starts ∙ rw (← p.found)

pub run_read : (bytes : List ℕ) (x : Located) → gives x ≡ read_located bytes → take (x.run.start + x.run.len - x.run.start) (drop x.run.start bytes) ≡ run_of bytes
run_read bytes x h =
    let p = place_given bytes x h in
    let n : x.run.start + x.run.len - x.run.start ≡ length (run_in x.frame bytes) = omega (arith, p.long) in
    ap (λ (k : ℕ). take k (drop x.run.start bytes)) n ∙ ap (λ (k : ℕ). take (length (run_in x.frame bytes)) (drop k bytes)) p.starts
    ∙ run_lies_there bytes x.frame p.found ∙ rw (← p.found)

-- a frame that is refused has no run: its place is 0, and it has no bytes
pub refused_has_no_run : (bytes : List ℕ) (e : Refusal) → refusal e ≡ read_located bytes → (run_place bytes ≡ 0) × (run_of bytes ≡ [])
refused_has_no_run bytes e h = go (read_record bytes) refl h
  where
    go : (o : Outcome Record) → read_record bytes ≡ o → refusal e ≡ and_then o (λ r. gives (with_place bytes r)) → (run_place bytes ≡ 0) × (run_of bytes ≡ [])
    go (gives r) i g = absurd (given_not_refused (with_place bytes r) _ _ g)
    go (refused n vs) i g = (rw i, rw i)
