-- The one rule for runs gives exactly the lengths that the paper lists: below the last of each row by computing every length, beyond it
-- because a longer run holds a group more.
use mathlib.Core.Path.{◌≡◌, refl, ap, sym, ◌∙◌}
use mathlib.Core.Bool.{Bool, true, false, ◌&&◌, ◌||◌, not}
use mathlib.Core.List.{List, [], ◌∷◌}
use Prim.Native.Nat.{ℕ, zero, suc, ◌+◌, ◌-◌, ◌%◌, ◌≤◌, ◌<◌}
use native.Mathlib.Omega.{arith}
use lib.Dec.{ltb, leb, eqb}
use borrow.Author.Tests.{ltb-true, ltb-false, le-ltb, lt-leb, eqb-true, eqb-false}
use Rattle.laws.specs.Choice.{pick}
use Rattle.laws.proofs.Tests.{both, alike, alike_same, split}
use Rattle.command.specs.declared.Command.{Command}
use Rattle.command.specs.declared.Command.TheVariants as k
use Rattle.command.specs.Payload.{payload_of, raw_length_for, carries_run}
use Rattle.message.specs.Prefix.{optional}
use Rattle.packed.specs.Packed.{unpacked_length}
use Rattle.frame_reader.specs.Payload.{accepted, numbered_by, prefix_length, is_any}
use Rattle.frame_reader.proofs.RunPlace.{numbered_long}
use Rattle.frames.specs.Lengths.{Stretch, lengths, listed, programs7, programs6, globals, bank_names, one_name, chords, poly_chords, pattern_alone, pattern_numbered, no_run, lengths_of}

-- a test at every length below n
all_below : (ℕ → Bool) → ℕ → Bool
all_below f zero = true
all_below f (suc n) = f n && all_below f n

below_all : (f : ℕ → Bool) (n i : ℕ) → all_below f n ≡ true → i < n → f i ≡ true
unfolding all_below
below_all f zero i h b = absurd (omega arith)
below_all f (suc n) i h b = go (ltb i n) refl (λ e. below_all f n i (both (f n) (all_below f n) h).1 (ltb-true i n e))
  where
    go : (t : Bool) → ltb i n ≡ t → (ltb i n ≡ true → f i ≡ true) → f i ≡ true
    go true e before = before e
    go false e before =
        let same : i ≡ n = omega (arith, ltb-false i n e) in
        ap f same ∙ (both (f n) (all_below f n) h).0

and_false : (a : Bool) → (a && false) ≡ false
and_false true = refl
and_false false = refl

-- a rule and a list that agree below a bound, and both end there
agree : (f : ℕ → Bool) (l : List Stretch) (bound : ℕ) → all_below (λ n. alike (f n) (listed l n)) bound ≡ true
    → ((n : ℕ) → bound ≤ n → f n ≡ false) → ((n : ℕ) → bound ≤ n → listed l n ≡ false) → (n : ℕ) → f n ≡ listed l n
agree f l bound below beyond ends n = go (ltb n bound) refl
  where
    go : (t : Bool) → ltb n bound ≡ t → f n ≡ listed l n
    go true e = alike_same (f n) (listed l n) (below_all (λ k. alike (f k) (listed l k)) bound n below (ltb-true n bound e))
    go false e =
        let least : bound ≤ n = ltb-false n bound e in
        beyond n least ∙ sym (ends n least)

-- a run that holds a group more is not accepted
a_group_more : (raw n : ℕ) → raw + 7 ≤ unpacked_length n → accepted raw n ≡ false
a_group_more raw n h = rw (le-ltb (unpacked_length n) (raw + 7) h) (and_false (not (eqb (n % 8) 1) && leb raw (unpacked_length n)))

-- two stretches that end below n
two_end : (a b d e n : ℕ) → b < n → e < n → listed (lengths a b ∷ lengths d e ∷ []) n ≡ false
two_end a b d e n p q = rw (lt-leb n b p, lt-leb n e q, and_false (leb a n), and_false (leb d n))

pub programs7_printed : (n : ℕ) → accepted 245 n ≡ listed programs7 n
unfolding all_below
programs7_printed n = agree (accepted 245) programs7 288 refl (λ k h. a_group_more 245 k (omega arith)) (λ k h. two_end 280 280 282 287 k (omega arith) (omega arith)) n

pub programs6_printed : (n : ℕ) → accepted 242 n ≡ listed programs6 n
unfolding all_below
programs6_printed n = agree (accepted 242) programs6 285 refl (λ k h. a_group_more 242 k (omega arith)) (λ k h. two_end 277 280 282 284 k (omega arith) (omega arith)) n

pub globals_printed : (n : ℕ) → accepted 45 n ≡ listed globals n
unfolding all_below
globals_printed n = agree (accepted 45) globals 60 refl (λ k h. a_group_more 45 k (omega arith)) (λ k h. two_end 52 56 58 59 k (omega arith) (omega arith)) n

pub bank_names_printed : (n : ℕ) → accepted 2048 n ≡ listed bank_names n
unfolding all_below
bank_names_printed n = agree (accepted 2048) bank_names 2349 refl (λ k h. a_group_more 2048 k (omega arith)) (λ k h. two_end 2341 2344 2346 2348 k (omega arith) (omega arith)) n

pub one_name_printed : (n : ℕ) → accepted 16 n ≡ listed one_name n
unfolding all_below
one_name_printed n = agree (accepted 16) one_name 27 refl (λ k h. a_group_more 16 k (omega arith)) (λ k h. two_end 19 24 26 26 k (omega arith) (omega arith)) n

pub chords_printed : (n : ℕ) → accepted 26 n ≡ listed chords n
unfolding all_below
chords_printed n = agree (accepted 26) chords 38 refl (λ k h. a_group_more 26 k (omega arith)) (λ k h. two_end 30 32 34 37 k (omega arith) (omega arith)) n

-- one stretch; 593 is 1 mod 8
pub poly_chords_printed : (n : ℕ) → accepted 512 n ≡ listed poly_chords n
unfolding all_below
poly_chords_printed n = agree (accepted 512) poly_chords 594 refl (λ k h. a_group_more 512 k (omega arith)) (λ k h. rw (lt-leb k 592 (omega arith), and_false (leb 586 k))) n

pub pattern_alone_printed : (n : ℕ) → accepted 65 n ≡ listed pattern_alone n
unfolding all_below
pattern_alone_printed n = agree (accepted 65) pattern_alone 83 refl (λ k h. a_group_more 65 k (omega arith)) (λ k h. two_end 75 80 82 82 k (omega arith) (omega arith)) n

-- n bytes behind the version: one byte more in the payload
pub pattern_numbered_printed : (n : ℕ) → numbered_by (n + 1) ≡ listed pattern_numbered n
unfolding all_below
pattern_numbered_printed n =
    agree (λ k. numbered_by (k + 1)) pattern_numbered 84 refl
    (λ k h. rw (a_group_more 65 (k + 1 - 2) (omega arith)) (and_false (not (accepted 65 (k + 1 - 1)))))
    (λ k h. two_end 81 81 83 83 k (omega arith) (omega arith)) n

-- the row of either version
programs : (v n : ℕ) → accepted (pick (eqb v 6) 242 245) n ≡ listed (pick (eqb v 6) programs6 programs7) n
programs v n = go (eqb v 6)
  where
    go : (t : Bool) → accepted (pick t 242 245) n ≡ listed (pick t programs6 programs7) n
    go true = programs6_printed n
    go false = programs7_printed n

or_false : (a : Bool) → (a || false) ≡ a
or_false true = refl
or_false false = refl

or_true : (a : Bool) → (a || true) ≡ true
or_true true = refl
or_true false = refl

-- a pattern's payload, with a number or without one
patterns : (m : ℕ) → (accepted 65 (m - 1) || numbered_by m) ≡ listed (pick (numbered_by m) pattern_numbered pattern_alone) (m - 1)
patterns m = go (numbered_by m) refl
  where
    go : (t : Bool) → numbered_by m ≡ t → (accepted 65 (m - 1) || t) ≡ listed (pick t pattern_numbered pattern_alone) (m - 1)
    go true e =
        let same : m ≡ m - 1 + 1 = omega (arith, numbered_long m e) in
        or_true (accepted 65 (m - 1)) ∙ sym e ∙ ap numbered_by same ∙ pattern_numbered_printed (m - 1)
    go false e = or_false (accepted 65 (m - 1)) ∙ pattern_alone_printed (m - 1)

-- a payload that ends with its fields
none_left : (l m : ℕ) → l ≤ m → eqb m l ≡ listed no_run (m - l)
none_left l m h = split (eqb m l) equal more
  where
    equal : eqb m l ≡ true → eqb m l ≡ listed no_run (m - l)
    equal t =
        let none : m - l ≡ 0 = omega (arith, eqb-true m l t) in
        rw (t, none)

    more : eqb m l ≡ false → eqb m l ≡ listed no_run (m - l)
    more f =
        let other = eqb-false m l f in
        let some : 0 < m - l = omega (arith, other) in
        rw (f, lt-leb (m - l) 0 some, and_false (leb 0 (m - l)))

-- the reader's test of a payload of m bytes, by its command and version
abbrev pub length_passes : Command → ℕ → ℕ → Bool
length_passes c v m =
    pick (carries_run c)
    (pick (is_any (payload_of c).run) (not (eqb ((m - prefix_length c) % 8) 1)) (accepted (raw_length_for c v) (m - prefix_length c) || (optional c && numbered_by m)))
    (eqb m (prefix_length c))

-- the reader's test is the printed row of that command
pub run_table : (c : Command) (v m : ℕ) → prefix_length c ≤ m → length_passes c v m ≡ listed (lengths_of c v (optional c && numbered_by m)) (m - prefix_length c)
run_table k.ProgramDumpResponse v m h = or_false (accepted (pick (eqb v 6) 242 245) (m - 3)) ∙ programs v (m - 3)
run_table k.EditBufferDumpResponse v m h = or_false (accepted (pick (eqb v 6) 242 245) (m - 1)) ∙ programs v (m - 1)
run_table k.GlobalParameterDumpResponse v m h = or_false (accepted 45 (m - 1)) ∙ globals_printed (m - 1)
run_table k.BankProgramNamesDumpResponse v m h = or_false (accepted 2048 (m - 2)) ∙ bank_names_printed (m - 2)
run_table k.SingleProgramNameDumpResponse v m h = or_false (accepted 16 (m - 2)) ∙ one_name_printed (m - 2)
run_table k.ChordMemoryDumpResponse v m h = or_false (accepted 26 (m - 1)) ∙ chords_printed (m - 1)
run_table k.PolyChordMemoryDumpResponse v m h = or_false (accepted 512 (m - 1)) ∙ poly_chords_printed (m - 1)
run_table k.CalibrationDataDumpResponse v m h = sym (or_false (not (eqb ((m - 1) % 8) 1)))
run_table k.UserPatternDumpResponse v m h = patterns m
run_table k.ControlAppNotifyRequest v m h = none_left 1 m h
run_table k.ProgramDumpRequest v m h = none_left 2 m h
run_table k.EditBufferDumpRequest v m h = none_left 0 m h
run_table k.GlobalParameterDumpRequest v m h = none_left 0 m h
run_table k.SingleUserPatternDumpRequest v m h = none_left 1 m h
run_table k.ProgramBankDumpRequest v m h = none_left 3 m h
run_table k.BankProgramNamesDumpRequest v m h = none_left 1 m h
run_table k.SingleProgramNameDumpRequest v m h = none_left 2 m h
run_table k.EditBufferPatternDumpRequest v m h = none_left 0 m h
run_table k.ControlAppNotifyResponse v m h = none_left 5 m h
run_table k.CalibrationDataDumpRequest v m h = none_left 0 m h
run_table k.ChordMemoryDumpRequest v m h = none_left 0 m h
run_table k.PolyChordMemoryDumpRequest v m h = none_left 0 m h
