-- The table's rule, computed over all of its rows: codes rise, each row holds its command's code and payload lengths, and no other
-- byte is a code.
use mathlib.Core.Path.{◌≡◌, refl, ap, sym, ◌∙◌}
use mathlib.Core.Bool.{Bool, true, false, ◌&&◌, ◌||◌}
use mathlib.Core.List.{List, [], ◌∷◌, map}
use Prim.Native.Nat.{ℕ, suc, ◌<◌}
use lib.Dec.{eqb}
use lib.ListN.{get_or}
use borrow.Author.Tests.{eqb-true, ne_eqb}
use Rattle.laws.specs.Choice.{pick}
use Rattle.laws.proofs.Rising.{rises}
use Rattle.laws.proofs.Tests.{both, true_is_not_false}
use Rattle.refusal.specs.Outcome.{gives, refused}
use Rattle.refusal.proofs.Given.{given_not_refused}
use Rattle.refusal.proofs.Numbered.{numbered}
use Rattle.command.specs.declared.Command.{Command}
use Rattle.command.specs.declared.Command.TheVariants as k
use Rattle.command.specs.declared.Row.{Row}
use Rattle.command.specs.Command.{code_of, commands, among, command_of}
use Rattle.command.specs.Payload.{Run, none, program_data, fixed, any, payload_of, run_length, table_length, raw_length_for, row_of, table}
use Rattle.command.specs.quick.Place.{place_of}

-- codes rise from row to row
pub codes_rise : (i : ℕ) → suc i < 22 → get_or (map code_of commands) i 0 < get_or (map code_of commands) (suc i) 0
codes_rise i h = rises (map code_of commands) i refl h

-- each command is read from its code
pub code_reads_back : (k : Command) → command_of (code_of k) ≡ gives k
code_reads_back k.ControlAppNotifyRequest = refl
code_reads_back k.ProgramDumpRequest = refl
code_reads_back k.ProgramDumpResponse = refl
code_reads_back k.EditBufferDumpRequest = refl
code_reads_back k.EditBufferDumpResponse = refl
code_reads_back k.GlobalParameterDumpRequest = refl
code_reads_back k.GlobalParameterDumpResponse = refl
code_reads_back k.SingleUserPatternDumpRequest = refl
code_reads_back k.UserPatternDumpResponse = refl
code_reads_back k.ProgramBankDumpRequest = refl
code_reads_back k.BankProgramNamesDumpRequest = refl
code_reads_back k.BankProgramNamesDumpResponse = refl
code_reads_back k.SingleProgramNameDumpRequest = refl
code_reads_back k.SingleProgramNameDumpResponse = refl
code_reads_back k.EditBufferPatternDumpRequest = refl
code_reads_back k.ControlAppNotifyResponse = refl
code_reads_back k.CalibrationDataDumpRequest = refl
code_reads_back k.CalibrationDataDumpResponse = refl
code_reads_back k.ChordMemoryDumpRequest = refl
code_reads_back k.ChordMemoryDumpResponse = refl
code_reads_back k.PolyChordMemoryDumpRequest = refl
code_reads_back k.PolyChordMemoryDumpResponse = refl

-- does a test hold of each of some commands?
abbrev pub of_each : (Command → Bool) → List Command → Bool
of_each test [] = true
of_each test (j ∷ js) = test j && of_each test js

-- two functions that agree at each of some commands agree at one that was read from these
read_same : {A : Type 0} (f g : Command → A) (ks : List Command) (b : ℕ) (k : Command) → map f ks ≡ map g ks → among ks b ≡ gives k → f k ≡ g k
read_same f g [] b k h e = absurd (given_not_refused k 6 (b ∷ []) e)
read_same f g (j ∷ js) b k h e =
    let here : f j ≡ g j = cc in
    let rest : map f js ≡ map g js = cc in
    go (eqb b (code_of j)) here (read_same f g js b k rest) e
  where
    go : (t : Bool) → f j ≡ g j → (among js b ≡ gives k → f k ≡ g k) → pick t (gives j) (among js b) ≡ gives k → f k ≡ g k
    go true here rest e =
        let same : j ≡ k = cc in
        rw same at here
    go false here rest e = rest e

-- two functions that agree over the whole list agree at every command, since each is read from its code
pub same_at_every : {A : Type 0} (f g : Command → A) → map f commands ≡ map g commands → (k : Command) → f k ≡ g k
same_at_every f g h k = read_same f g commands (code_of k) k h (code_reads_back k)

each_true : (test : Command → Bool) (ks : List Command) → of_each test ks ≡ true → map test ks ≡ map (λ j. true) ks
each_true test [] h = refl
each_true test (j ∷ js) h =
    let told = both (test j) (of_each test js) h in
    rw (told.0, each_true test js told.1)

-- a test that was computed over the whole list holds of every command
pub of_every : (test : Command → Bool) → of_each test commands ≡ true → (k : Command) → test k ≡ true
of_every test h k = same_at_every test (λ j. true) (each_true test commands h) k

-- two rows with the same numbers, as a test
abbrev same_row : Row → Row → Bool
same_row a b = eqb a.code b.code && (eqb a.prefix_len b.prefix_len && eqb a.raw_len b.raw_len)

same_row_equal : (a b : Row) → same_row a b ≡ true → a ≡ b
same_row_equal a b h =
    let one = both (eqb a.code b.code) (eqb a.prefix_len b.prefix_len && eqb a.raw_len b.raw_len) h in
    let two = both (eqb a.prefix_len b.prefix_len) (eqb a.raw_len b.raw_len) one.1 in
    let code = eqb-true a.code b.code one.0 in
    let prefix = eqb-true a.prefix_len b.prefix_len two.0 in
    let raw = eqb-true a.raw_len b.raw_len two.1 in
    rw (code, prefix, raw)

-- the table's rule, computed once over all rows: at a command's place stands the row of its code and payload lengths
pub row_at_place : (k : Command) (n : ℕ) (d : Row) → n ≡ place_of k → get_or table n d ≡ row_of k
row_at_place k n d e =
    ap (λ (m : ℕ). get_or table m d) e
    ∙ same_row_equal (get_or table (place_of k) d) (row_of k) (of_every (λ j. same_row (get_or table (place_of j) d) (row_of j)) refl k)

-- no other byte is a code: 6 with the byte
pub no_other_code : (b : ℕ) → ((k : Command) → code_of k ≡ b → ⊥) → command_of b ≡ refused 6 (b ∷ [])
no_other_code b nobody = go commands
  where
    go : (ks : List Command) → among ks b ≡ refused 6 (b ∷ [])
    go [] = refl
    go (j ∷ js) = rw (ne_eqb b (code_of j) (λ e. nobody j (sym e))) (go js)

-- a byte that is no code is refused with a number of the refusal table
pub command_numbered : (b : ℕ) → numbered (command_of b) ≡ true
command_numbered b = go commands
  where
    choose : (t : Bool) (j : Command) (js : List Command) → numbered (among js b) ≡ true → numbered (pick t (gives j) (among js b)) ≡ true
    choose true j js h = refl
    choose false j js h = h

    go : (ks : List Command) → numbered (among ks b) ≡ true
    go [] = refl
    go (j ∷ js) = choose (eqb b (code_of j)) j js (go js)

-- two commands with one code are one
pub same_code : (j k : Command) → code_of j ≡ code_of k → j ≡ k
same_code j k e =
    let read : gives j ≡ gives k = sym (code_reads_back j) ∙ ap command_of e ∙ code_reads_back k in
    cc

-- is a run's raw length the version's?
abbrev versioned : Run → Bool
versioned none = false
versioned program_data = true
versioned (fixed n) = false
versioned any = false

-- a run whose raw length is not the version's has its length in the table
length_without_version : (r : Run) (v : ℕ) → versioned r ≡ false → table_length r ≡ run_length r v
length_without_version none v h = refl
length_without_version program_data v h = absurd (true_is_not_false h)
length_without_version (fixed n) v h = refl
length_without_version any v h = refl

-- the version decides for programs and the edit buffer, the table for every other command
pub table_decides : (k : Command) (v : ℕ) → (code_of k ≡ 0x02 → ⊥) → (code_of k ≡ 0x04 → ⊥) → table_length (payload_of k).run ≡ raw_length_for k v
table_decides k v p e =
    let two : Command → Bool = λ j. eqb (code_of j) 0x02 || eqb (code_of j) 0x04 in
    let told = same_at_every (λ j. versioned (payload_of j).run) two refl k in
    length_without_version (payload_of k).run v (told ∙ rw (ne_eqb (code_of k) 0x02 p, ne_eqb (code_of k) 0x04 e))
