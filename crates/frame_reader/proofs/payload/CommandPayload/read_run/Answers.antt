-- `read_run` meets its contract: each return is one outcome of the length tests, and the fields are tested behind them.
use borrow.Author.Tests.{eqb-true, eqb-false}
use Rattle.packed.specs.Packed.{unpacked_length}
use Rattle.refusal.proofs.Given.{refused_too}
use Rattle.frame_reader.proofs.payload.Tests.{fields_tested, run_too_short, any_run, run_accepted, run_with_number, run_refused}
use Rattle.frame_reader.specs.Payload.{prefix_length, accepted, numbered_by, read_run}
use Rattle.message.specs.quick.Prefix.{small_checked}
use Rattle.packed.proofs.Lengths.{unpacked_given}
use Rattle.command.specs.Payload.{raw_length_for}
use Rattle.command.specs.Command.{code_of}
use Rattle.command.specs.declared.Command.TheVariants as k
use Rattle.command.specs.declared.Row.{Row}
use Rattle.command.proofs.Arms.{same_by_code}
use Rattle.refusal.specs.Outcome.{answered, refusal}
use Rattle.message.specs.declared.fields.Fields.{Fields}
use Rattle.std.proofs.Common.{rules}
use lib.ListN.{length}
use lib.Dec.{eqb}
use native.Mathlib.Omega.{arith}
use Prim.Native.Nat.{ℕ, ◌-◌, ◌≤◌, ◌%◌}
use mathlib.Core.List.{[], ◌∷◌}
use mathlib.Core.Bool.{true, false, not, ◌&&◌}
use mathlib.Core.Path.{◌≡◌, ap, sym, ◌∙◌}
use Rattle.frame_reader.proofs.payload.CommandPayload.read_run.Goals as goal
use Rattle.frame_reader.proofs.payload.CommandPayload.read_run.Goals.{else-eq-2-via-then-eq-2+else-is_numbered, else-eq-2-via-else-eq-2}

pub returns-then-found-prefix : goal.returns-then-found-prefix
returns-then-found-prefix c = let a = c.args in
    let e : c.table_row-prefix.result.prefix_len ≡ prefix_length a.self.command = ap (λ (r : Row). r.prefix_len) c.table_row-prefix.ensures in
    rw (c.wrong_length.ensures, e) (run_too_short a.self.command a.version.0 a.self.bytes.now (rw e at c.if-found-prefix.true))

pub returns-in_err-unpacked_len : goal.returns-in_err-unpacked_len
returns-in_err-unpacked_len c =
    let a = c.args in
    let p = a.self.bytes.now in
    let r = c.table_row-prefix in
    let e : r.result.prefix_len ≡ prefix_length a.self.command = ap (λ (x : Row). x.prefix_len) r.ensures in
    let n : ℕ = length p - prefix_length a.self.command in
    let least : prefix_length a.self.command ≤ length p = omega (arith, e, c.if-found-prefix.false) in
    let code : code_of a.self.command ≡ 0x12 = eqb-true _ _ (sym (same_by_code a.self.command k.CalibrationDataDumpResponse) ∙ sym c.eq.ensures ∙ c.if-eq.true) in
    let told : refusal {A = Fields} c.in_err-unpacked_len.field-0.0 ≡ read_run a.self.command a.version.0 p =
    refused_too (not (eqb (n % 8) 1)) 13 (n ∷ []) (unpacked_length n) _ c.in_err-unpacked_len.field-0.0
    (rw e at (ap answered (sym c.in_err-unpacked_len.was) ∙ c.unpacked_len.ensures))
    ∙ any_run a.self.command a.version.0 p least code in
    search rules

pub returns-then-eq : goal.returns-then-eq
returns-then-eq c =
    let a = c.args in
    let p = a.self.bytes.now in
    let r = c.table_row-prefix in
    let e : r.result.prefix_len ≡ prefix_length a.self.command = ap (λ (x : Row). x.prefix_len) r.ensures in
    let n : ℕ = length p - prefix_length a.self.command in
    let least : prefix_length a.self.command ≤ length p = omega (arith, e, c.if-found-prefix.false) in
    let code : code_of a.self.command ≡ 0x12 = eqb-true _ _ (sym (same_by_code a.self.command k.CalibrationDataDumpResponse) ∙ sym c.eq.ensures ∙ c.if-eq.true) in
    let given = unpacked_given n c.in_ok-unpacked_len.field-0 (rw e at (ap answered (sym c.in_ok-unpacked_len.was) ∙ c.unpacked_len.ensures)) in
    c.check_small.ensures ∙ ap small_checked c.fields.ensures ∙ sym (fields_tested a.self.command false p c.requires)
    ∙ rw given.1 at (any_run a.self.command a.version.0 p least code)

pub returns-then-holds : goal.returns-then-holds
returns-then-holds c = let a = c.args in
    let p = a.self.bytes.now in
    let r = c.table_row-prefix in
    let e : r.result.prefix_len ≡ prefix_length a.self.command = ap (λ (x : Row). x.prefix_len) r.ensures in
    let least : prefix_length a.self.command ≤ length p = omega (arith, e, c.if-found-prefix.false) in
    let is : accepted (raw_length_for a.self.command a.version.0) (length p - prefix_length a.self.command) ≡ true =
    rw (c.raw_len-raw_len.ensures, e) at (sym c.holds.ensures ∙ c.if-holds.true) in
    c.check_small-then-holds.ensures ∙ ap small_checked c.fields-then-holds.ensures ∙ sym (fields_tested a.self.command false p c.requires)
    ∙ sym (run_accepted a.self.command a.version.0 p least (eqb-false _ _ (sym (same_by_code a.self.command k.CalibrationDataDumpResponse) ∙ sym c.eq.ensures ∙ c.if-eq.false)) is)

pub returns-then-is_numbered : goal.returns-then-is_numbered
returns-then-is_numbered c =
    let a = c.args in
    let p = a.self.bytes.now in
    let r = c.table_row-prefix in
    let e : r.result.prefix_len ≡ prefix_length a.self.command = ap (λ (x : Row). x.prefix_len) r.ensures in
    let least : prefix_length a.self.command ≤ length p = omega (arith, e, c.if-found-prefix.false) in
    let is : accepted (raw_length_for a.self.command a.version.0) (length p - prefix_length a.self.command) ≡ false =
    rw (c.raw_len-raw_len.ensures, e) at (sym c.holds.ensures ∙ c.if-holds.false) in
    let measured = eqb-false _ _ (sym (same_by_code a.self.command k.CalibrationDataDumpResponse) ∙ sym c.eq.ensures ∙ c.if-eq.false) in
    let pattern = eqb-true _ _ (sym (same_by_code a.self.command k.UserPatternDumpResponse) ∙ sym c.eq-2.ensures ∙ c.if-eq-2.true) in
    c.check_small-then-is_numbered.ensures ∙ ap small_checked c.fields-then-is_numbered.ensures ∙ sym (fields_tested a.self.command true p c.requires)
    ∙ sym (run_with_number a.self.command a.version.0 p least measured is pattern (sym c.is_numbered.ensures ∙ c.if-is_numbered.true))

pub returns : goal.returns
returns c =
    let raw_len = c.raw_len-raw_len in
    let a = c.args in
    let p = a.self.bytes.now in
    let r = c.table_row-prefix in
    let e : r.result.prefix_len ≡ prefix_length a.self.command = ap (λ (x : Row). x.prefix_len) r.ensures in
    let least : prefix_length a.self.command ≤ length p = omega (arith, e, c.if-found-prefix.false) in
    let is : accepted (raw_length_for a.self.command a.version.0) (length p - prefix_length a.self.command) ≡ false =
    rw (raw_len.ensures, e) at (sym c.holds.ensures ∙ c.if-holds.false) in
    let pattern = same_by_code a.self.command k.UserPatternDumpResponse in
    let none : (eqb (code_of a.self.command) 0x08 && numbered_by (length p)) ≡ false =
    elim c.else-eq-2.branch [
      | else-eq-2-via-then-eq-2+else-is_numbered w ↦ rw (sym pattern ∙ sym c.eq-2.ensures ∙ w.if-eq-2.true, sym w.is_numbered.ensures ∙ w.if-is_numbered.false)
      | else-eq-2-via-else-eq-2 w ↦ rw (sym pattern ∙ sym c.eq-2.ensures ∙ w.if-eq-2.false)
    ] in
    let measured = eqb-false _ _ (sym (same_by_code a.self.command k.CalibrationDataDumpResponse) ∙ sym c.eq.ensures ∙ c.if-eq.false) in
    rw (c.wrong_length-2.ensures, e, raw_len.ensures) (run_refused a.self.command a.version.0 p least measured is none)
