-- Each number that dm_frame_read tells of a frame fits the byte that dm_frame_write takes for it: a field is 0 or a byte of the prefix, and these are
-- below 80. So a C host may hand them over as they are.
use Rattle.std.specs.Prelude.{None, Some}
use mathlib.Core.Path.{◌≡◌, refl, ap, sym, subst}
use mathlib.Core.Bool.{Bool, true, false}
use mathlib.Core.List.{List, [], ◌∷◌, ◌++◌}
use Prim.Native.Nat.{ℕ, zero, suc, ◌≤◌, ◌<◌}
use native.Mathlib.Omega.{arith}
use lib.Dec.{ltb, eqb}
use lib.ListN.{get_or}
use borrow.Author.Tests.{ltb-true}
use Rattle.laws.specs.Choice.{pick, flag}
use Rattle.refusal.specs.Outcome.{Outcome, gives, refused}
use Rattle.ids.specs.declared.device.DeviceId.{DeviceId}
use Rattle.ids.specs.declared.device.DeviceId.TheVariants as d
use Rattle.ids.specs.Device.{device_in_range}
use Rattle.command.specs.Payload as y
use Rattle.command.specs.Payload.{Field}
use Rattle.framing.specs.Framing.{first_high}
use Rattle.message.specs.declared.fields.Fields.{Fields}
use Rattle.message.specs.Prefix.{tag, value_of, second_of, field_list, fields_at}
use Rattle.frame_reader.specs.declared.Record.{Record}
use Rattle.frame_reader.specs.Reader.{read_record, run_of}
use Rattle.frames.specs.Table.{prefix_in}
use Rattle.frames.proofs.BodyLow.{code_low}
use Rattle.frames.proofs.Described.{described_if_accepted}
use Rattle.host_answer.specs.Device.{unit_of}
use Rattle.host_answer.proofs.Devices.{everyone_is_a_flag}
use Rattle.host_frames.specs.declared.ReadAnswer.{ReadAnswer}
use Rattle.host_frames.specs.Frames.{read_answer, ToldBytes}

-- no high byte: each is below 80, and 0 is behind the end
low_at : (l k : List ℕ) → first_high (l ++ k) ≡ None → (i : ℕ) → get_or l i 0 < 0x80
low_at [] k h i = omega arith
low_at (b ∷ l) k h i = go (ltb b 0x80) refl i h (λ g j. low_at l k g j)
  where
    go : (t : Bool) → ltb b 0x80 ≡ t → (i : ℕ) → pick t (first_high (l ++ k)) (Some b) ≡ None
        → (first_high (l ++ k) ≡ None → (j : ℕ) → get_or l j 0 < 0x80) → get_or (b ∷ l) i 0 < 0x80
    go true e zero g rest = ltb-true b 0x80 e
    go true e (suc j) g rest = rest g j
    go false e j g rest = let z : ◌≡◌ {A = ℕ} 0 1 = cc in absurd (omega arith)

picked : (t : Bool) (x z : ℕ) → x < 0x80 → z < 0x80 → pick t x z < 0x80
picked true x z p q = p
picked false x z p q = q

module _ (p : List ℕ) (low : (i : ℕ) → get_or p i 0 < 0x80) where
  value_low : (f : Field) (l : List Field) (i : ℕ) → value_of f l p i < 0x80
  value_low f [] i = omega arith
  value_low f (g ∷ gs) i = picked (eqb (tag f) (tag g)) (get_or p i 0) (value_of f gs p (suc i)) (low i) (value_low f gs (suc i))

  second_low : (f : Field) (l : List Field) (i : ℕ) → second_of f l p i < 0x80
  second_low f [] i = omega arith
  second_low f (g ∷ gs) i =
      picked (eqb (tag f) (tag g)) (value_of f gs p (suc i)) (second_of f gs p (suc i)) (value_low f gs (suc i)) (second_low f gs (suc i))

unit_low : (x : DeviceId) → device_in_range x ≡ true → unit_of x < 0x80
unit_low (d.Unit n) h = omega (arith, ltb-true n 16 h)
unit_low d.Broadcast h = omega arith

flag_small : (b : Bool) → flag b ≤ 1
flag_small true = omega arith
flag_small false = omega arith

pub told_are_bytes : (bytes : List ℕ) (r : Record) → read_record bytes ≡ gives r → ToldBytes (read_answer (read_record bytes) bytes)
told_are_bytes bytes r e =
    let d = described_if_accepted bytes r e in
    let l = field_list r.command r.fields.has_pattern in
    let low : (i : ℕ) → get_or (prefix_in r) i 0 < 0x80 = low_at (prefix_in r) (run_of bytes) d.low in
    let v : (f : Field) → value_of f l (prefix_in r) 0 < 0x80 = λ f. value_low (prefix_in r) low f l 0 in
    let own : (g : Fields → ℕ) → g r.fields ≡ g (fields_at r.command r.fields.has_pattern (prefix_in r)) = λ g. ap g d.own in
    subst (λ (o : Outcome Record). ToldBytes (read_answer o bytes)) (sym e)
    (record {
      everyone = everyone_is_a_flag r.device;
      unit = unit_low r.device d.device;
      command = code_low r.command;
      free = rw (own (λ f. f.free)) (v y.free);
      version = rw (own (λ f. f.version)) (v y.version);
      bank = rw (own (λ f. f.bank)) (v y.bank);
      program = rw (own (λ f. f.program)) (v y.program);
      last = rw (own (λ f. f.last)) (second_low (prefix_in r) low y.program l 0);
      pattern = rw (own (λ f. f.pattern)) (v y.pattern);
      flag_fits = flag_small r.fields.has_pattern;
      interface = rw (own (λ f. f.interface)) (v y.interface);
      rx = rw (own (λ f. f.rx)) (v y.receive);
      tx = rw (own (λ f. f.tx)) (v y.transmit);
    })

-- of a refused frame every such number is 0: so every such number that dm_frame_read ever tells fits
pub all_told_are_bytes : (bytes : List ℕ) (a : ReadAnswer) → a ≡ read_answer (read_record bytes) bytes → ToldBytes a
all_told_are_bytes bytes a told = subst ToldBytes (sym told) (go (read_record bytes) refl)
  where
    none : 0 < 0x80
    none = omega arith

    go : (o : Outcome Record) → read_record bytes ≡ o → ToldBytes (read_answer o bytes)
    go (gives r) e = subst (λ (o : Outcome Record). ToldBytes (read_answer o bytes)) e (told_are_bytes bytes r e)
    go (refused n vs) e =
        record {
          everyone = omega arith;
          unit = none;
          command = none;
          free = none;
          version = none;
          bank = none;
          program = none;
          last = none;
          pattern = none;
          flag_fits = omega arith;
          interface = none;
          rx = none;
          tx = none;
        }
