-- The writer's last two answers: 2 for a high byte with the buffer untouched, or the whole row at the front.
use Rattle.std.specs.Prelude.{Err, None, Ok, Result, Some}
use mathlib.Core.Path.{◌≡◌, refl, ap, sym, subst, ◌∙◌}
use mathlib.Core.Bool.{Bool, true, false}
use mathlib.Core.List.{List, [], ◌∷◌, ◌++◌}
use Prim.Native.Nat.{ℕ, ◌+◌, ◌^◌, ◌≤◌, ◌<◌}
use native.Mathlib.Omega.{arith}
use lib.Dec.{ltb, leb}
use lib.ListN.{length, take, drop, length-append}
use lib.Seq.{take-length}
use borrow.Author.Tests.{le-leb, lt-leb}
use Rattle.laws.specs.Choice.{pick}
use Rattle.refusal.specs.declared.Refusal.TheVariants as r
use Rattle.refusal.specs.Outcome.{gives, Writes}
use Rattle.refusal.proofs.Given.{passed_on}
use Rattle.refusal.proofs.Written.{counted_first, refused_untouched, went_on}
use Rattle.ids.specs.declared.device.DeviceId.{DeviceId}
use Rattle.ids.specs.Device.{device_byte}
use Rattle.command.specs.declared.Command.{Command}
use Rattle.command.specs.Command.{code_of}
use Rattle.message.specs.declared.fields.Fields.{Fields}
use Rattle.command.specs.Payload.{carries_run}
use Rattle.message.specs.Prefix.{prefix_of, checked_fields}
use Rattle.framing.specs.Framing.{first_high}
use Rattle.frame_writer.specs.Writer.{row, own_run, length_for, seven_bit_write, room_write, fields_write}
use Rattle.refusal.specs.declared.Refusal.{Refusal}

pub seven_refused : (d : DeviceId) (k : Command) (prefix run out : List ℕ) (b : ℕ) → first_high (prefix ++ run) ≡ Some b
    → Writes (seven_bit_write d k prefix run) (Err (r.NotSevenBit b)) out out
seven_refused d k prefix run out b e = record { answers = rw e; leaves = rw e }

pub length_row : (d k : ℕ) (prefix run : List ℕ) → length (row d k prefix run) ≡ 8 + (length prefix + length run)
length_row d k prefix run = simp length-append (omega arith)

pub seven_written : (d : DeviceId) (k : Command) (prefix run out later : List ℕ) (n : ℕ) → first_high (prefix ++ run) ≡ None
    → n ≡ 8 + length prefix + length run
    → later ≡ row (device_byte d) (code_of k) prefix run ++ drop (8 + (length prefix + length run)) out
    → Writes (seven_bit_write d k prefix run) (Ok n) out later
seven_written d k prefix run out later n e f l =
    let count : length (row (device_byte d) (code_of k) prefix run) ≡ 8 + (length prefix + length run) = length_row (device_byte d) (code_of k) prefix run in
    let same : n ≡ length (row (device_byte d) (code_of k) prefix run) = omega (arith, count, f) in
    record {
      answers = rw e (ap (λ (x : ℕ). gives x) same);
      leaves = rw e (l ∙ ap (λ (x : ℕ). row (device_byte d) (code_of k) prefix run ++ drop x out) (sym count));
    }

-- the length that was given
pub needed_own : (k : Command) (prefix run n : ℕ) → gives n ≡ length_for k prefix run → n ≡ 8 + prefix + pick (carries_run k) run 0
needed_own k prefix run n e =
    let own : ℕ = pick (carries_run k) run 0 in
    let given : gives (8 + prefix + own) ≡ gives n = passed_on (ltb (8 + prefix + own) (2 ^ 64)) 22 [] (gives (8 + prefix + own)) n (sym e) in
    let same : 8 + prefix + own ≡ n = cc in
    sym same

-- the front of the run that is written: all of it, or none
pub own_within : (k : Command) (run : List ℕ) (n : ℕ) → n ≡ pick (carries_run k) (length run) 0 → n ≤ length run
own_within k run n e = omega (arith, e, at_most (carries_run k))
  where
    at_most : (t : Bool) → pick t (length run) 0 ≤ length run
    at_most true = omega arith
    at_most false = omega arith

pub own_front : (k : Command) (run : List ℕ) (n : ℕ) → n ≡ pick (carries_run k) (length run) 0 → take n run ≡ own_run k run
own_front k run n e = ap (λ (m : ℕ). take m run) e ∙ front (carries_run k)
  where
    front : (t : Bool) → take (pick t (length run) 0) run ≡ pick t run []
    front true = take-length run
    front false = refl

-- fields tested and length given: 14, or what follows
module _ (d : DeviceId) (k : Command) (f own : Fields) (run out : List ℕ) (n len : ℕ) (tested : gives own ≡ checked_fields k f)
    (long : len ≡ length (prefix_of k f)) (counted : gives n ≡ length_for k len (length run)) where
  in_room : (a : Result ℕ Refusal) (later : List ℕ) → Writes (room_write d k (prefix_of k f) (own_run k run) (length out) n) a out later
      → Writes (fields_write d k f run (length out)) a out later
  in_room a later w =
      counted_first (checked_fields k f) _ own a out later tested
      (counted_first (length_for k (length (prefix_of k f)) (length run)) _ n a out later (counted ∙ ap (λ (l : ℕ). length_for k l (length run)) long) w)

  pub fields_no_room : length out < n → Writes (fields_write d k f run (length out)) (Err (r.BufferTooSmall n (length out))) out out
  fields_no_room less = in_room _ out (refused_untouched (leb n (length out)) (r.BufferTooSmall n (length out)) _ out (lt-leb n (length out) less))

  pub fields_written : (prefix rest : List ℕ) (a : Result ℕ Refusal) (later : List ℕ) → n ≤ length out → prefix ≡ prefix_of k f → rest ≡ own_run k run
      → Writes (seven_bit_write d k prefix rest) a out later → Writes (fields_write d k f run (length out)) a out later
  fields_written prefix rest a later room p q w =
      in_room a later
      (went_on (leb n (length out)) 14 (n ∷ length out ∷ []) _ a out later (le-leb n (length out) room)
      (subst (λ (x : List ℕ). Writes (seven_bit_write d k x (own_run k run)) a out later) p (subst (λ (x : List ℕ). Writes (seven_bit_write d k prefix x) a out later) q w)))
