-- The length asked for is the length of a message with no more in it than a pattern's flag, because such a message has its command, and a byte for
-- each field of it.
use mathlib.Core.Path.{◌≡◌, refl, ap₂}
use mathlib.Core.Bool.{Bool, true, false, ◌&&◌}
use Prim.Native.Nat.{ℕ}
use lib.Dec.{eqb}
use lib.ListN.{length}
use borrow.Author.Tests.{eqb-true}
use Rattle.laws.proofs.Tests.{both}
use Rattle.refusal.specs.Outcome.{Outcome, gives, refused, and_then}
use Rattle.command.specs.declared.Command.{Command}
use Rattle.command.specs.Command.{code_of, command_of}
use Rattle.command.proofs.Table.{same_code, of_every}
use Rattle.message.specs.declared.fields.Fields.{Fields}
use Rattle.message.specs.Head.{head_from, command_of_head, fields_of}
use Rattle.message.specs.Prefix.{prefix_of, field_list}
use Rattle.frame_writer.specs.Writer.{length_for, head_length}
use Rattle.host_frames.specs.Sent.{length_asked}

-- fields of which only a pattern's flag says something
abbrev pub flag_alone : Bool → Fields
flag_alone b =
    record { free = 0; version = 0; bank = 0; program = 0; last = 0; pattern = 0; has_pattern = b; interface = 0; rx = 0; tx = 0 }

-- a message of such fields has its command, and a byte for each field of it
abbrev as_long : Bool → Command → Bool
as_long b k =
    let m = head_from k (flag_alone b) in
    eqb (code_of (command_of_head m)) (code_of k) && eqb (length (prefix_of (command_of_head m) (fields_of m))) (length (field_list k b))

every_as_long : (b : Bool) (k : Command) → as_long b k ≡ true
every_as_long true k = of_every (as_long true) refl k
every_as_long false k = of_every (as_long false) refl k

flag_alone_length : (k : Command) (b : Bool) (run : ℕ) → head_length (head_from k (flag_alone b)) run ≡ length_for k (length (field_list k b)) run
flag_alone_length k b run =
    let m = head_from k (flag_alone b) in
    let told =
    both (eqb (code_of (command_of_head m)) (code_of k)) (eqb (length (prefix_of (command_of_head m) (fields_of m))) (length (field_list k b))) (every_as_long b k) in
    ap₂ (λ (c : Command) (n : ℕ). length_for c n run) (same_code (command_of_head m) k (eqb-true _ _ told.0)) (eqb-true _ _ told.1)

-- the code measures a message of which only the flag says something, and so answers the length asked for; 6 for a code that no command has
pub measured_is_asked : (code has run : ℕ)
    → and_then (command_of code) (λ k. head_length (head_from k (flag_alone (eqb has 1))) run) ≡ length_asked code has run
measured_is_asked code has run = go (command_of code)
  where
    go : (o : Outcome Command)
        → and_then o (λ k. head_length (head_from k (flag_alone (eqb has 1))) run) ≡ and_then o (λ k. length_for k (length (field_list k (eqb has 1))) run)
    go (gives k) = flag_alone_length k (eqb has 1) run
    go (refused n vs) = refl
