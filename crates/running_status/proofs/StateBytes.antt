-- A state's bytes say that state, they are refused just where the state is, and two bytes that are not refused are the bytes of the state that they say.
use Rattle.std.specs.Prelude.{None, Option, Some}
use mathlib.Core.Path.{◌≡◌, refl, sym, ap₂}
use mathlib.Core.Bool.{Bool, true, false, ◌&&◌, ◌||◌}
use mathlib.Core.List.{List, [], ◌∷◌}
use Prim.Native.Nat.{ℕ}
use native.Mathlib.Omega.{arith}
use lib.Dec.{eqb}
use lib.ListN.{length}
use borrow.Author.Tests.{eqb-true}
use Rattle.laws.specs.Choice.{pick}
use Rattle.laws.proofs.Tests.{both, true_is_not_false}
use Rattle.wire.specs.Status.{is_channel_status}
use Rattle.running_status.specs.RunningStatus.{is_running}
use Rattle.running_status.specs.StateBytes.{running_bytes, says_running, running_of}

-- the bytes of a state say it
pub running_said : (st : Option ℕ) → running_of (running_bytes st) ≡ st
running_said None = refl
running_said (Some b) = refl

-- a state's bytes are refused just where the state is
pub bytes_say_running : (st : Option ℕ) → says_running (running_bytes st) ≡ is_running st
bytes_say_running None = refl
bytes_say_running (Some b) = refl

-- bytes that are a state's are the bytes of the state that they say
pub running_written_back : (bytes : List ℕ) → says_running bytes ≡ true → running_bytes (running_of bytes) ≡ bytes
running_written_back [] h = absurd (true_is_not_false (sym h))
running_written_back (x ∷ []) h = absurd (true_is_not_false (sym h))
running_written_back (x ∷ y ∷ []) h = go (eqb x 0) refl (eqb y 0) refl h
  where
    go : (s : Bool) → eqb x 0 ≡ s → (t : Bool) → eqb y 0 ≡ t → ((s && t) || (eqb x 1 && is_channel_status y)) ≡ true
        → running_bytes (pick s None (Some y)) ≡ x ∷ y ∷ []
    go true e true k h = ap₂ (λ (a b : ℕ). a ∷ b ∷ []) (sym (eqb-true x 0 e)) (sym (eqb-true y 0 k))
    go true e false k h =
        let one : x ≡ 1 = eqb-true x 1 (both (eqb x 1) (is_channel_status y) h).0 in
        let nought : x ≡ 0 = eqb-true x 0 e in
        absurd (omega arith)
    go false e t k h = ap₂ (λ (a b : ℕ). a ∷ b ∷ []) (sym (eqb-true x 1 (both (eqb x 1) (is_channel_status y) h).0)) refl
running_written_back (x ∷ y ∷ z ∷ bytes) h =
    let two : length (x ∷ y ∷ z ∷ bytes) ≡ 2 = eqb-true (length (x ∷ y ∷ z ∷ bytes)) 2 (both _ _ h).0 in
    absurd (omega arith)
