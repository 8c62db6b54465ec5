-- What the writer refuses, an entry point refuses with the same number and details, and nothing is changed.
use Rattle.std.specs.Prelude.{Err, None, Option, Some}
use mathlib.Core.Path.{◌≡◌, refl}
use mathlib.Core.Bool.{Bool, true, false}
use mathlib.Core.List.{List}
use Prim.Native.Nat.{ℕ}
use lib.ListN.{length}
use Rattle.laws.specs.Choice.{pick}
use Rattle.refusal.specs.declared.Refusal.{Refusal}
use Rattle.refusal.specs.Refusal.{number_of, values_of}
use Rattle.refusal.specs.Outcome.{Outcome, gives, refused, refusal, after}
use Rattle.refusal.proofs.Given.{given_not_refused}
use Rattle.running_status.specs.RunningStatus.{state_behind, Handed, item_handed, handed_out, emitted_of, Emits}
use Rattle.running_status.specs.StateBytes.{says_running, running_of}
use Rattle.host_answer.specs.declared.Answer.{Answer}
use Rattle.host_answer.specs.Answer.{answer_of}
use Rattle.host_running_status.specs.Running.{RunningSent, HandedSent}

refused_sent : (o : Outcome (List ℕ)) (next : Option ℕ) (e : Refusal) (r : Answer) (state out later : List ℕ) → refusal e ≡ emitted_of o next
    → later ≡ after o out → r ≡ answer_of (refusal e) → RunningSent o next r state state out later
refused_sent (gives bytes) next e r state out later says left is = absurd (given_not_refused _ (number_of e) (values_of e) says)
refused_sent (refused n vs) next e r state out later says left is =
    let number : number_of e ≡ n = cc in
    let values : values_of e ≡ vs = cc in
    record { sends = record { answers = rw (number, values) at is; leaves = left }; keeps = refl }

-- a call on bytes that say a state
pub refused_call : (state : List ℕ) (running : Option ℕ) (x : Handed) (e : Refusal) (r : Answer) (out later : List ℕ)
    → pick (says_running state) (Some (running_of state)) None ≡ Some running → Emits running x (Err e) out later → r ≡ answer_of (refusal e)
    → HandedSent (Some x) r state state out later
refused_call state running x e r out later said w is = go (says_running state) refl said
  where
    go : (t : Bool) → says_running state ≡ t → pick t (Some (running_of state)) None ≡ Some running → HandedSent (Some x) r state state out later
    go true h k =
        let is_so : running_of state ≡ running = cc in
        rw (h, is_so) (refused_sent (handed_out running x (length out)) (state_behind running (item_handed x)) e r state out later w.answers w.leaves is)
    go false h k = cc
