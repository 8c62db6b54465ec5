-- The call with what is left of a piece is the call in place, because its caller knows what it lent: None is a refusal where a byte was left or the
-- store is too short, and else says that no byte was used.
use Rattle.std.specs.Prelude.{None, Some, Option}
use Rattle.std.specs.Borrow.{Bor}
use mathlib.Core.Path.{◌≡◌, refl, ◌∙◌, ap, subst}
use mathlib.Core.Bool.{true, false}
use mathlib.Core.List.{List, [], ◌∷◌}
use Prim.Native.Nat.{ℕ, ◌+◌, ◌≤◌}
use native.Mathlib.Omega.{arith}
use lib.Dec.{leb}
use lib.ListN.{length, drop, length-drop}
use borrow.Author.Tests.{ne_eqb}
use Rattle.laws.proofs.Tests.{split}
use Rattle.refusal.specs.Outcome.{Outcome, answered}
use Rattle.decoder.specs.declared.Decoder.{Decoder}
use Rattle.decoder.specs.State.{limit, sound, fresh, reset}
use Rattle.decoder.specs.Call.{walk, ready, call}
use Rattle.decoder_in_place.specs.declared.Taken.{Taken}
use Rattle.decoder_in_place.specs.InPlace.{taken_of, front_of, front_told, FeedsInPlace}
use Rattle.decoder_in_place.proofs.Front.{uses, nothing_left}
use Rattle.damage.specs.Caller.{Call, CallLog, Made, Exactly}
use Rattle.damage.specs.Condition3.{Condition3}
use Rattle.damage.specs.Promises.{Promises}
use Rattle.damage.specs.Calls.{singly}
use Rattle.damage.specs.FrontCalls.{FrontCall, nothing_to_do, said_by, front_said, by_front}
use Rattle.damage.proofs.Hearing.{AlwaysAnswers, made_exists}
use Rattle.damage.proofs.Thin.{IsCall, Thin, thin_singly, thin_promises}
use Rattle.damage.proofs.Condition3InPlace as in_place

-- what the answer says is what the call in place answers
said_is_taken : (d : Decoder) (store bytes : List ℕ) → sound d ≡ true
    → answered (said_by (nothing_to_do (length store) bytes) (front_of (taken_of (call d store bytes)) bytes)) ≡ taken_of (call d store bytes)
unfolding walk
said_is_taken d store [] ok = split (leb limit (length store)) (λ t. rw (t, ok) refl) (λ t. rw t refl)
said_is_taken d store (b ∷ bs) ok = split (leb limit (length store)) (λ t. rw (t, ok) refl) (λ t. rw t refl)

-- a call with what is left is a call in place
pub front_in_place : (d : Decoder) (store bytes : List ℕ) (x : FrontCall) (next : Decoder) (left : List ℕ) → sound d ≡ true
    → by_front.Contract d store bytes x next left → FeedsInPlace (call d store bytes) (front_said x) d next store left
front_in_place d store bytes x next left ok met =
    let l : List ℕ = x.rest.now in
    let said : ℕ → Option Taken → Outcome Taken = λ (room : ℕ) (a : Option Taken). answered (said_by (nothing_to_do room x.rest.now) a) in
    let told : said x.room (front_told x.answer) ≡ taken_of (call d store x.rest.now) =
    ap (said x.room) met.2.answers ∙ ap (λ (room : ℕ). said room (front_of (taken_of (call d store l)) l)) met.1 ∙ said_is_taken d store l ok in
    subst (λ (m : List ℕ). FeedsInPlace (call d store m) (front_said x) d next store left) met.0
    (record { answers = told; keeps = met.2.keeps; leaves = met.2.leaves })

is_call : (d : Decoder) (store bytes : List ℕ) (x : FrontCall) (next : Decoder) (left : List ℕ) → sound d ≡ true
    → by_front.Contract d store bytes x next left → IsCall by_front.used by_front.tells (λ (k : Decoder). k) (call d store bytes) d store x next left
is_call d store bytes x next left ok met =
    let k = in_place.is_call d store bytes (front_said x) next left ok (front_in_place d store bytes x next left ok met) in
    record { count = k.count; told = k.told; state = k.state; store_is = k.store_is }

abbrev thin : Thin by_front.Contract by_front.used by_front.tells
thin = record { kept = λ (d : Decoder). d; is_call = is_call }

-- from every sound state, in whatever pieces, what single bytes report
pub by_front_singly : (d : Decoder) (store bytes : List ℕ) → sound d ≡ true → limit ≤ length store → (cs : List (Call by_front)) (log : CallLog)
    → Made by_front cs d store bytes log → Exactly cs (singly d store bytes) log
by_front_singly = thin_singly by_front.Contract by_front.used by_front.tells thin

-- from every state that a reset leaves
pub promises_by_front : (d : Decoder) → Promises by_front (reset d)
promises_by_front = thin_promises by_front.Contract by_front.used by_front.tells thin

-- CONDITION 3 for lists of calls with what is left, from a fresh decoder
pub condition_3_by_front : Condition3 by_front fresh
condition_3_by_front = (promises_by_front fresh).condition_3

-- some answer meets the contract, and so the calls can be made
module _ (d : Decoder) (store : List ℕ) where
  abbrev Answered : List ℕ → Type 0
  Answered bytes = (x : FrontCall) × (next : Decoder) × (left : List ℕ) × by_front.Contract d store bytes x next left

  abbrev with_answer : (bytes : List ℕ) → Option (Taken × Bor (List ℕ)) → FrontCall
  with_answer bytes a = record { rest = record { ref_ptr = (0, 0); now = bytes }; room = length store; answer = a }

  refused_call : (bytes : List ℕ) → ready d store ≡ false → Answered bytes
  refused_call [] t = (with_answer [] None, d, store, (refl, refl, nothing_left d store _ refl))
  refused_call (b ∷ bs) t = (with_answer (b ∷ bs) None, d, store, (refl, refl, record { answers = rw t refl; left = tt; keeps = rw t refl; leaves = rw t refl }))

  used_call : (bytes : List ℕ) → ready d store ≡ true → Answered bytes
  used_call [] t = (with_answer [] None, d, store, (refl, refl, nothing_left d store _ refl))
  used_call (b ∷ bs) t =
      let w = walk d store (b ∷ bs) in
      let taken : Taken = record { used = w.fed.used; interrupted = w.fed.interrupted; report = w.fed.report } in
      let u = uses d store (b ∷ bs) taken (ne_eqb (length (b ∷ bs)) 0 (λ e. omega arith)) (rw t refl) in
      let rest : Bor (List ℕ) = record { ref_ptr = (0, w.fed.used + 0); now = drop w.fed.used (b ∷ bs) } in (
        with_answer (b ∷ bs) (Some (taken, rest)),
        w.fed.state,
        w.store,
        (
          refl,
          refl,
          record {
            answers = rw t refl;
            left = record { lies = refl; reads = refl; fewer = omega (arith, length-drop w.fed.used (b ∷ bs), u.one, u.some) };
            keeps = rw t refl;
            leaves = rw t refl;
          },
        ),
      )

answers : AlwaysAnswers by_front
answers d store bytes = split (ready d store) (used_call d store bytes) (refused_call d store bytes)

pub by_front_exists : (cs : List (Call by_front)) (d : Decoder) (store bytes : List ℕ) → (log : CallLog) × Made by_front cs d store bytes log
by_front_exists = made_exists by_front answers
