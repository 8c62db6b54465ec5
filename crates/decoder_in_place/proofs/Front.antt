-- A call with what is left of a piece uses a byte where one is left, and no more than are left.
use Rattle.std.specs.Prelude.{None, Some, Ok, Err, Result}
use Rattle.std.specs.Result.{result_ok}
use Rattle.std.proofs.lemmas.Option.{none-some}
use Rattle.std.specs.Borrow.{Bor}
use mathlib.Core.Path.{◌≡◌, refl, ap, sym, ◌∙◌}
use mathlib.Core.Bool.{false}
use mathlib.Core.List.{List, [], ◌∷◌}
use Prim.Native.Nat.{ℕ, ◌≤◌, ◌<◌}
use native.Mathlib.Omega.{arith}
use lib.Dec.{eqb}
use lib.ListN.{length}
use borrow.Author.Tests.{eqb-false}
use Rattle.laws.proofs.Tests.{by_test}
use Rattle.refusal.specs.declared.Refusal.{Refusal}
use Rattle.refusal.specs.Outcome.{Outcome, gives, answered}
use Rattle.decoder.specs.declared.Decoder.{Decoder}
use Rattle.decoder.specs.Step.{step, stored}
use Rattle.decoder.specs.Call.{Walked, walk, reports, ready, call, store_of}
use Rattle.decoder_in_place.specs.declared.Taken.{Taken}
use Rattle.decoder_in_place.specs.InPlace.{taken_of, next_state, front_of, FeedsFront}

used_within : (d : Decoder) (store bytes : List ℕ) → (walk d store bytes).fed.used ≤ length bytes
unfolding walk
used_within d store [] = omega arith
used_within d store (b ∷ bs) =
    by_test (λ (w : Walked). w.fed.used ≤ length (b ∷ bs)) (reports (step d b)) _ _ (λ e. omega arith)
    (λ e. let behind = used_within (step d b).state (stored d store b) bs in omega arith)

uses_one : (d : Decoder) (store bytes : List ℕ) → 0 < length bytes → 0 < (walk d store bytes).fed.used
unfolding walk
uses_one d store [] h = absurd (omega arith)
uses_one d store (b ∷ bs) h = by_test (λ (w : Walked). 0 < w.fed.used) (reports (step d b)) _ _ (λ e. omega arith) (λ e. omega arith)

-- what a call that is not refused gives
pub ok_gives : (r : Result Taken Refusal) (t : Taken) (o : Outcome Taken) → result_ok r ≡ Some t → answered r ≡ o → gives t ≡ o
ok_gives (Ok x) t o e h = let same : x ≡ t = cc in ap (λ (y : Taken). gives y) (sym same) ∙ h
ok_gives (Err x) t o e h = absurd (none-some t e)

-- what is used of bytes that are left
pub record UsesSome (bytes : List ℕ) (t : Taken) : Type 0 where
  pub some : 0 < length bytes
  pub one : 0 < t.used
  pub within : t.used ≤ length bytes

pub uses : (d : Decoder) (store bytes : List ℕ) (t : Taken) → eqb (length bytes) 0 ≡ false → gives t ≡ taken_of (call d store bytes) → UsesSome bytes t
uses d store bytes t left =
    let some : 0 < length bytes = omega (arith, eqb-false (length bytes) 0 left) in
    let w = walk d store bytes in
    by_test (λ (o : Outcome Walked). gives t ≡ taken_of o → UsesSome bytes t) (ready d store) _ _
    (λ r e.
    let told : t ≡ record { used = w.fed.used; interrupted = w.fed.interrupted; report = w.fed.report } = cc in
    let count : t.used ≡ w.fed.used = ap (λ (x : Taken). x.used) told in
    record { some = some; one = omega (arith, count, uses_one d store bytes some); within = omega (arith, count, used_within d store bytes) })
    (λ r e. let z : ◌≡◌ {A = ℕ} 0 1 = cc in absurd (omega arith))

-- where no byte is left nothing changes, refused or not
idle_state : (d : Decoder) (store : List ℕ) → d ≡ next_state (call d store []) d
unfolding walk
idle_state d store = by_test (λ (o : Outcome Walked). d ≡ next_state o d) (ready d store) _ _ (λ e. refl) (λ e. refl)

idle_store : (d : Decoder) (store : List ℕ) → store ≡ store_of (call d store []) store
unfolding walk
idle_store d store = by_test (λ (o : Outcome Walked). store ≡ store_of o store) (ready d store) _ _ (λ e. refl) (λ e. refl)

-- the answer over the bytes that are left
pub front_given : (o : Outcome Taken) (t : Taken) (bytes : List ℕ) → 0 < length bytes → gives t ≡ o → Some t ≡ front_of o bytes
front_given o t [] h e = absurd (omega arith)
front_given o t (b ∷ bs) h e = ap (λ (x : Outcome Taken). front_of x (b ∷ bs)) e

none_of_length_0 : (l : List ℕ) → length l ≡ 0 → l ≡ []
none_of_length_0 [] h = refl
none_of_length_0 (b ∷ bs) h = absurd (omega arith)

pub nothing_left : (d : Decoder) (store : List ℕ) (bytes : Bor (List ℕ)) → length bytes.now ≡ 0
    → FeedsFront (call d store bytes.now) None bytes d d store store
nothing_left d store bytes h =
    let e : bytes.now ≡ [] = none_of_length_0 bytes.now h in
    record { answers = rw e refl; left = tt; keeps = rw e (idle_state d store); leaves = rw e (idle_store d store) }
