-- One call beside single bytes: it stops at the first byte that reports, so it reports what its bytes report singly, and it leaves the state
-- and the store that they leave.
use Rattle.std.specs.Prelude.{None, Option, Some}
use mathlib.Core.Path.{◌≡◌, refl, sym, ◌∙◌, ap}
use mathlib.Core.Bool.{Bool, true, false, not, ◌||◌}
use mathlib.Core.List.{List, [], ◌∷◌}
use Prim.Native.Nat.{ℕ, zero, suc, ◌+◌}
use native.Mathlib.Omega.{arith}
use lib.ListN.{length, take, drop}
use Rattle.laws.proofs.Tests.{by_test}
use Rattle.decoder.specs.declared.Decoder.{Decoder}
use Rattle.decoder.specs.declared.Stepped.{Stepped}
use Rattle.decoder.specs.State.{sound}
use Rattle.decoder.specs.Step.{step, stored}
use Rattle.decoder.specs.Reports.{report_list, told_all}
use Rattle.decoder.specs.Call.{Walked, reports, ended, stopped, further, walk}
use Rattle.decoder.proofs.SoundKept.{sound_kept, length_kept}
use Rattle.damage.specs.Reported.{Reported}
use Rattle.damage.specs.Caller.{belonging, is_silent, up_to_report}
use Rattle.damage.specs.Calls.{singly}
use Rattle.decoder.specs.declared.Report.{Report}

-- a byte that reports has something to report, and one that does not has nothing
reports_some : (x : Stepped) (store : List ℕ) → is_silent (told_all store (report_list x.interrupted x.report)) ≡ not (reports x)
reports_some x store = go x.interrupted x.report
  where
    go : (t : Bool) (r : Option Report) → is_silent (told_all store (report_list t r)) ≡ not (t || Rattle.decoder.specs.Call.some_report r)
    go true None = refl
    go true (Some r) = refl
    go false None = refl
    go false (Some r) = refl

silent_is : (xs : List Reported) → is_silent xs ≡ true → xs ≡ []
silent_is [] e = refl
silent_is (x ∷ xs) e = cc

-- one silent byte more in front
abbrev heard_of : Walked → List Reported
heard_of w = told_all w.store (report_list w.fed.interrupted w.fed.report)

-- a walk over the first n of the bytes, beside the same bytes singly
pub record Beside (d : Decoder) (store bytes : List ℕ) (n : ℕ) (w : Walked) : Type 0 where
  pub used : w.fed.used ≡ up_to_report (take n (singly d store bytes))
  pub heard : belonging w.fed.used (heard_of w) ≡ take w.fed.used (singly d store bytes)
  pub idle : w.fed.used ≡ 0 → heard_of w ≡ []
  pub rest : singly w.fed.state w.store (drop w.fed.used bytes) ≡ drop w.fed.used (singly d store bytes)
  pub sound_after : sound w.fed.state ≡ true
  pub length_after : length w.store ≡ length store

stands : (d : Decoder) (store bytes : List ℕ) (n : ℕ) → sound d ≡ true → take n (singly d store bytes) ≡ [] → Beside d store bytes n (ended d store)
stands d store bytes n h e =
    record { used = sym (ap up_to_report e); heard = refl; idle = λ q. refl; rest = refl; sound_after = h; length_after = refl }

silent_front : (u : ℕ) (xs : List Reported) → (u ≡ 0 → xs ≡ []) → belonging (1 + u) xs ≡ [] ∷ belonging u xs
silent_front zero xs e = rw (e refl)
silent_front (suc u) xs e = ap (λ (k : ℕ). belonging k xs) two
  where
    two : 1 + suc u ≡ suc (suc u)
    two = omega arith

one_more : (u : ℕ) → 1 + u ≡ suc u
one_more u = omega arith

pub walks : (n : ℕ) (d : Decoder) (store bytes : List ℕ) → sound d ≡ true → Beside d store bytes n (walk d store (take n bytes))
unfolding walk singly
walks zero d store bytes h = stands d store bytes zero h refl
walks (suc n) d store [] h = stands d store [] (suc n) h refl
walks (suc n) d store (b ∷ bs) h =
    let next = walks n (step d b).state (stored d store b) bs (sound_kept d b h) in
    by_test (λ (w : Walked). Beside d store (b ∷ bs) (suc n) w) (reports (step d b)) _ _ stops (goes_on next)
  where
    w : Walked
    w = walk (step d b).state (stored d store b) (take n bs)

    coming : List (List Reported)
    coming = singly (step d b).state (stored d store b) bs

    own : List Reported
    own = told_all (stored d store b) (report_list (step d b).interrupted (step d b).report)

    stops : reports (step d b) ≡ true → Beside d store (b ∷ bs) (suc n) (stopped (step d b) (stored d store b))
    stops e =
        let some : is_silent own ≡ false = reports_some (step d b) (stored d store b) ∙ ap not e in
        record {
          used = rw some;
          heard = refl;
          idle = λ q. absurd (omega arith);
          rest = refl;
          sound_after = sound_kept d b h;
          length_after = length_kept d store b;
        }

    goes_on : Beside (step d b).state (stored d store b) bs n (walk (step d b).state (stored d store b) (take n bs)) → reports (step d b) ≡ false
        → Beside d store (b ∷ bs) (suc n) (further 1 (walk (step d b).state (stored d store b) (take n bs)))
    goes_on next e =
        let none : is_silent own ≡ true = reports_some (step d b) (stored d store b) ∙ ap not e in
        record {
          used = rw (none, next.used);
          heard =
              silent_front w.fed.used (heard_of w) next.idle ∙ ap (λ (ys : List (List Reported)). [] ∷ ys) next.heard
              ∙ sym (ap (λ (k : ℕ). take k (own ∷ coming)) (one_more w.fed.used) ∙ ap (λ (o : List Reported). o ∷ take w.fed.used coming) (silent_is own none));
          idle = λ q. absurd (omega arith);
          rest = rw (one_more _) next.rest;
          sound_after = next.sound_after;
          length_after = next.length_after ∙ length_kept d store b;
        }
