-- No untouched message is lost: one that stands before the run is among the intact reports that come first, and one that stands wholly after
-- it begins no sooner than the first such message, from which on the reports are intact again, an 18 in front at most.
use mathlib.Core.Path.{◌≡◌, refl, sym, ◌∙◌, ap, ap₂, subst}
use mathlib.Core.Bool.{Bool, true, false, ◌||◌}
use mathlib.Core.List.{List, [], ◌∷◌, ◌++◌, map}
use mathlib.Core.Logic.{◌⊎◌, inl, inr}
use Prim.Native.Nat.{ℕ, zero, suc, ◌+◌, ◌-◌, ◌≤◌, ◌<◌}
use native.Mathlib.Omega.{arith}
use lib.Dec.{ltb, eqb}
use lib.ListN.{length, get_or, take, drop, length-append, length-map, length-take, length-drop, replicate, length-replicate, get_or-append, get_or-map, get_or-eq_default}
use lib.Seq.{get_or-append-add, get_or-take, get_or-drop}
use borrow.Author.Tests.{ltb-true, leb-true, eqb-true, eqb-false, lt-ltb, le-ltb}
use Rattle.laws.proofs.Tests.{split, by_test}
use Rattle.refusal.specs.Outcome.{gives}
use Rattle.decoder.specs.Reports.{Event}
use Rattle.damage.specs.Reported.{Reported}
use Rattle.damage.specs.Sent.{Message, all_sendable, event_of, Tag, all_tagged, Sent, bytes, intacts}
use Rattle.damage.specs.Damage.{before_run, after_run, arrives, from_first, until_first, break_bytes, open_there, led, around_break}
use Rattle.damage.specs.Caller.{Caller, total_used}
use Rattle.damage.specs.Condition3.{Condition3}
use Rattle.damage.specs.Untouched.{own_places, SentMessage, sent_messages, all_ahead, none_ahead, untouched, arrives_at, first_place, last_place, Placed}
use Rattle.damage.specs.Untouched.{last_byte_report, untouched_reports, within, in_order, Among, all_found, found, passed, NoneLost}
use Rattle.damage.proofs.Places.{drop_head, no_tag, MessageAt, AllAt, own_stand, all_at}

-- a report is in a list of reports
abbrev IsIn : Reported → List Reported → Type 0
IsIn r [] = ⊥
IsIn r (x ∷ xs) = (r ≡ x) ⊎ IsIn r xs

-- an 18 in front hides nothing
led_has : (t : Bool) (xs : List (List Reported)) (k : ℕ) (r : Reported) → IsIn r (get_or xs k []) → IsIn r (get_or (led t xs) k [])
led_has t [] k r h = absurd h
led_has true (x ∷ xs) zero r h = inr h
led_has false (x ∷ xs) zero r h = h
led_has t (x ∷ xs) (suc k) r h = h

-- what stands ahead of the first message is no longer than any place where one begins
until_most : (ts : List Tag) (k : ℕ) → (get_or ts k no_tag).first ≡ true → length (until_first ts) ≤ k
until_most [] k e = omega arith
until_most (t ∷ ts) zero e = rw e (omega arith)
until_most (t ∷ ts) (suc k) e =
    let most : length (until_first ts) ≤ k = until_most ts k e in
    by_test (λ (l : List Tag). length l ≤ suc k) t.first [] (t ∷ until_first ts) (λ q. omega arith) (λ q. omega arith)

from_is : (ts : List Tag) → from_first ts ≡ drop (length (until_first ts)) ts
from_is [] = refl
from_is (t ∷ ts) = let rest = from_is ts in split t.first (λ e. rw e) (λ e. rw e rest)

-- the intact reports of the byte at a place
intact_at : (ts : List Tag) (k : ℕ) → get_or (intacts ts) k [] ≡ (get_or ts k no_tag).intact
intact_at ts k = get_or-map (λ (t : Tag). t.intact) ts k no_tag

-- placed reports that each stand at the byte of their place, from a place on and in rising order
abbrev Found : List (List Reported) → ℕ → List Placed → Type 0
Found rs low [] = Unit {0}
Found rs low (x ∷ xs) = (low ≤ x.place) × IsIn x.report (get_or rs x.place []) × Found rs (suc x.place) xs

-- reports of one byte in front of all others
pass_all : (place : ℕ) (rs : List Reported) (xs ys : List Placed) → Among xs ys → Among xs (map (λ (r : Reported). record { place = place; report = r }) rs ++ ys)
pass_all place [] xs ys a = a
pass_all place (r ∷ rs) xs ys a = passed (pass_all place rs xs ys a)

find : (place : ℕ) (r : Reported) (rs : List Reported) (xs ys : List Placed) → IsIn r rs → Among xs ys
    → Among (record { place = place; report = r } ∷ xs) (map (λ (z : Reported). record { place = place; report = z }) rs ++ ys)
find place r [] xs ys h a = absurd h
find place r (x ∷ rs) xs ys (inl e) a =
    subst
    (λ (z : Reported). Among (record { place = place; report = r } ∷ xs)
    (record { place = place; report = z } ∷ map (λ (q : Reported). record { place = place; report = q }) rs ++ ys))
    e (found (pass_all place rs xs ys a))
find place r (x ∷ rs) xs ys (inr h) a = passed (find place r rs xs ys h a)

-- reports that stand at their bytes, each behind the one ahead of it, stand among all reports in their order
found_are_among : (all rest : List (List Reported)) (place : ℕ) (xs : List Placed) → drop place all ≡ rest → Found all place xs → Among xs (in_order place rest)
found_are_among all rest place [] e f = all_found
found_are_among all [] place (x ∷ xs) e f =
    let low = f.0 in
    let short : length all ≤ x.place = omega (arith, length-drop place all, ap length e) in
    absurd (subst (λ (l : List Reported). IsIn x.report l) (get_or-eq_default all [] short) f.1)
found_are_among all (rs ∷ rest) place (x ∷ xs) e f =
    let h = drop_head [] all place rs rest e in
    let low = f.0 in
    split (eqb x.place place)
    (λ t. let is : x.place ≡ place = eqb-true x.place place t in
    subst (λ (k : ℕ). Among (record { place = k; report = x.report } ∷ xs) (in_order place (rs ∷ rest))) (sym is)
    (find place x.report rs xs (in_order (suc place) rest)
    (subst (λ (l : List Reported). IsIn x.report l) (ap (λ (k : ℕ). get_or all k []) is ∙ h.0) f.1)
    (found_are_among all rest (suc place) xs h.2 (subst (λ (k : ℕ). Found all (suc k) xs) is f.2))))
    (λ t. let other = eqb-false x.place place t in
    pass_all place rs (x ∷ xs) (in_order (suc place) rest) (found_are_among all rest (suc place) (x ∷ xs) h.2 (omega (arith, other), f.1, f.2)))

module _ (i n : ℕ) (new : List ℕ) (sent : List Tag) (caused : List (List Reported)) (one_each : length caused ≡ length (break_bytes i n new sent)) where
  coming : List (List Reported)
  coming = around_break i n new sent caused

  -- the report of a message before the run arrives at the place where it was sent
  before_has : (p : ℕ) (e : Event) → p < i → p < length sent → (get_or sent p no_tag).intact ≡ gives e ∷ [] → IsIn (gives e) (get_or coming p [])
  unfolding coming
  before_has p e h inside is =
      let size : length (intacts (before_run i sent)) ≡ length (take i sent) = length-map (take i sent) (λ (t : Tag). t.intact) in
      let there : p < length (intacts (before_run i sent)) = omega (arith, size, length-take i sent) in
      let same : get_or coming p [] ≡ gives e ∷ [] =
      get_or-append (intacts (before_run i sent)) _ [] p there ∙ intact_at (take i sent) p ∙ ap (λ (t : Tag). t.intact) (get_or-take i sent p no_tag h) ∙ is in
      subst (λ (l : List Reported). IsIn (gives e) l) (sym same) (inl refl)

  -- the report of a message wholly after the run arrives as much further on or back as the break is longer or shorter than the run
  after_has : (first p : ℕ) (e : Event) → i + n ≤ first → first ≤ p → p < length sent → (get_or sent first no_tag).first ≡ true
      → (get_or sent p no_tag).intact ≡ gives e ∷ [] → IsIn (gives e) (get_or coming (p - n + length new) [])
  unfolding coming
  after_has first p e h order inside begins is =
      let rest : List Tag = after_run i n sent in
      let u : ℕ = length (until_first rest) in
      let back : get_or rest (first - (i + n)) no_tag ≡ get_or sent first no_tag =
      get_or-drop (i + n) sent (first - (i + n)) no_tag ∙ ap (λ (k : ℕ). get_or sent k no_tag) (again (i + n) first h) in
      let most : length (until_first (after_run i n sent)) ≤ first - (i + n) = until_most rest (first - (i + n)) (ap (λ (t : Tag). t.first) back ∙ begins) in
      let k : ℕ = p - (i + n) - u in
      let place : i + n + (length (until_first (after_run i n sent)) + (p - (i + n) - length (until_first (after_run i n sent)))) ≡ p = omega arith in
      let front : length (intacts (before_run i sent)) ≡ i = length-map (take i sent) (λ (t : Tag). t.intact) ∙ omega (arith, length-take i sent) in
      let size : length caused ≡ length new + length (until_first (after_run i n sent)) =
      one_each ∙ length-append new (bytes (until_first rest)) ∙ ap (λ (l : ℕ). length new + l) (length-map (until_first rest) (λ (t : Tag). t.byte)) in
      let there : p - n + length new ≡ length (intacts (before_run i sent)) + (length caused + (p - (i + n) - length (until_first (after_run i n sent)))) = omega arith in
      let reads : get_or (intacts (from_first rest)) k [] ≡ gives e ∷ [] =
      intact_at (from_first rest) k
      ∙ ap (λ (t : Tag). t.intact)
      (ap (λ (l : List Tag). get_or l k no_tag) (from_is rest) ∙ get_or-drop u rest k no_tag ∙ get_or-drop (i + n) sent (u + k) no_tag ∙ ap (λ (j : ℕ). get_or sent j no_tag) place)
      ∙ is in
      let tail : List (List Reported) = led (open_there i n new sent) (intacts (from_first rest)) in
      let same : get_or coming (p - n + length new) [] ≡ get_or tail k [] =
      ap (λ (j : ℕ). get_or coming j []) there ∙ get_or-append-add (intacts (before_run i sent)) (caused ++ tail) (length caused + k) [] ∙ get_or-append-add caused tail k [] in
      subst (λ (l : List Reported). IsIn (gives e) l) (sym same)
      (led_has (open_there i n new sent) (intacts (from_first rest)) k (gives e) (subst (λ (l : List Reported). IsIn (gives e) l) (sym reads) (inl refl)))
    where
      again : (a b : ℕ) → a ≤ b → a + (b - a) ≡ b
      again a b q = omega arith

  -- where an untouched message's last byte stands in what is sent, and where in what arrives
  abbrev Side : ℕ → ℕ → Type 0
  Side p q = ((p < i) × (q ≡ p)) ⊎ ((i + n ≤ p) × (q ≡ p - n + length new))

  -- where an untouched message's last byte arrives, the message is reported
  untouched_has : (low : ℕ) (ps : List ℕ) (e : Event) → MessageAt sent low ps e → (all_ahead i ps || none_ahead (i + n) ps) ≡ true
      → Side (last_place ps) (arrives_at i n new (last_place ps)) × IsIn (gives e) (get_or coming (arrives_at i n new (last_place ps)) [])
  untouched_has low ps e a t = split (all_ahead i ps) ahead behind
    where
      ahead : all_ahead i ps ≡ true → Side (last_place ps) (arrives_at i n new (last_place ps)) × IsIn (gives e) (get_or coming (arrives_at i n new (last_place ps)) [])
      ahead h =
          let less : last_place ps < i = a.before i h in
          rw (lt-ltb (last_place ps) i less) (inl (less, refl), before_has (last_place ps) e less a.inside a.ends)

      behind : all_ahead i ps ≡ false → Side (last_place ps) (arrives_at i n new (last_place ps)) × IsIn (gives e) (get_or coming (arrives_at i n new (last_place ps)) [])
      behind h =
          let far : i + n ≤ first_place ps = leb-true (i + n) (first_place ps) (sym (a.behind (i + n)) ∙ rw h at t) in
          let order = a.first_last in
          let most : i + n ≤ last_place ps = omega arith in
          rw (le-ltb (last_place ps) i (omega arith)) (inr (most, refl), after_has (first_place ps) (last_place ps) e far order a.inside a.begins a.ends)

  -- every untouched message whose last byte stands from one place on in what is sent stands from another on in what arrives
  abbrev Fits : ℕ → ℕ → Type 0
  Fits low place = (p q : ℕ) → low ≤ p → Side p q → place ≤ q

  fits_next : (p q : ℕ) → Side p q → Fits (suc p) (suc q)
  fits_next p q (inl a) r s h (inl b) = let x = a.1 in let y = b.1 in omega arith
  fits_next p q (inl a) r s h (inr b) = let x = a.0 in let y = a.1 in let z = b.0 in let t = b.1 in omega arith
  fits_next p q (inr a) r s h (inl b) = let x = a.0 in let y = b.0 in absurd (omega arith)
  fits_next p q (inr a) r s h (inr b) = let x = a.0 in let y = a.1 in let z = b.0 in let t = b.1 in omega arith

  all_have : (used : ℕ) (xs : List SentMessage) (low place : ℕ) → AllAt sent low xs → Fits low place
      → Found (take used coming) place (within used (untouched_reports i n new xs))
  all_have used [] low place a f = tt
  all_have used (x ∷ xs) low place a f =
      let ps : List ℕ = x.places in
      let later : Fits (suc (last_place ps)) place = λ p q h s. f p q (omega (arith, a.0.low_first, a.0.first_last)) s in
      let skip = all_have used xs (suc (last_place ps)) place a.1 later in
      let q : ℕ = arrives_at i n new (last_place ps) in
      by_test (λ (l : List Placed). Found (take used coming) place (within used l)) (untouched i n x) _ _
      (λ t. let r = untouched_has low ps (event_of x.message) a.0 t in
      by_test (λ (l : List Placed). Found (take used coming) place l) (ltb q used) _ _
      (λ u. (
        f (last_place ps) q (omega (arith, a.0.low_first, a.0.first_last)) r.0,
        subst (λ (l : List Reported). IsIn (gives (event_of x.message)) l) (sym (get_or-take used coming q [] (ltb-true q used u))) r.1,
        all_have used xs (suc (last_place ps)) (suc q) a.1 (fits_next (last_place ps) q r.0),
      )) (λ u. skip))
      (λ t. skip)

  -- where all that arrives was used, no untouched message is left out
  all_within : (used : ℕ) → length (arrives i n new sent) ≤ used → (xs : List SentMessage) (low : ℕ) → AllAt sent low xs
      → within used (untouched_reports i n new xs) ≡ untouched_reports i n new xs
  all_within used enough [] low a = refl
  all_within used enough (x ∷ xs) low a =
      let rest = all_within used enough xs (suc (last_place x.places)) a.1 in
      by_test (λ (l : List Placed). within used l ≡ l) (untouched i n x) _ _
      (λ t. let r = untouched_has low x.places (event_of x.message) a.0 t in
      rw (lt-ltb (arrives_at i n new (last_place x.places)) used (below (last_place x.places) _ a.0.inside r.0))
      (ap (λ (l : List Placed). last_byte_report i n new x ∷ l) rest))
      (λ t. rest)
    where
      size : length (arrives i n new sent) ≡ length (take i sent) + (length new + length (drop (i + n) sent))
      size =
          length-append (bytes (take i sent)) (new ++ bytes (drop (i + n) sent))
          ∙ ap₂ (λ (u v : ℕ). u + v) (length-map (take i sent) (λ (t : Tag). t.byte))
          (length-append new (bytes (drop (i + n) sent)) ∙ ap (λ (u : ℕ). length new + u) (length-map (drop (i + n) sent) (λ (t : Tag). t.byte)))

      below : (p q : ℕ) → p < length sent → Side p q → q < used
      below p q h (inl s) = let x = s.0 in let y = s.1 in omega (arith, size, length-take i sent)
      below p q h (inr s) = let x = s.0 in let y = s.1 in omega (arith, size, length-take i sent, length-drop (i + n) sent)

-- the paper's first sentence follows from the rest of condition 3
pub none_lost : (c : Caller) (start : c.State) → Condition3 c start → NoneLost c start
unfolding coming
none_lost c start holds ms ok sent woven i n new store room cs log made =
    let s = holds ms ok sent woven i n new store room cs log made in
    let used = total_used log.answers in
    let all : List (List Reported) = take used (around_break i n new sent s.caused) in
    let there = all_at sent ms ok 0 (own_places woven 0) (own_stand woven sent 0 refl) in
    subst (λ (rs : List (List Reported)). Among (within used (untouched_reports i n new (sent_messages ms (own_places woven 0)))) (in_order 0 rs)) (sym s.exactly.0)
    (found_are_among all all 0 _ refl (all_have i n new sent s.caused s.one_each used (sent_messages ms (own_places woven 0)) 0 0 there (λ p q h t. omega arith)))

-- where all that arrives was used, every untouched message is among those that `none_lost` speaks of
pub none_left_out : (ms : List Message) → all_sendable ms ≡ true → (sent : List Tag) (woven : Sent (all_tagged ms) sent) (i n : ℕ) (new : List ℕ) (used : ℕ)
    → length (arrives i n new sent) ≤ used
    → within used (untouched_reports i n new (sent_messages ms (own_places woven 0))) ≡ untouched_reports i n new (sent_messages ms (own_places woven 0))
none_left_out ms ok sent woven i n new used enough =
    all_within i n new sent (replicate (length (break_bytes i n new sent)) []) (length-replicate (length (break_bytes i n new sent)) []) used enough
    (sent_messages ms (own_places woven 0)) 0
    (all_at sent ms ok 0 (own_places woven 0) (own_stand woven sent 0 refl))
