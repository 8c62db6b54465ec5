-- Where the messages stand in what is sent: each has its first byte, marked so, at the first of its places and its report at the last, and the
-- places of a message are behind those of the messages ahead of it, because weaving real-time bytes in keeps the order. So a message is wholly
-- after the run exactly if its first byte is, and the rest that condition 3 speaks of begins with the first such message.
use mathlib.Core.Path.{◌≡◌, refl, sym, ◌∙◌, ap, ap₂, subst}
use mathlib.Core.Bool.{Bool, true, false}
use mathlib.Core.List.{List, [], ◌∷◌, ◌++◌, map}
use Prim.Native.Nat.{ℕ, zero, suc, ◌+◌, ◌≤◌, ◌<◌}
use native.Mathlib.Omega.{arith}
use lib.Dec.{ltb, leb, eqb}
use lib.ListN.{length, get_or, take, drop, length-drop, drop_of_length-le}
use lib.Seq.{drop-length}
use borrow.Author.Tests.{ltb-true, leb-true, eqb-true, eqb-false, le-leb, lt-leb}
use Rattle.laws.specs.Choice.{pick}
use Rattle.laws.proofs.Tests.{split, both}
use Rattle.refusal.specs.Outcome.{gives}
use Rattle.decoder.specs.Reports.{Event}
use Rattle.damage.specs.Sent.{Message, bytes_of, sendable, all_sendable, event_of, Tag, tags, tagged, all_tagged, Sent, nothing, own, between}
use Rattle.damage.specs.Damage.{after_run, from_first}
use Rattle.damage.specs.Untouched.{own_places, SentMessage, sent_messages, all_ahead, none_ahead, first_place, last_place, first_after}
use Rattle.damage.proofs.Woven.{own_status}

-- what stands at a place
pub drop_head : {A : Type 0} (d : A) (l : List A) (k : ℕ) (x : A) (xs : List A) → drop k l ≡ x ∷ xs → (get_or l k d ≡ x) × (k < length l) × (drop (suc k) l ≡ xs)
drop_head d [] zero x xs e = let z : ◌≡◌ {A = ℕ} 0 1 = cc in absurd (omega arith)
drop_head d [] (suc k) x xs e = let z : ◌≡◌ {A = ℕ} 0 1 = cc in absurd (omega arith)
drop_head d (y ∷ l) zero x xs e = (cc, omega arith, cc)
drop_head d (y ∷ l) (suc k) x xs e = let r = drop_head d l k x xs e in let lower = r.1 in (r.0, omega arith, r.2)

-- no byte of any message
abbrev pub no_tag : Tag
no_tag = record { byte = 0; first = false; intact = [] }

-- a list of tags that stand at a list of places in what is sent, from a place on and in rising order
abbrev pub Stands : List Tag → ℕ → List ℕ → List Tag → Type 0
Stands sent low [] [] = Unit {0}
Stands sent low [] (t ∷ ts) = ⊥
Stands sent low (p ∷ ps) [] = ⊥
Stands sent low (p ∷ ps) (t ∷ ts) = (low ≤ p) × (p < length sent) × (get_or sent p no_tag ≡ t) × Stands sent (suc p) ps ts

from_lower : (sent : List Tag) (low high : ℕ) (ps : List ℕ) (ts : List Tag) → low ≤ high → Stands sent high ps ts → Stands sent low ps ts
from_lower sent low high [] [] h s = tt
from_lower sent low high [] (t ∷ ts) h s = absurd s
from_lower sent low high (p ∷ ps) [] h s = absurd s
from_lower sent low high (p ∷ ps) (t ∷ ts) h s = let most = s.0 in (omega arith, s.1, s.2, s.3)

pub own_stand : {ts us : List Tag} (w : Sent ts us) (sent : List Tag) (k : ℕ) → drop k sent ≡ us → Stands sent k (own_places w k) ts
own_stand nothing sent k e = tt
own_stand (own {t} {ts} {us} w) sent k e = let h = drop_head no_tag sent k t us e in (omega arith, h.1, h.0, own_stand w sent (suc k) h.2)
own_stand (between b {ts} {us} low w) sent k e =
    let h = drop_head no_tag sent k _ us e in
    from_lower sent k (suc k) (own_places w (suc k)) ts (omega arith) (own_stand w sent (suc k) h.2)

-- a message in what is sent: from a place on, at these places, reported as this event
pub record MessageAt (sent : List Tag) (low : ℕ) (ps : List ℕ) (e : Event) : Type 0 where
  pub low_first : low ≤ first_place ps
  pub begins : (get_or sent (first_place ps) no_tag).first ≡ true
  pub first_last : first_place ps ≤ last_place ps
  pub inside : last_place ps < length sent
  pub ends : (get_or sent (last_place ps) no_tag).intact ≡ gives e ∷ []
  pub before : (i : ℕ) → all_ahead i ps ≡ true → last_place ps < i
  pub behind : (i : ℕ) → none_ahead i ps ≡ leb i (first_place ps)

-- the end of a message
record MessageEnd (sent : List Tag) (low : ℕ) (ps : List ℕ) (e : Event) (rest : List ℕ) (ts : List Tag) : Type 0 where
  reached : low ≤ last_place ps
  inside : last_place ps < length sent
  ends : (get_or sent (last_place ps) no_tag).intact ≡ gives e ∷ []
  before : (i : ℕ) → all_ahead i ps ≡ true → last_place ps < i
  behind : (i : ℕ) → i ≤ low → none_ahead i ps ≡ true
  others : Stands sent (suc (last_place ps)) rest ts

module _ (sent : List Tag) where
  no_place : (first : Bool) (e : Event) (b : ℕ) (bs : List ℕ) (low : ℕ) (ts : List Tag) → Stands sent low [] (tags first e (b ∷ bs) ++ ts) → ⊥
  no_place first e b [] low ts s = s
  no_place first e b (x ∷ bs) low ts s = s

  message_end : (first : Bool) (e : Event) (b : ℕ) (bs : List ℕ) (low : ℕ) (ps : List ℕ) (ts : List Tag) → Stands sent low ps (tags first e (b ∷ bs) ++ ts)
      → MessageEnd sent low (take (length (b ∷ bs)) ps) e (drop (length (b ∷ bs)) ps) ts
  message_end first e b bs low [] ts s = absurd (no_place first e b bs low ts s)
  message_end first e b [] low (p ∷ ps) ts s =
      record {
        reached = s.0;
        inside = s.1;
        ends = ap (λ (t : Tag). t.intact) s.2;
        before = λ i h. ltb-true p i (both (ltb p i) true h).0;
        behind = λ i h. rw (le-leb i p (omega (arith, s.0)));
        others = s.3;
      }
  message_end first e b (x ∷ bs) low (p ∷ []) ts s = absurd (no_place false e x bs (suc p) ts s.3)
  message_end first e b (x ∷ bs) low (p ∷ q ∷ ps) ts s =
      let r = message_end false e x bs (suc p) (q ∷ ps) ts s.3 in
      let far = r.reached in
      let near = s.0 in
      record {
        reached = omega arith;
        inside = r.inside;
        ends = r.ends;
        before = λ i h. r.before i (both (ltb p i) _ h).1;
        behind = λ i h. rw (le-leb i p (omega arith)) (r.behind i (omega arith));
        others = r.others;
      }

  -- a whole message
  message_at : (e : Event) (b : ℕ) (bs : List ℕ) (low : ℕ) (ps : List ℕ) (ts : List Tag) → Stands sent low ps (tags true e (b ∷ bs) ++ ts)
      → MessageAt sent low (take (length (b ∷ bs)) ps) e × Stands sent (suc (last_place (take (length (b ∷ bs)) ps))) (drop (length (b ∷ bs)) ps) ts
  message_at e b bs low [] ts s = absurd (no_place true e b bs low ts s)
  message_at e b bs low (p ∷ ps) ts s =
      let h = head bs s in
      let r = message_end true e b bs p (p ∷ ps) ts h.2 in (
        record {
          low_first = h.0;
          begins = h.1;
          first_last = r.reached;
          inside = r.inside;
          ends = r.ends;
          before = r.before;
          behind = λ i. split (leb i p) (λ t. r.behind i (leb-true i p t) ∙ sym t) (λ t. rw t);
        },
        r.others,
      )
    where
      head : (l : List ℕ) → Stands sent low (p ∷ ps) (tags true e (b ∷ l) ++ ts)
          → (low ≤ p) × ((get_or sent p no_tag).first ≡ true) × Stands sent p (p ∷ ps) (tags true e (b ∷ l) ++ ts)
      head [] t = (t.0, ap (λ (z : Tag). z.first) t.2, (omega arith, t.1, t.2, t.3))
      head (x ∷ l) t = (t.0, ap (λ (z : Tag). z.first) t.2, (omega arith, t.1, t.2, t.3))

  pub sendable_at : (m : Message) → sendable m ≡ true → (low : ℕ) (ps : List ℕ) (ts : List Tag) → Stands sent low ps (tagged m ++ ts)
      → MessageAt sent low (take (length (bytes_of m)) ps) (event_of m) × Stands sent (suc (last_place (take (length (bytes_of m)) ps))) (drop (length (bytes_of m)) ps) ts
  sendable_at m ok low ps ts =
      let f = own_status m ok in
      let P : List ℕ → Type 0 = λ (l : List ℕ). Stands sent low ps (tags true (event_of m) l ++ ts)
      → MessageAt sent low (take (length l) ps) (event_of m) × Stands sent (suc (last_place (take (length l) ps))) (drop (length l) ps) ts in
      subst P (sym f.is) (message_at (event_of m) f.status f.behind low ps ts)

  -- all messages, one behind the other
  abbrev pub AllAt : ℕ → List SentMessage → Type 0
  AllAt low [] = Unit {0}
  AllAt low (x ∷ xs) = MessageAt sent low x.places (event_of x.message) × AllAt (suc (last_place x.places)) xs

  pub all_at : (ms : List Message) → all_sendable ms ≡ true → (low : ℕ) (ps : List ℕ) → Stands sent low ps (all_tagged ms) → AllAt low (sent_messages ms ps)
  all_at [] ok low ps s = tt
  all_at (m ∷ ms) ok low ps s =
      let each = both (sendable m) (all_sendable ms) ok in
      let r = sendable_at m each.0 low ps (all_tagged ms) s in
      (r.0, all_at ms each.1 (suc (last_place (take (length (bytes_of m)) ps))) (drop (length (bytes_of m)) ps) r.1)

-- the places of the bytes marked first, from a place on
abbrev marked : List Tag → ℕ → List ℕ
marked [] k = []
marked (t ∷ ts) k = pick t.first (k ∷ marked ts (suc k)) (marked ts (suc k))

-- the places of those tags in a list that are marked first, for tags with a place each
abbrev firsts : List Tag → List ℕ → List ℕ
firsts [] ps = []
firsts (t ∷ ts) [] = []
firsts (t ∷ ts) (p ∷ ps) = pick t.first (p ∷ firsts ts ps) (firsts ts ps)

-- a real-time byte is not marked first, so the marks are those of the messages alone
woven_marked : {ts us : List Tag} (w : Sent ts us) (k : ℕ) → marked us k ≡ firsts ts (own_places w k)
woven_marked nothing k = refl
woven_marked (own {t} {ts} {us} w) k = let r = woven_marked w (suc k) in ap (λ (l : List ℕ). pick t.first (k ∷ l) l) r
woven_marked (between b h w) k = woven_marked w (suc k)

no_places : (ts : List Tag) → firsts ts [] ≡ []
no_places [] = refl
no_places (t ∷ ts) = refl

-- of a message's bytes only the first is marked first
over_rest : (e : Event) (bs : List ℕ) (ps : List ℕ) (ts : List Tag) → firsts (tags false e bs ++ ts) ps ≡ firsts ts (drop (length bs) ps)
over_rest e [] ps ts = refl
over_rest e (b ∷ []) [] ts = sym (no_places ts)
over_rest e (b ∷ []) (p ∷ ps) ts = refl
over_rest e (b ∷ x ∷ bs) [] ts = sym (no_places ts)
over_rest e (b ∷ x ∷ bs) (p ∷ ps) ts = over_rest e (x ∷ bs) ps ts

module _ (sent : List Tag) where
  over_message : (e : Event) (b : ℕ) (bs : List ℕ) (low : ℕ) (ps : List ℕ) (ts : List Tag) → Stands sent low ps (tags true e (b ∷ bs) ++ ts)
      → firsts (tags true e (b ∷ bs) ++ ts) ps ≡ first_place (take (length (b ∷ bs)) ps) ∷ firsts ts (drop (length (b ∷ bs)) ps)
  over_message e b [] low [] ts s = absurd s
  over_message e b [] low (p ∷ ps) ts s = refl
  over_message e b (x ∷ bs) low [] ts s = absurd s
  over_message e b (x ∷ bs) low (p ∷ ps) ts s = ap (λ (l : List ℕ). p ∷ l) (over_rest e (x ∷ bs) ps ts)

  over_sendable : (m : Message) → sendable m ≡ true → (low : ℕ) (ps : List ℕ) (ts : List Tag) → Stands sent low ps (tagged m ++ ts)
      → firsts (tagged m ++ ts) ps ≡ first_place (take (length (bytes_of m)) ps) ∷ firsts ts (drop (length (bytes_of m)) ps)
  over_sendable m ok low ps ts =
      let f = own_status m ok in
      let P : List ℕ → Type 0 = λ (l : List ℕ). Stands sent low ps (tags true (event_of m) l ++ ts)
      → firsts (tags true (event_of m) l ++ ts) ps ≡ first_place (take (length l) ps) ∷ firsts ts (drop (length l) ps) in
      subst P (sym f.is) (over_message (event_of m) f.status f.behind low ps ts)

  first_places : (ms : List Message) → all_sendable ms ≡ true → (low : ℕ) (ps : List ℕ) → Stands sent low ps (all_tagged ms)
      → firsts (all_tagged ms) ps ≡ map (λ (x : SentMessage). first_place x.places) (sent_messages ms ps)
  first_places [] ok low ps s = refl
  first_places (m ∷ ms) ok low ps s =
      let each = both (sendable m) (all_sendable ms) ok in
      let r = sendable_at sent m each.0 low ps (all_tagged ms) s in
      over_sendable m each.0 low ps (all_tagged ms) s ∙ ap (λ (l : List ℕ). first_place (take (length (bytes_of m)) ps) ∷ l)
      (first_places ms each.1 _ (drop (length (bytes_of m)) ps) r.1)

-- the first of these places from a place on, or the end
abbrev first_from : ℕ → ℕ → List ℕ → ℕ
first_from m end [] = end
first_from m end (p ∷ ps) = pick (leb m p) p (first_from m end ps)

-- a message is wholly after the run exactly if its first byte is after it
after_is_from : (sent : List Tag) (i n end : ℕ) (xs : List SentMessage) (low : ℕ) → AllAt sent low xs
    → first_after i n end xs ≡ first_from (i + n) end (map (λ (x : SentMessage). first_place x.places) xs)
after_is_from sent i n end [] low a = refl
after_is_from sent i n end (x ∷ xs) low a =
    ap₂ (λ (t : Bool) (k : ℕ). pick t (first_place x.places) k) (a.0.behind (i + n)) (after_is_from sent i n end xs (suc (last_place x.places)) a.1)

-- from a place on that is not ahead of the run's end, the first byte marked first there
from_here : (sent us : List Tag) (k m : ℕ) → drop k sent ≡ us → m ≤ k → from_first us ≡ drop (first_from m (length sent) (marked us k)) sent
from_here sent [] k m e h = sym (drop-length sent)
from_here sent (t ∷ us) k m e h =
    let d = drop_head no_tag sent k t us e in
    go t.first (from_here sent us (suc k) m d.2 (omega arith))
  where
    go : (f : Bool) → from_first us ≡ drop (first_from m (length sent) (marked us (suc k))) sent
        → pick f (t ∷ us) (from_first us) ≡ drop (first_from m (length sent) (pick f (k ∷ marked us (suc k)) (marked us (suc k)))) sent
    go true rest = rw (le-leb m k h) (sym e)
    go false rest = rest

-- from a place on that is ahead of the run's end, the first byte marked first after the run
from_ahead : (sent us : List Tag) (k m : ℕ) → drop k sent ≡ us → k ≤ m → from_first (drop m sent) ≡ drop (first_from m (length sent) (marked us k)) sent
from_ahead sent [] k m e h =
    ap from_first (drop_of_length-le sent {i = m} (omega (arith, length-drop k sent, ap length e))) ∙ sym (drop-length sent)
from_ahead sent (t ∷ us) k m e h =
    let d = drop_head no_tag sent k t us e in
    split (eqb k m)
    (λ q. subst (λ (j : ℕ). from_first (drop j sent) ≡ drop (first_from m (length sent) (marked (t ∷ us) k)) sent) (eqb-true k m q)
    (ap from_first e ∙ from_here sent (t ∷ us) k m e (omega (arith, eqb-true k m q))))
    (λ q. let less : k < m = omega (arith, eqb-false k m q) in
    let rest = from_ahead sent us (suc k) m d.2 (omega arith) in
    split t.first (λ f. rw (f, lt-leb m k less) rest) (λ f. rw f rest))

-- what stands from the first byte marked first after the run on is what stands from the first message wholly after it on
pub rest_is_wholly_after : (ms : List Message) → all_sendable ms ≡ true → (sent : List Tag) (woven : Sent (all_tagged ms) sent) (i n : ℕ)
    → from_first (after_run i n sent) ≡ drop (first_after i n (length sent) (sent_messages ms (own_places woven 0))) sent
rest_is_wholly_after ms ok sent woven i n =
    let s = own_stand woven sent 0 refl in
    from_ahead sent sent 0 (i + n) refl (omega arith)
    ∙ ap (λ (l : List ℕ). drop (first_from (i + n) (length sent) l) sent) (woven_marked woven 0 ∙ first_places sent ms ok 0 (own_places woven 0) s)
    ∙ sym (ap (λ (k : ℕ). drop k sent) (after_is_from sent i n (length sent) (sent_messages ms (own_places woven 0)) 0 (all_at sent ms ok 0 (own_places woven 0) s)))
