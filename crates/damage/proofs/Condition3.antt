-- Condition 3 of every caller whose calls report what history says, because history says of all that arrives just what condition 3 asks for.
-- Before the run it sees what was sent. The first message wholly after the run begins with its own status byte, from which on history has
-- forgotten the break: only whether a frame is open there is left to be told.
use mathlib.Core.Path.{◌≡◌, refl, sym, ◌∙◌, ap, ap₂, subst}
use mathlib.Core.Bool.{Bool, true, false}
use mathlib.Core.List.{List, [], ◌∷◌, ◌++◌, map, append_assoc}
use mathlib.Core.Logic.{⊎_elim}
use Prim.Native.Nat.{ℕ, zero, suc, ◌+◌, ◌≤◌, ◌<◌}
use native.Mathlib.Omega.{arith}
use lib.ListN.{length, take, drop}
use Rattle.laws.specs.Choice.{pick}
use Rattle.decoder.specs.declared.Class.{Class}
use Rattle.decoder.specs.declared.Class.TheVariants as k
use Rattle.decoder.specs.Step.{class_of}
use Rattle.decoder.proofs.Classes.{Range, range_of}
use Rattle.damage.specs.Open.{past_after, last_status, data_since, is_open, open_at}
use Rattle.damage.specs.Reported.{Reported, report18}
use Rattle.damage.specs.History.{interruption, heard_in, heard, meaning}
use Rattle.damage.specs.Sent.{Message, all_sendable, Tag, all_tagged, Sent, bytes, intacts}
use Rattle.damage.specs.Damage.{before_run, after_run, arrives, from_first, until_first, break_bytes, led, around_break}
use Rattle.damage.specs.Caller.{Caller, Exactly}
use Rattle.damage.specs.Meaning.{CallsMean, causes, Condition3Fixed}
use Rattle.damage.specs.Condition3.{Condition3}
use Rattle.damage.proofs.Ahead.{next_status, next_data, status_and_data_after, meaning_append, meaning_take}
use Rattle.damage.proofs.MessagesRead.{Reads, messages_read}
use Rattle.damage.proofs.Woven.{woven, sent_behind, Begins, begins, whole_behind, begins_with_status}

map_take : {A B : Type 0} (f : A → B) (l : List A) (n : ℕ) → map f (take n l) ≡ take n (map f l)
map_take f l zero = refl
map_take f [] (suc n) = refl
map_take f (x ∷ l) (suc n) = ap (λ (r : List _). f x ∷ r) (map_take f l n)

-- a stream is what stands ahead of its first message, and the rest
bytes_split : (ts : List Tag) → bytes ts ≡ bytes (until_first ts) ++ bytes (from_first ts)
bytes_split [] = refl
bytes_split (t ∷ ts) = go t.first refl (bytes_split ts)
  where
    go : (f : Bool) → t.first ≡ f → bytes ts ≡ bytes (until_first ts) ++ bytes (from_first ts)
        → bytes (t ∷ ts) ≡ bytes (until_first (t ∷ ts)) ++ bytes (from_first (t ∷ ts))
    go true e r = rw e
    go false e r = rw e (ap (λ (l : List ℕ). t.byte ∷ l) r)

alone : (t : Bool) → interruption t ≡ interruption t ++ []
alone true = refl
alone false = refl

interruption_leads : (t : Bool) (x : List Reported) → interruption t ++ x ≡ pick t (report18 ∷ x) x
interruption_leads true x = refl
interruption_leads false x = refl

-- a status byte 80 to F6 reports 18 where a frame is open, and then what it reports in a stream that begins with it
pub led_by : (c : Class) (v : ℕ) (xs : List ℕ) (b : ℕ) → Range c b → 0x80 ≤ b → b < 0xF7
    → (heard_in c v xs b ≡ interruption (is_open v xs) ++ heard_in c 0 [] b) × (next_status c v b ≡ next_status c 0 b) × (next_data c xs b ≡ next_data c [] b)
led_by k.Data v xs b r l h = absurd (omega arith)
led_by k.Held v xs b r l h = (alone (is_open v xs), refl, refl)
led_by k.Start v xs b r l h = (alone (is_open v xs), refl, refl)
led_by k.Undefined v xs b r l h = (alone (is_open v xs), refl, refl)
led_by k.Tune v xs b r l h = (refl, refl, refl)
led_by k.End v xs b r l h = absurd (omega arith)
led_by k.Realtime v xs b r l h = absurd (omega arith)

-- a stream that begins with a message's status byte, behind any bytes: its intact reports, led by one 18 if a frame is open there
pub begun_read : (t : Tag) (ts us : List Tag) → 0x80 ≤ t.byte → t.byte < 0xF7 → Reads 0 [] (t ∷ ts) → Sent ts us → (past : List ℕ)
    → meaning past (bytes (t ∷ us)) ≡ led (open_at past) (intacts (t ∷ us))
unfolding meaning heard
begun_read t ts us low high r w past =
    let b = t.byte in
    let c = class_of b in
    let v = last_status past in
    let xs = data_since past in
    let lead = led_by c v xs b (range_of b) low high in
    let same = status_and_data_after c past b (range_of b) in
    ap₂ (λ (x : List Reported) (rest : List (List Reported)). x ∷ rest)
    (lead.0 ∙ ap (λ (x : List Reported). interruption (is_open v xs) ++ x) r.0 ∙ interruption_leads (is_open v xs) t.intact)
    (woven w (b ∷ past) (rw (same.0 ∙ lead.1, same.1 ∙ lead.2) r.1))

-- what is sent from the first whole message on reads intact behind any bytes, led by one 18 if a frame is open there
rest_read : (ms : List Message) → all_sendable ms ≡ true → (j : ℕ) (us : List Tag) → Sent (drop j (all_tagged ms)) us → (past : List ℕ)
    → meaning past (bytes (from_first us)) ≡ led (open_at past) (intacts (from_first us))
unfolding meaning
rest_read ms ok j us w past = ⊎_elim none some (begins w)
  where
    none : from_first us ≡ [] → meaning past (bytes (from_first us)) ≡ led (open_at past) (intacts (from_first us))
    none e = rw e

    some : Begins (drop j (all_tagged ms)) us → meaning past (bytes (from_first us)) ≡ led (open_at past) (intacts (from_first us))
    some r =
        let all = whole_behind ms ok j in
        let same : all_tagged all.messages ≡ r.head ∷ r.own_rest = sym all.is ∙ r.own_is in
        let range = begins_with_status all.messages all.ok r.head r.own_rest same in
        let reads = messages_read all.messages all.ok 0 [] refl in
        rw r.is
        (begun_read r.head r.own_rest r.rest range.0 range.1 (subst (λ (l : List Tag). Reads 0 [] l) same reads) r.sent past)

-- what history says of all that arrives
pub history_of_damage : (ms : List Message) → all_sendable ms ≡ true → (sent : List Tag) → Sent (all_tagged ms) sent → (i n : ℕ) (new : List ℕ)
    → meaning [] (arrives i n new sent) ≡ around_break i n new sent (causes i n new sent)
history_of_damage ms ok sent w i n new =
    ap (λ (l : List ℕ). meaning [] (B ++ l)) (ap (λ (l : List ℕ). new ++ l) (bytes_split (after_run i n sent)) ∙ sym (append_assoc new U F))
    ∙ meaning_append [] B (K ++ F)
    ∙ ap₂ (λ (x y : List (List Reported)). x ++ y) intact_before
    (meaning_append (past_after [] B) K F
    ∙ ap (λ (y : List (List Reported)). causes i n new sent ++ y) (rest_read ms ok cut.0 (after_run i n sent) cut.1 (past_after (past_after [] B) K)))
  where
    B : List ℕ
    B = bytes (before_run i sent)

    U : List ℕ
    U = bytes (until_first (after_run i n sent))

    F : List ℕ
    F = bytes (from_first (after_run i n sent))

    K : List ℕ
    K = break_bytes i n new sent

    cut : (j : ℕ) × Sent (drop j (all_tagged ms)) (after_run i n sent)
    cut = sent_behind w (i + n)

    intact_before : meaning [] B ≡ intacts (before_run i sent)
    intact_before =
        ap (meaning []) (map_take (λ (t : Tag). t.byte) sent i) ∙ meaning_take [] (bytes sent) i
        ∙ ap (take i) (woven w [] (messages_read ms ok 0 [] refl)) ∙ sym (map_take (λ (t : Tag). t.intact) sent i)

-- history has one entry for each byte
pub meaning_length : (past xs : List ℕ) → length (meaning past xs) ≡ length xs
unfolding meaning
meaning_length past [] = refl
meaning_length past (x ∷ xs) = ap suc (meaning_length (x ∷ past) xs)

-- CONDITION 3 of any caller, with what the break causes fixed by history
pub condition_3_fixed : (c : Caller) (start : c.State) → CallsMean c start → Condition3Fixed c start
condition_3_fixed c start mean ms ok sent w i n new store room cs log made =
    subst (λ (l : List (List Reported)). Exactly cs l log) (history_of_damage ms ok sent w i n new) (mean store room _ cs log made)

-- CONDITION 3 of any caller, as the paper has it
pub condition_3 : (c : Caller) (start : c.State) → CallsMean c start → Condition3 c start
condition_3 c start mean ms ok sent w i n new store room cs log made =
    record {
      caused = causes i n new sent;
      one_each = meaning_length (past_after [] (bytes (before_run i sent))) (break_bytes i n new sent);
      exactly = condition_3_fixed c start mean ms ok sent w i n new store room cs log made;
    }
