-- What the step reports is what history says, because the state holds just what the bytes ahead say, and each class of byte keeps it so.
use Rattle.std.specs.Prelude.{None, Option, Some}
use mathlib.Core.Path.{◌≡◌, refl, sym, ◌∙◌, ap, ap₂, subst}
use mathlib.Core.Bool.{Bool, true, false}
use mathlib.Core.List.{List, [], ◌∷◌, ◌++◌}
use Prim.Native.Nat.{ℕ, suc, ◌+◌, ◌≤◌, ◌<◌}
use native.Mathlib.Omega.{arith}
use native.Mathlib.Numerals.{add-one}
use lib.Dec.{ltb, eqb}
use lib.ListN.{replicate, length-replicate, length, take, set, length-append, length-set}
use lib.Seq.{take-suc-set}
use borrow.Author.Tests.{ltb-true, ltb-false, eqb-true, lt-ltb, le-ltb, le-leb, lt-leb, eq-eqb, ne_eqb}
use Rattle.laws.proofs.Tests.{split, both, true_is_not_false}
use Rattle.wire.specs.Status.{data_length, is_channel_status}
use Rattle.wire.specs.RealTime.{realtime_of}
use Rattle.wire.specs.declared.system_common.SystemCommon.TheVariants as y
use Rattle.wire.proofs.DataLength.{none_of_data, none_of_start, none_above}
use Rattle.decoder.specs.declared.Decoder.{Decoder}
use Rattle.decoder.specs.declared.Class.{Class}
use Rattle.decoder.specs.declared.Class.TheVariants as k
use Rattle.decoder.specs.declared.Report.TheVariants as r
use Rattle.decoder.specs.declared.Stepped.{Stepped}
use Rattle.decoder.specs.State.{limit, cleared, fresh}
use Rattle.decoder.specs.Step.{class_of, step_in, step, stored_in, stored, realtime_report, silent, longer, too_long, collect}
use Rattle.decoder.specs.Reports.{own_report, report_list, told_all}
use Rattle.decoder.proofs.Limit.{room_for_three}
use Rattle.decoder.proofs.Classes.{Range, range_of}
use Rattle.decoder.proofs.SoundKept.{held_takes_data}
use Rattle.decoder.proofs.Steps.{data_fits, data_over, data_plain, end_fits, end_over, end_plain}
use Rattle.damage.specs.Open.{past_after, is_open, last_status, data_since, open_at}
use Rattle.damage.specs.Reported.{Reported, heard_realtime}
use Rattle.damage.specs.History.{interruption, heard_data, heard_in, heard, meaning}
use Rattle.damage.specs.Calls.{singly, state_singly, store_singly}
use Rattle.damage.proofs.Ahead.{next_status, next_data, status_and_data_after}
use Rattle.damage.proofs.Matches.{status_held, pending, Matches, nothing_pending, data_next}
use Rattle.decoder.specs.declared.Report.{Report}
use Rattle.wire.specs.declared.real_time.Realtime.{Realtime}

-- a byte's reports, a frame's bytes read from the store that the byte leaves
abbrev pub reports_in : Stepped → List ℕ → List Reported
reports_in x store = told_all store (report_list x.interrupted x.report)

-- what a step has to be: it reports what history says, and its state holds what the bytes ahead then say
abbrev StepsAsHeard : Class → ℕ → List ℕ → ℕ → Stepped → List ℕ → Type 0
StepsAsHeard c v xs b x store = (reports_in x store ≡ heard_in c v xs b) × Matches (next_status c v b) (next_data c xs b) x.state store

good_by : (c : Class) (v : ℕ) (xs : List ℕ) (b : ℕ) (x z : Stepped) (store kept : List ℕ) → x ≡ z → store ≡ kept
    → StepsAsHeard c v xs b z kept → StepsAsHeard c v xs b x store
good_by c v xs b x z store kept p q g =
    subst (λ (u : Stepped). StepsAsHeard c v xs b u store) (sym p) (subst (λ (n : List ℕ). StepsAsHeard c v xs b z n) (sym q) g)

-- a frame that is open began with F0 and has room
open_is : (v : ℕ) (xs : List ℕ) → is_open v xs ≡ true → (v ≡ 0xF0) × (length xs < limit)
open_is v xs e = let p = both _ _ e in (eqb-true _ _ p.0, ltb-true _ _ p.1)

-- behind any status byte but F0 no frame is open
not_open : (v : ℕ) (xs : List ℕ) → (v ≡ 0xF0 → ⊥) → is_open v xs ≡ false
not_open v xs n = rw (ne_eqb v 0xF0 n)

-- the decoder's flag says whether a frame is open
pub flag_is_open : (v : ℕ) (xs : List ℕ) (d : Decoder) (store : List ℕ) → Matches v xs d store → d.in_sysex ≡ is_open v xs
flag_is_open v xs d store g =
    split (is_open v xs) (λ e. (g.framed e).inside ∙ sym e) (λ e. (g.plain e).outside ∙ sym e)

-- a cleared state is what a status byte leaves that is not F0 and takes no data
closed_at : (v : ℕ) (xs : List ℕ) (d : Decoder) (store : List ℕ) → is_open v xs ≡ false → status_held v xs ≡ None → pending v xs ≡ 0 → limit ≤ length store
    → Matches v xs (cleared d) store
closed_at v xs d store n h p room =
    record {
      room = room;
      framed = λ e. absurd (true_is_not_false (sym e ∙ n));
      plain = λ e. record { outside = refl; force = sym h; have = sym p; first = λ q. absurd (omega arith) };
    }

cleared_by : (b : ℕ) (d : Decoder) (store : List ℕ) → 0xF4 ≤ b → limit ≤ length store → Matches b [] (cleared d) store
cleared_by b d store l room =
    closed_at b [] d store (not_open b [] (λ e. omega arith)) (rw (le-ltb b 0xF0 (omega arith), le-leb 0x80 b (omega arith), none_above b l)) (nothing_pending b) room

-- 18 where a frame was open, then the byte's own report
broken_off : (t : Bool) (store : List ℕ) (x : Option Report) → told_all store (report_list t x) ≡ interruption t ++ told_all store (own_report x)
broken_off true store x = refl
broken_off false store x = refl

no_more : (t : Bool) → interruption t ++ [] ≡ interruption t
no_more true = refl
no_more false = refl

realtime_report_heard : (store : List ℕ) (x : Option Realtime) → told_all store (own_report (realtime_report x)) ≡ heard_realtime x
realtime_report_heard store (Some x) = refl
realtime_report_heard store None = refl

-- a dropped frame holds no status and no data
start_holds_none : (xs : List ℕ) → (status_held 0xF0 xs ≡ None) × (pending 0xF0 xs ≡ 0)
start_holds_none xs = (rw (none_of_start, le-ltb (length xs) 0 (omega arith)), rw (none_of_start, le-ltb (length xs) 0 (omega arith)))

start_silent : (xs : List ℕ) (b : ℕ) → heard_data 0xF0 xs b ≡ []
start_silent xs b = rw (none_of_start, ne_eqb (length xs + 1) 0 (λ q. omega arith))

-- what a byte that waits for data leaves
held_first : (b : ℕ) → Range k.Held b → status_held b [] ≡ Some b
held_first b h = split (is_channel_status b) (λ c. rw c) (λ c. rw (c, lt-ltb 0 (data_length b) (held_takes_data b h)))

module _ (v : ℕ) (xs : List ℕ) (d : Decoder) (store : List ℕ) (g : Matches v xs d store) (b : ℕ) where
  -- a status byte 80 to F6: 18 where a frame is open, whatever the store, then its own report
  flagged : (kept : List ℕ) (x : Option Report) → told_all kept (report_list d.in_sysex x) ≡ interruption (is_open v xs) ++ told_all kept (own_report x)
  flagged kept x = ap (λ t. told_all kept (report_list t x)) (flag_is_open v xs d store g) ∙ broken_off (is_open v xs) kept x

  unreported : (kept : List ℕ) → told_all kept (report_list d.in_sysex None) ≡ interruption (is_open v xs)
  unreported kept = flagged kept None ∙ no_more (is_open v xs)

  more : length (xs ++ (b ∷ [])) ≡ length xs + 1
  more = length-append xs (b ∷ [])

  room_after : limit ≤ length (set store d.len b)
  room_after = rw (length-set store d.len b) g.room

  -- the frame's bytes with one more
  front_after : is_open v xs ≡ true → d.len < limit → take (d.len + 1) (set store d.len b) ≡ 0xF0 ∷ xs ++ (b ∷ [])
  front_after e l =
      let inside : d.len < length store = omega (arith, g.room) in
      rw add-one (take-suc-set store d.len b inside ∙ ap (λ (n : List ℕ). n ++ (b ∷ [])) (g.framed e).front)

  -- a data byte that the limit has room for joins the open frame
  data_in : is_open v xs ≡ true → d.len < limit → StepsAsHeard k.Data v xs b (silent (longer d)) (set store d.len b)
  data_in e l =
      let f = g.framed e in
      let o = open_is v xs e in
      let size : d.len ≡ suc (length xs) = f.size in
      let still : is_open v (xs ++ (b ∷ [])) ≡ true = rw (eq-eqb v 0xF0 o.0, more, lt-ltb (length xs + 1) limit (omega arith)) in (
        sym (rw (eq-eqb v 0xF0 o.0, ne_eqb (length xs + 1) limit (λ q. omega arith))),
        record {
          room = room_after;
          framed = λ q. record { inside = refl; size = omega (arith, more); front = front_after e l };
          plain = λ q. absurd (true_is_not_false (sym still ∙ q));
        },
      )

  -- a data byte beyond the limit drops the open frame with 19
  data_beyond : is_open v xs ≡ true → limit ≤ d.len → StepsAsHeard k.Data v xs b (too_long d) store
  data_beyond e l =
      let o = open_is v xs e in
      let size : d.len ≡ suc (length xs) = (g.framed e).size in
      let none = start_holds_none (xs ++ (b ∷ [])) in (
        sym (rw (eq-eqb v 0xF0 o.0, eq-eqb (length xs + 1) limit (omega arith))),
        closed_at v (xs ++ (b ∷ [])) d store (rw (eq-eqb v 0xF0 o.0, more, le-ltb (length xs + 1) limit (omega arith)))
            (ap (λ n. status_held n (xs ++ (b ∷ []))) o.0 ∙ none.0) (ap (λ n. pending n (xs ++ (b ∷ []))) o.0 ∙ none.1) g.room,
      )

  -- a data byte where no frame is open
  data_outside : is_open v xs ≡ false → StepsAsHeard k.Data v xs b (collect d.status d b) store
  data_outside e =
      let n = data_next v xs d b store (g.plain e) in (
        n.0 ∙ split (eqb v 0xF0) dropped (λ q. rw q),
        record { room = g.room; framed = λ q. absurd (never q); plain = λ q. n.1 },
      )
    where
      beyond : v ≡ 0xF0 → limit ≤ length xs
      beyond p = ltb-false (length xs) limit (rw (eq-eqb v 0xF0 p) at e)

      dropped : eqb v 0xF0 ≡ true → heard_data v xs b ≡ heard_in k.Data v xs b
      dropped q =
          let p : v ≡ 0xF0 = eqb-true v 0xF0 q in
          let l : limit ≤ length xs = beyond p in
          ap (λ (n : ℕ). heard_data n xs b) p ∙ start_silent xs b ∙ sym (rw (q, ne_eqb (length xs + 1) limit (λ z. omega arith)))

      never : is_open v (xs ++ (b ∷ [])) ≡ true → ⊥
      never q =
          let o = open_is v (xs ++ (b ∷ [])) q in
          let l = beyond o.0 in
          omega (arith, more, o.1)

  steps_as_heard : (c : Class) → Range c b → StepsAsHeard c v xs b (step_in c d b) (stored_in c d store b)
  steps_as_heard k.Data h =
      split (is_open v xs)
      (λ e. split (ltb d.len limit)
      (λ l. let eqs = data_fits d store b (g.framed e).inside (ltb-true _ _ l) in good_by k.Data v xs b _ _ _ _ eqs.0 eqs.1 (data_in e (ltb-true _ _ l)))
      (λ l. let eqs = data_over d store b (g.framed e).inside (ltb-false _ _ l) in good_by k.Data v xs b _ _ _ _ eqs.0 eqs.1 (data_beyond e (ltb-false _ _ l))))
      (λ e. let eqs = data_plain d store b (g.plain e).outside in good_by k.Data v xs b _ _ _ _ eqs.0 eqs.1 (data_outside e))
  steps_as_heard k.Held h = (
    unreported store,
    record {
      room = g.room;
      framed = λ e. absurd (true_is_not_false (sym e ∙ not_open b [] h.2));
      plain = λ e. record { outside = refl; force = sym (held_first b h); have = sym (nothing_pending b); first = λ q. absurd (none q) };
    },
  )
    where
      none : pending b [] ≡ 1 → ⊥
      none q = omega (arith, nothing_pending b)
  steps_as_heard k.Start h =
      let some : 0 < length store = omega (arith, g.room, room_for_three) in
      let begun : is_open b [] ≡ true = rw (h, lt-ltb 0 limit (omega (arith, room_for_three))) in (
        unreported (set store 0 b),
        record {
          room = rw (length-set store 0 b) g.room;
          framed = λ e. record { inside = refl; size = refl; front = take-suc-set store 0 b some ∙ ap (λ n. n ∷ []) h };
          plain = λ e. absurd (true_is_not_false (sym begun ∙ e));
        },
      )
  steps_as_heard k.Undefined h = (unreported store, cleared_by b d store h.0 g.room)
  steps_as_heard k.Tune h = (flagged store (Some (r.Common y.TuneRequest)), cleared_by b d store (omega arith) g.room)
  steps_as_heard k.End h =
      split (is_open v xs)
      (λ e. split (ltb d.len limit)
      (λ l. let eqs = end_fits d store b (g.framed e).inside (ltb-true _ _ l) in
      good_by k.End v xs b _ _ _ _ eqs.0 eqs.1
      (rw (front_after e (ltb-true _ _ l), e, le-leb (length xs + 2) limit (fits e (ltb-true _ _ l))), cleared_by b d _ above room_after))
      (λ l. let eqs = end_over d store b (g.framed e).inside (ltb-false _ _ l) in
      good_by k.End v xs b _ _ _ _ eqs.0 eqs.1 (rw (e, lt-leb (length xs + 2) limit (over e (ltb-false _ _ l))), cleared_by b d store above g.room)))
      (λ e. let eqs = end_plain d store b (g.plain e).outside in good_by k.End v xs b _ _ _ _ eqs.0 eqs.1 (rw e, cleared_by b d store above g.room))
    where
      above : 0xF4 ≤ b
      above = omega arith

      fits : is_open v xs ≡ true → d.len < limit → length xs + 2 ≤ limit
      fits e l = omega (arith, (g.framed e).size)

      over : is_open v xs ≡ true → limit ≤ d.len → limit < length xs + 2
      over e l = omega (arith, (g.framed e).size)
  steps_as_heard k.Realtime h = (realtime_report_heard store (realtime_of b), g)

-- a state that knows no status, has no frame open and nothing pending has seen nothing
pub cleared_matches : (d : Decoder) (store : List ℕ) → limit ≤ length store → Matches 0 [] (cleared d) store
cleared_matches d store room = closed_at 0 [] d store refl (rw (none_of_data 0 (omega arith))) (nothing_pending 0) room

-- one byte reports what history says, and leaves a state that holds what history then knows
pub byte_is_step : (v : ℕ) (xs : List ℕ) (d : Decoder) (store : List ℕ) (b : ℕ) → Matches v xs d store
    → (reports_in (step d b) (stored d store b) ≡ heard v xs b)
    × Matches (next_status (class_of b) v b) (next_data (class_of b) xs b) (step d b).state (stored d store b)
unfolding step stored heard
byte_is_step v xs d store b m = steps_as_heard v xs d store m b (class_of b) (range_of b)

-- the state holds what the bytes ahead say once one more has come
ahead_matches : (past : List ℕ) (d : Decoder) (store : List ℕ) (b : ℕ) → Matches (last_status past) (data_since past) d store
    → Matches (last_status (b ∷ past)) (data_since (b ∷ past)) (step d b).state (stored d store b)
ahead_matches past d store b g =
    let same = status_and_data_after (class_of b) past b (range_of b) in
    subst (λ (v : ℕ). Matches v (data_since (b ∷ past)) (step d b).state (stored d store b)) (sym same.0)
    (subst (λ (xs : List ℕ). Matches (next_status (class_of b) (last_status past) b) xs (step d b).state (stored d store b)) (sym same.1)
    (byte_is_step (last_status past) (data_since past) d store b g).1)

-- bytes that come singly report what history says of them
pub history_is_step : (past : List ℕ) (d : Decoder) (store bytes : List ℕ) → Matches (last_status past) (data_since past) d store
    → singly d store bytes ≡ meaning past bytes
unfolding singly meaning
history_is_step past d store [] g = refl
history_is_step past d store (b ∷ bs) g =
    ap₂ (λ (x : List Reported) (rest : List (List Reported)). x ∷ rest) (byte_is_step (last_status past) (data_since past) d store b g).0
    (history_is_step (b ∷ past) (step d b).state (stored d store b) bs (ahead_matches past d store b g))

-- the state and the store behind any bytes hold what those bytes say
pub matches_after : (past : List ℕ) (d : Decoder) (store bytes : List ℕ) → Matches (last_status past) (data_since past) d store
    → Matches (last_status (past_after past bytes)) (data_since (past_after past bytes)) (state_singly d bytes) (store_singly d store bytes)
matches_after past d store [] g = g
matches_after past d store (b ∷ bs) g = matches_after (b ∷ past) (step d b).state (stored d store b) bs (ahead_matches past d store b g)

-- what `Decoder::in_sysex` answers: whether a frame is open at the next byte
pub in_sysex_is_open : (bytes : List ℕ) → (state_singly fresh bytes).in_sysex ≡ open_at (past_after [] bytes)
in_sysex_is_open bytes =
    let blank : List ℕ = replicate limit 0 in
    let room : limit ≤ length blank = omega (arith, length-replicate {A = ℕ} limit 0) in
    flag_is_open _ _ _ _ (matches_after [] fresh blank bytes (cleared_matches fresh blank room))
