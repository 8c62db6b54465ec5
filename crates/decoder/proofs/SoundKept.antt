-- A sound state stays sound and the store keeps its length, whatever byte comes, because every state that a byte leaves is cleared,
-- holds a status that takes data, or has one byte more that was tested to fit.
use Rattle.std.specs.Prelude.{None, Option, Some}
use mathlib.Core.Path.{◌≡◌, refl, ap, ◌∙◌}
use mathlib.Core.Bool.{Bool, true, false, ◌&&◌}
use mathlib.Core.List.{List}
use Prim.Native.Nat.{ℕ, ◌+◌, ◌≤◌, ◌<◌}
use native.Mathlib.Omega.{arith}
use lib.Dec.{ltb, leb, eqb}
use lib.ListN.{length, set, length-set}
use borrow.Author.Tests.{ltb-true, ltb-false, leb-true, eqb-true, lt-ltb, le-leb, eq-eqb, eqb-false, leb-false, le-ltb}
use Rattle.laws.specs.Choice.{pick}
use Rattle.laws.proofs.Tests.{by_test, both}
use Rattle.wire.proofs.DataLength.{none_of_data, none_of_start, none_above}
use Rattle.wire.specs.Status.{data_length, is_channel_status}
use Rattle.decoder.specs.declared.Decoder.{Decoder}
use Rattle.decoder.specs.declared.Class.{Class}
use Rattle.decoder.specs.declared.Class.TheVariants as k
use Rattle.decoder.specs.declared.Stepped.{Stepped}
use Rattle.decoder.specs.State.{limit, sound, waits_soundly}
use Rattle.decoder.specs.Step.{class_of, step_in, step, stored_in, stored, collect, longer, kept}
use Rattle.decoder.proofs.Limit.{room_for_three}
use Rattle.decoder.proofs.Classes.{Range, range_of}

-- a byte that waits for data takes data
pub held_takes_data : (b : ℕ) → Range k.Held b → 0 < data_length b
unfolding data_length
held_takes_data b h =
    let P : ℕ → Type 0 = λ (n : ℕ). 0 < n in
    rw (le-ltb b 0x80 h.0)
    (by_test P (ltb b 0xC0) _ _ (λ e. omega arith)
    (λ u. by_test P (ltb b 0xE0) _ _ (λ e. omega arith)
    (λ v. by_test P (ltb b 0xF0) _ _ (λ e. omega arith)
    (λ w. by_test P (eqb b 0xF1) _ _ (λ e. omega arith)
    (λ x. by_test P (eqb b 0xF2) _ _ (λ e. omega arith)
    (λ y. by_test P (eqb b 0xF3) _ _ (λ e. omega arith)
    (λ z. absurd (none_left (ltb-false b 0xF0 w) (eqb-false b 0xF1 x) (eqb-false b 0xF2 y) (eqb-false b 0xF3 z)))))))))
  where
    none_left : 0xF0 ≤ b → (b ≡ 0xF1 → ⊥) → (b ≡ 0xF2 → ⊥) → (b ≡ 0xF3 → ⊥) → ⊥
    none_left l p q r = let n = h.2 in omega arith

-- only a byte that waits for data takes data: 80 to EF, F1 to F3
pub takes_data_held : (b : ℕ) → 0 < data_length b → Range k.Held b
takes_data_held b h = go (class_of b) (range_of b)
  where
    go : (c : Class) → Range c b → Range k.Held b
    go k.Data r = absurd (omega (arith, none_of_data b r))
    go k.Held r = r
    go k.Start r = absurd (omega (arith, ap data_length r ∙ none_of_start))
    go k.Undefined r = absurd (omega (arith, none_above b r.0))
    go k.Tune r = absurd (omega (arith, none_above b (omega arith)))
    go k.End r = absurd (omega (arith, none_above b (omega arith)))
    go k.Realtime r = absurd (omega (arith, none_above b (omega arith)))

-- no status takes more than two data bytes
pub at_most_two : (b : ℕ) → data_length b ≤ 2
unfolding data_length
at_most_two b =
    let P : ℕ → Type 0 = λ (n : ℕ). n ≤ 2 in
    by_test P (ltb b 0x80) _ _ (λ e. omega arith)
    (λ t. by_test P (ltb b 0xC0) _ _ (λ e. omega arith)
    (λ u. by_test P (ltb b 0xE0) _ _ (λ e. omega arith)
    (λ v. by_test P (ltb b 0xF0) _ _ (λ e. omega arith)
    (λ w. by_test P (eqb b 0xF1) _ _ (λ e. omega arith)
    (λ x. by_test P (eqb b 0xF2) _ _ (λ e. omega arith)
    (λ y. by_test P (eqb b 0xF3) _ _ (λ e. omega arith) (λ z. omega arith)))))))

-- a status that takes more than one data byte takes two
two_exactly : (b : ℕ) → leb (data_length b) 1 ≡ false → eqb (data_length b) 2 ≡ true
two_exactly b l = eq-eqb (data_length b) 2 (omega (arith, at_most_two b, leb-false (data_length b) 1 l))

-- no frame open in a sound state, and what waits then
pub closed_part : (d : Decoder) → sound d ≡ true → d.in_sysex ≡ false → (d.len ≡ 0) × (waits_soundly d.status d.have d.data0 ≡ true)
closed_part d h e = let p = both _ _ (rw e at h) in (eqb-true _ _ p.0, p.1)

-- an open frame in a sound state
pub record Opened (d : Decoder) : Type 0 where
  pub some : 1 ≤ d.len
  pub fits : d.len ≤ limit

pub open_part : (d : Decoder) → sound d ≡ true → d.in_sysex ≡ true → Opened d
open_part d h e =
    let p = both _ _ (rw e at h) in
    let q = both _ _ p.1 in
    record { some = leb-true _ _ p.0; fits = leb-true _ _ q.0 }

-- an open frame with one byte more is sound while the limit has room
longer_sound : (d : Decoder) → d.len < limit → sound (longer d) ≡ true
longer_sound d h = rw (le-leb 1 (d.len + 1) (omega arith), le-leb (d.len + 1) limit (omega arith))

-- a state whose status takes data, if any, and nothing pending
kept_sound : (v first : ℕ) → 0 < data_length v → waits_soundly (kept v) 0 first ≡ true
kept_sound v first h = by_test (λ (x : Option ℕ). waits_soundly x 0 first ≡ true) (is_channel_status v) _ _ (λ e. rw (lt-ltb 0 (data_length v) h)) (λ e. refl)

collect_sound : (d : Decoder) (v : Option ℕ) (b : ℕ) → sound d ≡ true → waits_soundly v d.have d.data0 ≡ true → b < 0x80
    → sound (collect v d b).state ≡ true
collect_sound d None b h w r = h
collect_sound d (Some v) b h w r =
    let takes : 0 < data_length v = ltb-true _ _ (both _ _ w).0 in
    let P : Stepped → Type 0 = λ (x : Stepped). sound x.state ≡ true in
    by_test P (eqb d.have 0) _ _
    (λ e. by_test P (leb (data_length v) 1) _ _ (λ l. kept_sound v b takes)
    (λ l. rw (lt-ltb 0 (data_length v) takes, le-leb b 127 (omega arith), two_exactly v l)))
    (λ e. kept_sound v d.data0 takes)

pub sound_kept : (d : Decoder) (b : ℕ) → sound d ≡ true → sound (step d b).state ≡ true
unfolding step
sound_kept d b h = go (class_of b) (range_of b)
  where
    P : Stepped → Type 0
    P x = sound x.state ≡ true

    go : (c : Class) → Range c b → P (step_in c d b)
    go k.Data r =
        by_test P d.in_sysex _ _
        (λ e. by_test P (ltb d.len limit) _ _ (λ l. longer_sound d (ltb-true _ _ l)) (λ l. refl))
        (λ e. collect_sound d d.status b h (closed_part d h e).1 r)
    go k.Held r = rw (lt-ltb 0 (data_length b) (held_takes_data b r))
    go k.Start r = rw (le-leb 1 limit (omega (arith, room_for_three)))
    go k.Undefined r = refl
    go k.Tune r = refl
    go k.End r = by_test P d.in_sysex _ _ (λ e. by_test P (ltb d.len limit) _ _ (λ l. refl) (λ l. refl)) (λ e. refl)
    go k.Realtime r = h

-- no byte changes the store's length
pub length_kept : (d : Decoder) (store : List ℕ) (b : ℕ) → length (stored d store b) ≡ length store
unfolding stored
length_kept d store b = go (class_of b)
  where
    one : (t : Bool) (n : ℕ) → length (pick t (set store n b) store) ≡ length store
    one true n = length-set store n b
    one false n = refl

    go : (c : Class) → length (stored_in c d store b) ≡ length store
    go k.Data = one (d.in_sysex && ltb d.len limit) d.len
    go k.Held = refl
    go k.Start = length-set store 0 b
    go k.Undefined = refl
    go k.Tune = refl
    go k.End = one (d.in_sysex && ltb d.len limit) d.len
    go k.Realtime = refl
