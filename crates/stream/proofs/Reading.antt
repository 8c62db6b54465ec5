-- Three numbers and the first data byte tell whether a call takes a state, because they are put together of the state's bytes, and the bytes can
-- be told from them.
use Rattle.std.specs.Prelude.{Some}
use mathlib.Core.Path.{◌≡◌, refl, ap, sym, subst, ◌∙◌}
use mathlib.Core.Bool.{Bool, true, false, ◌&&◌}
use mathlib.Core.List.{List, [], ◌++◌}
use Prim.Native.Nat.{ℕ, ◌+◌, ◌*◌, ◌/◌, ◌%◌, ◌≤◌, ◌<◌}
use native.Mathlib.Omega.{arith}
use lib.Dec.{leb, eqb}
use lib.ListN.{length, drop, get_or}
use Rattle.std.specs.Array.{IsFirstChunk}
use Rattle.std.proofs.lemmas.List.{length-take-le}
use borrow.Author.Tests.{eq-eqb, ne_eqb, le-leb, eqb-true, eqb-false, leb-true}
use Rattle.laws.specs.Choice.{pick}
use Rattle.laws.proofs.Tests.{split, both, true_is_not_false}
use Rattle.refusal.specs.Outcome.{Outcome, gives, refused}
use Rattle.decoder.specs.State.{limit, sound, waits_soundly}
use Rattle.decoder.specs.Call.{Walked, walk}
use Rattle.decoder.proofs.Calling.{short_refused, unsound_refused, ready_walks}
use Rattle.decoder.proofs.Longer.{longer_by, front_back, walk_front}
use Rattle.stream.specs.declared.FedAnswer.{FedAnswer}
use Rattle.stream.specs.State.{is_state, state_of, state_length}
use Rattle.stream.specs.Feed.{feed_call, refused_feed, StreamFed}
use Rattle.stream.specs.quick.Bytes.{four_at, status_in, open_taken, waiting_taken, taken}
use Rattle.stream.specs.quick.Going.{Numbered, Ready}
use Rattle.stream.proofs.StateBytes.{written_back, status_decoded}
use Rattle.stream.proofs.Tests.{limit_small}

-- what a refused call and one that walks come to
pub refused_so : (state later store left bytes : List ℕ) (r : FedAnswer) → later ≡ state → left ≡ store → feed_call state store bytes ≡ refused 20 []
    → r ≡ refused_feed 20 → StreamFed (feed_call state store bytes) r state later store left
refused_so state later store left bytes r p q e t = rw e (record { answers = t; keeps = p; leaves = q })

pub walked_so : (state store bytes : List ℕ) (w : Walked) (r : FedAnswer) (later left : List ℕ) → feed_call state store bytes ≡ gives w → Numbered w r later left
    → StreamFed (feed_call state store bytes) r state later store left
walked_so state store bytes w r later left e n = rw e (record { answers = n.told; keeps = n.kept; leaves = n.store })

pub short_store : (state store bytes : List ℕ) → length store < limit → feed_call state store bytes ≡ refused 20 []
short_store state store bytes h = split (is_state state) (λ t. rw t (short_refused (state_of state) store bytes h)) (λ t. rw t)

pub long_state : (state store bytes : List ℕ) → (length state ≡ 14 → ⊥) → feed_call state store bytes ≡ refused 20 []
long_state state store bytes h = rw (ne_eqb (length state) 14 h)

-- a call on the front of a store is the call on the store, with the rest as it was
pub fed_front : (state store front bytes : List ℕ) (n : ℕ) → IsFirstChunk store front n → limit ≤ n → (r : FedAnswer) (later left : List ℕ)
    → StreamFed (feed_call state front bytes) r state later front left → StreamFed (feed_call state store bytes) r state later store (left ++ drop n store)
fed_front state store front bytes n c enough r later left f =
    split (is_state state)
    (λ t. split (sound (state_of state)) (λ u. walks t u)
    (λ u. stays (rw t (unsound_refused (state_of state) front bytes u)) (rw t (unsound_refused (state_of state) store bytes u))))
    (λ t. stays (rw t) (rw t))
  where
    stays : feed_call state front bytes ≡ refused 20 [] → feed_call state store bytes ≡ refused 20 []
        → StreamFed (feed_call state store bytes) r state later store (left ++ drop n store)
    stays p q =
        let g : StreamFed (refused 20 []) r state later front left = subst (λ (o : Outcome Walked). StreamFed o r state later front left) p f in
        rw q (record { answers = g.answers; keeps = g.keeps; leaves = ap (λ (l : List ℕ). l ++ drop n store) g.leaves ∙ front_back store front n c })

    walks : is_state state ≡ true → sound (state_of state) ≡ true → StreamFed (feed_call state store bytes) r state later store (left ++ drop n store)
    walks t u =
        let d = state_of state in
        let room : limit ≤ length front = omega (arith, enough, length-take-le n store c.enough, ap length c.same) in
        let p : feed_call state front bytes ≡ gives (walk d front bytes) = rw t (ready_walks d front bytes room u) in
        let q : feed_call state store bytes ≡ gives (longer_by (drop n store) (walk d front bytes)) =
        rw t (ready_walks d store bytes (omega (arith, enough, c.enough)) u) ∙ ap (λ (w : Walked). gives w) (walk_front d store front bytes n c enough) in
        let g : StreamFed (gives (walk d front bytes)) r state later front left = subst (λ (o : Outcome Walked). StreamFed o r state later front left) p f in
        rw q (record { answers = g.answers; keeps = g.keeps; leaves = ap (λ (l : List ℕ). l ++ drop n store) g.leaves })

-- the bytes of a number of four
digits_of : (a b c d : ℕ) → a < 256 → b < 256 → c < 256
    → ((a + 256 * b + 65_536 * c + 16_777_216 * d) % 65_536 ≡ a + 256 * b) × ((a + 256 * b + 65_536 * c + 16_777_216 * d) / 65_536 % 256 ≡ c)
    × ((a + 256 * b + 65_536 * c + 16_777_216 * d) / 16_777_216 ≡ d)
digits_of a b c d p q r = (omega arith, omega arith, omega arith)

module _ (l : List ℕ) (long : length l ≡ 14) (bytes : (i : ℕ) → get_or l i 0 < 256) where
  abbrev F : ℕ
  F = four_at l 0

  abbrev H : ℕ
  H = four_at l 4

  abbrev M : ℕ
  M = four_at l 8

  -- the bytes are a sound state's, the length's highest byte is 0, and the first number has the frame's length
  pub record Says : Type 0 where
    pub is : is_state l ≡ true
    pub fine : sound (state_of l) ≡ true
    pub top : get_or l 8 0 ≡ 0
    pub length_is : F / 256 ≡ pick (eqb (get_or l 0 0) 1) (state_length l) 0

  nothing_says : F ≡ 0 → H ≡ 0 → M ≡ 0 → Says
  nothing_says f h m =
      let frame : get_or l 0 0 ≡ 0 = omega (arith, f) in
      let flag : get_or l 9 0 ≡ 0 = omega (arith, m) in
      let none : get_or l 10 0 ≡ 0 = omega (arith, m) in
      let pending : get_or l 11 0 ≡ 0 = omega (arith, m) in
      let digits : state_length l ≡ 0 = omega (arith, f, h, m) in
      record {
        is = rw (eq-eqb (length l) 14 long, frame, flag, none);
        fine = rw (frame, digits, flag, pending);
        top = omega (arith, m);
        length_is = rw frame (omega (arith, f));
      }

  waiting_says : F ≡ 0 → H ≡ 0 → waiting_taken M (get_or l 12 0) ≡ true → Says
  waiting_says f h t =
      let p = both (eqb (M % 65_536) 256) (waits_soundly (Some (status_in M)) (M / 16_777_216) (get_or l 12 0)) t in
      let low : M % 65_536 ≡ 256 = eqb-true (M % 65_536) 256 p.0 in
      let frame : get_or l 0 0 ≡ 0 = omega (arith, f) in
      let d = digits_of (get_or l 8 0) (get_or l 9 0) (get_or l 10 0) (get_or l 11 0) (bytes 8) (bytes 9) (bytes 10) in
      let front : get_or l 8 0 + 256 * get_or l 9 0 ≡ 256 = sym d.0 ∙ low in
      let top : get_or l 8 0 ≡ 0 = omega (arith, front, bytes 8) in
      let flag : get_or l 9 0 ≡ 1 = omega (arith, front, bytes 8) in
      let status : status_in M ≡ get_or l 10 0 = d.1 in
      let pending : M / 16_777_216 ≡ get_or l 11 0 = d.2 in
      let digits : state_length l ≡ 0 = omega (arith, f, h, top) in
      record {
        is = rw (eq-eqb (length l) 14 long, frame, flag);
        fine = rw (frame, digits, flag) (rw (status, pending) at p.1);
        top = top;
        length_is = rw frame (omega (arith, f));
      }

  frame_says : H ≡ 0 → M ≡ 0 → open_taken F ≡ true → Says
  frame_says h m t =
      let p = both (eqb (F % 256) 1) _ t in
      let q = both (leb 1 (F / 256)) (leb (F / 256) limit) p.1 in
      let low : F % 256 ≡ 1 = eqb-true (F % 256) 1 p.0 in
      let frame : get_or l 0 0 ≡ 1 = omega (arith, low, bytes 0) in
      let flag : get_or l 9 0 ≡ 0 = omega (arith, m) in
      let none : get_or l 10 0 ≡ 0 = omega (arith, m) in
      let pending : get_or l 11 0 ≡ 0 = omega (arith, m) in
      let digits : state_length l ≡ F / 256 = omega (arith, h, m, frame) in
      record {
        is = rw (eq-eqb (length l) 14 long, frame, flag, none);
        fine = rw (frame, digits, flag, pending, q.0, q.1);
        top = omega (arith, m);
        length_is = sym digits ∙ ap (λ (u : Bool). pick u (state_length l) 0) (sym (eq-eqb (get_or l 0 0) 1 frame));
      }

  says : taken F H M (get_or l 12 0) ≡ true → Says
  says t =
      let p = both (eqb H 0) _ t in
      let h = eqb-true H 0 p.0 in
      split (eqb F 0)
      (λ f. split (eqb M 0) (λ m. nothing_says (eqb-true F 0 f) h (eqb-true M 0 m))
      (λ m. waiting_says (eqb-true F 0 f) h (rw (f, m) at p.1)))
      (λ f. let q = both (eqb M 0) (open_taken F) (rw f at p.1) in frame_says h (eqb-true M 0 q.0) q.1)

  -- a state that is taken is ready for the walk
  pub taken_ready : taken F H M (get_or l 12 0) ≡ true → Ready (F / 256) M (get_or l 12 0) l
  taken_ready t =
      let x = says t in
      let p = both (eqb (length l) 14) _ x.is in
      let q = both (leb (get_or l 0 0) 1) _ p.1 in
      let r = both (leb (get_or l 9 0) 1) _ q.1 in
      let status = status_decoded (get_or l 9 0) (get_or l 10 0) (leb-true (get_or l 9 0) 1 r.0) r.1 in
      record {
        bytes = sym (written_back l x.is bytes);
        long = long;
        fine = x.fine;
        length_is = x.length_is;
        middle = rw (status.0, status.1) (omega (arith, x.top));
        first = refl;
      }

  pub taken_walks : (store bs : List ℕ) → limit ≤ length store → taken F H M (get_or l 12 0) ≡ true → feed_call l store bs ≡ gives (walk (state_of l) store bs)
  taken_walks store bs room t = let x = says t in rw x.is (ready_walks (state_of l) store bs room x.fine)

  -- an open frame's state is taken where its length is within the limit and nothing waits
  open_is_taken : get_or l 0 0 ≡ 1 → get_or l 9 0 ≡ 0 → get_or l 10 0 ≡ 0 → get_or l 11 0 ≡ 0
      → 1 ≤ state_length l → state_length l ≤ limit → taken F H M (get_or l 12 0) ≡ true
  open_is_taken frame flag none pending some fits =
      let small : state_length l < 65_536 = omega (arith, fits, limit_small) in
      let h : H ≡ 0 = omega (arith, small) in
      let m : M ≡ 0 = omega (arith, small, flag, none, pending) in
      let len : F / 256 ≡ state_length l = omega (arith, small, frame) in
      rw (
        eq-eqb H 0 h,
        ne_eqb F 0 (λ z. omega (arith, z, frame)),
        eq-eqb M 0 m,
        eq-eqb (F % 256) 1 (omega (arith, frame)),
        le-leb 1 (F / 256)
            (omega (arith, len, some)),
        le-leb (F / 256) limit (omega (arith, len, fits)),
      )

  none_taken : get_or l 0 0 ≡ 0 → get_or l 9 0 ≡ 0 → get_or l 10 0 ≡ 0 → get_or l 11 0 ≡ 0 → state_length l ≡ 0 → taken F H M (get_or l 12 0) ≡ true
  none_taken frame flag none pending zero =
      rw (eq-eqb H 0 (omega (arith, zero)), eq-eqb F 0 (omega (arith, zero, frame)), eq-eqb M 0 (omega (arith, zero, flag, none, pending)))

  status_taken : get_or l 0 0 ≡ 0 → get_or l 9 0 ≡ 1 → state_length l ≡ 0 → waits_soundly (Some (get_or l 10 0)) (get_or l 11 0) (get_or l 12 0) ≡ true
      → taken F H M (get_or l 12 0) ≡ true
  status_taken frame flag zero waits =
      let top : get_or l 8 0 ≡ 0 = omega (arith, zero) in
      let d = digits_of (get_or l 8 0) (get_or l 9 0) (get_or l 10 0) (get_or l 11 0) (bytes 8) (bytes 9) (bytes 10) in
      let status : status_in M ≡ get_or l 10 0 = d.1 in
      let pending : M / 16_777_216 ≡ get_or l 11 0 = d.2 in
      let low : M % 65_536 ≡ 256 = omega (arith, top, flag) in
      rw (eq-eqb H 0 (omega (arith, zero)), eq-eqb F 0 (omega (arith, zero, frame)), ne_eqb M 0 (λ z. omega (arith, z, flag)), eq-eqb (M % 65_536) 256 low, status, pending) waits

  sound_taken : is_state l ≡ true → sound (state_of l) ≡ true → taken F H M (get_or l 12 0) ≡ true
  sound_taken is fine =
      let p = both (eqb (length l) 14) _ is in
      let q = both (leb (get_or l 0 0) 1) _ p.1 in
      let r = both (leb (get_or l 9 0) 1) _ q.1 in
      split (eqb (get_or l 9 0) 1)
      (λ g. split (eqb (get_or l 0 0) 1) (λ f. absurd (held_open f g)) (λ f. closed_held (low (get_or l 0 0) (leb-true _ 1 q.0) (eqb-false _ 1 f)) f (eqb-true _ 1 g) g))
      (λ g. let flag = low (get_or l 9 0) (leb-true _ 1 r.0) (eqb-false _ 1 g) in
      let none = eqb-true (get_or l 10 0) 0 (rw g at r.1) in
      split (eqb (get_or l 0 0) 1) (λ f. opened f g flag none) (λ f. closed f g (low (get_or l 0 0) (leb-true _ 1 q.0) (eqb-false _ 1 f)) flag none))
    where
      low : (n : ℕ) → n ≤ 1 → (n ≡ 1 → ⊥) → n ≡ 0
      low n h e = omega arith

      held_open : eqb (get_or l 0 0) 1 ≡ true → eqb (get_or l 9 0) 1 ≡ true → ⊥
      held_open f g =
          let a = both (leb 1 (state_length l)) (leb (state_length l) limit && (false && eqb (get_or l 11 0) 0)) (rw (f, g) at fine) in
          let b = both (leb (state_length l) limit) (false && eqb (get_or l 11 0) 0) a.1 in
          true_is_not_false (sym b.1)

      closed_held : get_or l 0 0 ≡ 0 → eqb (get_or l 0 0) 1 ≡ false → get_or l 9 0 ≡ 1 → eqb (get_or l 9 0) 1 ≡ true → taken F H M (get_or l 12 0) ≡ true
      closed_held frame f flag g =
          let a = both (eqb (state_length l) 0) (waits_soundly (Some (get_or l 10 0)) (get_or l 11 0) (get_or l 12 0)) (rw (f, g) at fine) in
          status_taken frame flag (eqb-true (state_length l) 0 a.0) a.1

      opened : eqb (get_or l 0 0) 1 ≡ true → eqb (get_or l 9 0) 1 ≡ false → get_or l 9 0 ≡ 0 → get_or l 10 0 ≡ 0 → taken F H M (get_or l 12 0) ≡ true
      opened f g flag none =
          let a = both (leb 1 (state_length l)) (leb (state_length l) limit && (true && eqb (get_or l 11 0) 0)) (rw (f, g) at fine) in
          let b = both (leb (state_length l) limit) (true && eqb (get_or l 11 0) 0) a.1 in
          open_is_taken (eqb-true _ 1 f) flag none (eqb-true _ 0 b.1) (leb-true 1 _ a.0) (leb-true _ limit b.0)

      closed : eqb (get_or l 0 0) 1 ≡ false → eqb (get_or l 9 0) 1 ≡ false → get_or l 0 0 ≡ 0 → get_or l 9 0 ≡ 0 → get_or l 10 0 ≡ 0 → taken F H M (get_or l 12 0) ≡ true
      closed f g frame flag none =
          let a = both (eqb (state_length l) 0) (eqb (get_or l 11 0) 0) (rw (f, g) at fine) in
          none_taken frame flag none (eqb-true _ 0 a.1) (eqb-true (state_length l) 0 a.0)

  pub untaken_refused : (store bs : List ℕ) → taken F H M (get_or l 12 0) ≡ false → feed_call l store bs ≡ refused 20 []
  untaken_refused store bs t =
      split (is_state l)
      (λ is. rw is (split (sound (state_of l)) (λ fine. absurd (true_is_not_false (sym (sound_taken is fine) ∙ t))) (λ bad. unsound_refused (state_of l) store bs bad)))
      (λ is. rw is)
