-- A run is moved word by word and then byte by byte, because each store goes right behind the last, and a word without top bits is eight data bytes.
use mathlib.Core.Path.{◌≡◌, sym, ap, subst, ◌∙◌}
use mathlib.Core.List.{List}
use Prim.Native.Nat.{ℕ, ◌+◌, ◌-◌, ◌≤◌, ◌<◌, min}
use native.Mathlib.Omega.{arith}
use native.Mathlib.Numerals.{add-one}
use lib.Bits.{bit_and}
use lib.ListN.{length, take, drop, get_or, set, length-drop}
use lib.Seq.{get_or-drop, take-suc, length-take-le}
use Rattle.std.proofs.lemmas.List.{take-take}
use borrow.Rule.Slice.PartMut.{put_mid}
use Rattle.laws.specs.Window.{window}
use Rattle.laws.proofs.Window.{window_more, window_front, lent_window}
use Rattle.octets.specs.quick.Words.{word_at, put_word}
use Rattle.octets.proofs.words.Words.{word_copied}
use Rattle.octets.specs.quick.Data.{data_run, top_bits_at}
use Rattle.octets.proofs.data_bytes.Runs.{run_no_longer, run_more, run_take}
use Rattle.octets.proofs.data_bytes.Words.{word_more, no_tops}
use Rattle.decoder.specs.State.{limit}
use Rattle.stream.specs.quick.Going.{MovedTo, Copied, RunMoved}

-- one byte stored behind those of a stretch
further_one : (l xs : List ℕ) (p k n : ℕ) → k < length xs → n ≡ p + k → n < length l → set (window l p (take k xs)) n (get_or xs k 0) ≡ window l p (take (k + 1) xs)
further_one l xs p k n h e room =
    window_more l p (take k xs) (get_or xs k 0) n (omega (arith, e, length-take-le k xs (omega arith))) room
    ∙ ap (window l p) (sym (take-suc xs k 0 h) ∙ ap (λ (m : ℕ). take m xs) (sym (add-one k)))

module _ (start from most : ℕ) (before bytes : List ℕ) (room : start + most ≤ length before) (there : from + most ≤ length bytes) where
  module _ (at used left : ℕ) (store : List ℕ) (m : MovedTo start from most at used left before store bytes) where
    here : length (drop from bytes) ≡ length bytes - from
    here = length-drop from bytes

    byte_there : (j : ℕ) → get_or bytes (used + j) 0 ≡ get_or (drop from bytes) (m.count + j) 0
    byte_there j =
        let place : used + j ≡ from + (m.count + j) = omega (arith, m.next) in
        ap (λ (n : ℕ). get_or bytes n 0) place ∙ sym (get_or-drop from bytes (m.count + j) 0)

    byte_here : get_or bytes used 0 ≡ get_or (drop from bytes) m.count 0
    byte_here = ap (λ (n : ℕ). get_or bytes n 0) m.next ∙ sym (get_or-drop from bytes m.count 0)

    -- a data byte right behind those that were moved
    pub moving_byte : 0 < left → get_or bytes used 0 < 0x80 → MovedTo start from most (at + 1) (used + 1) (left - 1) before (set store at (get_or bytes used 0)) bytes
    moving_byte h low =
        let within : m.count < length (drop from bytes) = omega (arith, m.rest, h, here, there) in
        record {
          count = m.count + 1;
          place = omega (arith, m.place);
          next = omega (arith, m.next);
          rest = omega (arith, m.rest, h);
          run = run_more (drop from bytes) m.count m.run within (subst (λ (x : ℕ). x < 0x80) byte_here low);
          moved = ap (λ (x : ℕ). set store at x) byte_here ∙ ap (λ (l : List ℕ). set l at (get_or (drop from bytes) m.count 0)) m.moved
              ∙ further_one before (drop from bytes) start m.count at within m.place (omega (arith, m.place, m.rest, h, room));
        }

    -- eight data bytes as a word
    pub moving_word : 8 ≤ left → (w : ℕ) → ((i : ℕ) → get_or bytes i 0 < 256) → w ≡ word_at bytes used → top_bits_at (drop from bytes) m.count ≡ 0
        → MovedTo start from most (at + 8) (used + 8) (left - 8) before (put_word w store at) bytes
    moving_word h w small e none =
        record {
          count = m.count + 8;
          place = omega (arith, m.place);
          next = omega (arith, m.next);
          rest = omega (arith, m.rest, h);
          run = word_more (drop from bytes) m.count m.run (omega (arith, m.rest, h, here, there)) none;
          moved = word_copied bytes store used at w small e
              ∙ one 7 (m.count + 8) (omega arith) (omega arith)
              (one 6 (m.count + 7) (omega arith) (omega arith)
              (one 5 (m.count + 6) (omega arith) (omega arith)
              (one 4 (m.count + 5) (omega arith) (omega arith)
              (one 3 (m.count + 4) (omega arith) (omega arith)
              (one 2 (m.count + 3) (omega arith) (omega arith)
              (one 1 (m.count + 2) (omega arith) (omega arith)
              (ap (λ (x : ℕ). set store at x) byte_here ∙ ap (λ (l : List ℕ). set l at (get_or (drop from bytes) m.count 0)) m.moved
              ∙ further_one before (drop from bytes) start m.count at (omega (arith, m.rest, h, here, there)) m.place (omega (arith, m.place, m.rest, h, room)))))))));
        }
      where
        one : (j : ℕ) {l : List ℕ} (q : ℕ) → j < 8 → q ≡ m.count + j + 1 → l ≡ window before start (take (m.count + j) (drop from bytes))
            → set l (at + j) (get_or bytes (used + j) 0) ≡ window before start (take q (drop from bytes))
        one j {l} q small e s =
            ap (λ (x : ℕ). set l (at + j) x) (byte_there j) ∙ ap (λ (x : List ℕ). set x (at + j) (get_or (drop from bytes) (m.count + j) 0)) s
            ∙ further_one before (drop from bytes) start (m.count + j) (at + j) (omega (arith, m.rest, h, here, there)) (omega (arith, m.place))
            (omega (arith, m.place, m.rest, h, room))
            ∙ ap (λ (y : ℕ). window before start (take y (drop from bytes))) (sym e)

-- a copy to the front of a buffer is a move from place 0 to place 0
module _ {from before store : List ℕ} {n : ℕ} (room : length from ≤ length before) (m : Copied n from before store) where
  abbrev as_moved : n ≤ length from → MovedTo 0 0 (length from) n n (length from - n) before store from
  as_moved h = record { count = n; place = omega arith; next = omega arith; rest = omega arith; run = m.run; moved = m.moved }

  as_copied : {later : List ℕ} (p used left : ℕ) → MovedTo 0 0 (length from) p used left before later from → Copied p from before later
  as_copied p used left k =
      let same : k.count ≡ p = omega (arith, k.place) in
      rw (← same) record { run = k.run; moved = k.moved }

  pub copied_byte : n < length from → get_or from n 0 < 0x80 → Copied (n + 1) from before (set store n (get_or from n 0))
  copied_byte h low =
      as_copied (n + 1) (n + 1) (length from - n - 1)
      (moving_byte 0 0 (length from) before from (omega arith) (omega arith) n n (length from - n) store (as_moved (omega arith)) (omega arith) low)

  pub copied_word : (p w : ℕ) (later : List ℕ) → p ≡ n + 8 → p ≤ length from → ((i : ℕ) → get_or from i 0 < 256) → w ≡ word_at from n → bit_and w 0x8080_8080_8080_8080 ≡ 0
      → later ≡ put_word w store n → Copied p from before later
  copied_word p w later next h small e none stored =
      let moved = moving_word 0 0 (length from) before from (omega arith) (omega arith) n n (length from - n) store (as_moved (omega arith)) (omega arith) w small e
      (no_tops from n w small e none) in
      let copied : Copied (n + 8) from before (put_word w store n) = as_copied (n + 8) (n + 8) (length from - n - 8) moved in
      rw (next, stored) copied

-- a run that was copied to the store from a place on
pub run_moved_there : (full at used most n : ℕ) (store bytes new : List ℕ) → full ≡ length store → limit ≤ full → at ≤ limit → used ≤ length bytes
    → most ≡ min (limit - at) (length bytes - used) → n ≡ data_run (take most (drop used bytes))
    → new ≡ window (take (full - at) (drop at store)) 0 (take n (take most (drop used bytes)))
    → RunMoved at used n store (put_mid at (full - at) store new) bytes
run_moved_there full at used most n store bytes new whole room fits within most-is n-is new-is =
    let xs : List ℕ = drop used bytes in
    let long : length xs ≡ length bytes - used = length-drop used bytes in
    let all : n ≡ min (limit - at) (data_run xs) = omega (arith, n-is, run_take xs most, most-is, long, run_no_longer xs) in
    let same : take n (take most xs) ≡ take n xs = take-take n most xs (omega (arith, n-is, run_take xs most)) in
    let part : ℕ → List ℕ = λ (f : ℕ). take (f - at) (drop at store) in
    let new-at : new ≡ window (part (length store)) 0 (take n (take most xs)) = new-is ∙ ap (λ (f : ℕ). window (part f) 0 (take n (take most xs))) whole in
    record {
      all = all;
      moved = ap (λ (f : ℕ). put_mid at (f - at) store new) whole
          ∙ lent_window store (take n xs) new at (omega (arith, whole)) (new-at ∙ ap (window (part (length store)) 0) same ∙ window_front _ (take n xs));
    }
