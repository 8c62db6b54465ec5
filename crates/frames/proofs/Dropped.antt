-- "Names frames of 2,356 to 2,358 bytes parse, yet the decoder drops them." A frame that the reader accepts and that is longer than the limit
-- is dropped, because it is F0, bytes below 80 and F7: the byte behind as many as the limit, be it a data byte or F7, reports 19, and no other
-- byte reports anything.
use mathlib.Core.Path.{◌≡◌, refl, ap, ap₂, sym, ◌∙◌}
use mathlib.Core.Bool.{Bool, true, false}
use mathlib.Core.List.{List, [], ◌∷◌, ◌++◌, append_assoc}
use Prim.Native.Nat.{ℕ, suc, ◌+◌, ◌-◌, ◌≤◌, ◌<◌}
use native.Mathlib.Omega.{arith}
use lib.Dec.{ltb, eqb}
use lib.ListN.{length, get_or, take, drop, replicate, take-append-drop, length-append, length-drop, replicate-append-replicate}
use lib.Seq.{drop-cons, length-take-le}
use borrow.Author.Tests.{ltb-true, eqb-true, eqb-false}
use Rattle.laws.proofs.Tests.{both, split}
use Rattle.refusal.specs.Outcome.{Outcome, gives, refused}
use Rattle.framing.specs.Framing.{body}
use Rattle.framing.proofs.Bytes.{framed_is}
use Rattle.frame_reader.specs.declared.Record.{Record}
use Rattle.frame_reader.specs.Payload.{read_run}
use Rattle.frame_reader.specs.Reader.{read_record}
use Rattle.frame_reader.proofs.Accepted.{tested}
use Rattle.decoder.specs.State.{limit, fresh}
use Rattle.decoder.specs.Step.{class_of}
use Rattle.decoder.proofs.Limit.{limit_is, room_for_three}
use Rattle.damage.specs.Open.{past_after, open_at}
use Rattle.damage.specs.Reported.{Reported, report19}
use Rattle.damage.specs.History.{heard, meaning}
use Rattle.damage.specs.Sent.{seven_bit}
use Rattle.damage.specs.Calls.{singly}
use Rattle.damage.proofs.Ahead.{meaning_append}
use Rattle.damage.proofs.FrameLimit.{one_fewer, as_many}
use Rattle.damage.proofs.HistoryIsStep.{cleared_matches, history_is_step}
use Rattle.frames.specs.Dropped.{dropped}
use Rattle.frames.proofs.Reported.{low_is_seven_bit}

seven_bit_parts : (xs ys : List ℕ) → seven_bit (xs ++ ys) ≡ true → (seven_bit xs ≡ true) × (seven_bit ys ≡ true)
seven_bit_parts [] ys h = (refl, h)
seven_bit_parts (x ∷ xs) ys h =
    let b = both (ltb x 0x80) (seven_bit (xs ++ ys)) h in
    let r = seven_bit_parts xs ys b.1 in
    (rw b.0 r.0, r.1)

past_append : (past xs ys : List ℕ) → past_after past (xs ++ ys) ≡ past_after (past_after past xs) ys
past_append past [] ys = refl
past_append past (x ∷ xs) ys = past_append (x ∷ past) xs ys

-- F7 where no frame is open reports nothing
stray_end : (past : List ℕ) → open_at past ≡ false → meaning past (0xF7 ∷ []) ≡ [] ∷ []
unfolding meaning heard class_of
stray_end past h = rw h

-- a data byte is the one too many
module _ (xs ys : List ℕ) (b : ℕ) (e : length xs + 1 ≡ limit) (ok : seven_bit xs ≡ true) (small : b < 0x80) (fine : seven_bit ys ≡ true) where
  data_too_many : meaning [] (0xF0 ∷ (xs ++ (b ∷ ys)) ++ (0xF7 ∷ [])) ≡ dropped (length ys + 1)
  data_too_many =
      let m = as_many xs ok b ys e small fine in
      let past : List ℕ = past_after (0xF0 ∷ []) (xs ++ (b ∷ ys)) in
      let closed : open_at past ≡ false = ap open_at (past_append (0xF0 ∷ []) xs (b ∷ ys)) ∙ m.1 in
      let count : suc (length xs) ≡ limit = omega arith in
      meaning_append [] (0xF0 ∷ xs ++ (b ∷ ys)) (0xF7 ∷ [])
      ∙ ap₂ (λ (u v : List (List Reported)). u ++ v) m.0 (stray_end past closed)
      ∙ ap (λ (n : ℕ). (replicate n [] ++ ((report19 ∷ []) ∷ replicate (length ys) [])) ++ ([] ∷ [])) count
      ∙ append_assoc (replicate limit []) ((report19 ∷ []) ∷ replicate (length ys) []) ([] ∷ [])
      ∙ ap (λ (l : List (List Reported)). replicate limit [] ++ ((report19 ∷ []) ∷ l)) (replicate-append-replicate (length ys) 1 [])

-- a data byte or F7 is the one too many
drops_one : (xs : List ℕ) → seven_bit xs ≡ true → limit ≤ length xs + 1 → meaning [] (0xF0 ∷ xs ++ (0xF7 ∷ [])) ≡ dropped (length xs + 1 - limit)
drops_one xs ok h = split (eqb (length xs + 1) limit) equal more
  where
    equal : eqb (length xs + 1) limit ≡ true → meaning [] (0xF0 ∷ xs ++ (0xF7 ∷ [])) ≡ dropped (length xs + 1 - limit)
    equal t =
        let e : length xs + 1 ≡ limit = eqb-true (length xs + 1) limit t in
        let count : suc (length xs) ≡ limit = omega arith in
        let none : 0 ≡ length xs + 1 - limit = omega arith in
        (one_fewer xs ok e).1 ∙ ap₂ (λ (n k : ℕ). replicate n [] ++ ((report19 ∷ []) ∷ replicate k [])) count none

    more : eqb (length xs + 1) limit ≡ false → meaning [] (0xF0 ∷ xs ++ (0xF7 ∷ [])) ≡ dropped (length xs + 1 - limit)
    more f =
        let other = eqb-false (length xs + 1) limit f in
        let cut : ℕ = limit - 1 in
        let inside : cut < length xs = omega (arith, other, room_for_three) in
        let front : List ℕ = take cut xs in
        let rest : List ℕ = drop (suc cut) xs in
        let parts : front ++ (get_or xs cut 0 ∷ rest) ≡ xs = ap (λ (l : List ℕ). front ++ l) (sym (drop-cons xs cut 0 inside)) ∙ take-append-drop cut xs in
        let seven = seven_bit_parts front (get_or xs cut 0 ∷ rest) (ap seven_bit parts ∙ ok) in
        let two = both (ltb (get_or xs cut 0) 0x80) (seven_bit rest) seven.1 in
        let size : length front ≡ cut = length-take-le cut xs (omega arith) in
        let count : length front + 1 ≡ limit = omega (arith, size, room_for_three) in
        let left : length rest + 1 ≡ length xs + 1 - limit = omega (arith, length-drop (suc cut) xs, inside, room_for_three) in
        ap (λ (l : List ℕ). meaning [] (0xF0 ∷ l ++ (0xF7 ∷ []))) (sym parts)
        ∙ data_too_many front rest (get_or xs cut 0) count seven.0 (ltb-true (get_or xs cut 0) 0x80 two.0) two.1
        ∙ ap dropped left

-- every accepted frame longer than the limit, from a fresh decoder, over any store that is long enough: one 19, at the byte behind as many as
-- the limit
pub accepted_too_long_is_dropped : (bytes : List ℕ) (r : Record) → read_record bytes ≡ gives r → limit < length bytes
    → (store : List ℕ) → limit ≤ length store
    → singly fresh store bytes ≡ replicate limit [] ++ ((report19 ∷ []) ∷ replicate (length bytes - 1 - limit) [])
accepted_too_long_is_dropped bytes r h long store room =
    let d = tested bytes r h in
    let shape : bytes ≡ 0xF0 ∷ body bytes ++ (0xF7 ∷ []) = framed_is bytes d.ends in
    let size : length bytes ≡ length (body bytes) + 2 = ap length shape ∙ omega (arith, length-append (body bytes) (0xF7 ∷ [])) in
    let count : length (body bytes) + 1 - limit ≡ length bytes - 1 - limit = omega (arith, size) in
    history_is_step [] fresh store bytes (cleared_matches fresh store room)
    ∙ ap (meaning []) shape
    ∙ drops_one (body bytes) (low_is_seven_bit (body bytes) d.low) (omega (arith, size))
    ∙ ap dropped count

-- a names dump to unit 0, version 7, bank 0, with a run of n bytes 00
abbrev pub names : ℕ → List ℕ
names n = 0xF0 ∷ 0x00 ∷ 0x20 ∷ 0x32 ∷ 0x20 ∷ 0x00 ∷ 0x0B ∷ 0x07 ∷ 0x00 ∷ replicate n 0 ++ (0xF7 ∷ [])

-- does the reader give a record?
abbrev pub given : Outcome Record → Bool
given (gives x) = true
given (refused n values) = false

-- there are such frames, computed: names frames of 2,356, 2,357 and 2,358 bytes parse, and all are longer than the limit
pub names_too_long :
    ((length (names 2346) ≡ 2356) × (given (read_record (names 2346)) ≡ true))
    × ((length (names 2347) ≡ 2357) × (given (read_record (names 2347)) ≡ true))
    × ((length (names 2348) ≡ 2358) × (given (read_record (names 2348)) ≡ true))
    × (limit < 2356)
unfolding read_record read_run
names_too_long = ((refl, refl), (refl, refl), (refl, refl), omega (arith, limit_is))
