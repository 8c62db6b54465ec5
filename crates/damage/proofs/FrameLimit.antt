-- The edges of the frame limit, as laws over the limit. F0 and F7 count: a frame with two data bytes
-- fewer than the limit fits; with one fewer it is still open but F7 is one too many; and the data byte that makes as many as the
-- limit drops the frame with 19, once, and what follows up to the next status byte is ignored.
use mathlib.Core.Path.{◌≡◌, refl, sym, ◌∙◌, ap, ap₂}
use mathlib.Core.Bool.{true, false}
use mathlib.Core.List.{List, [], ◌∷◌, ◌++◌, append_assoc, append-nil}
use Prim.Native.Nat.{ℕ, suc, ◌+◌, ◌≤◌, ◌<◌}
use native.Mathlib.Omega.{arith}
use lib.ListN.{length, replicate, length-append}
use borrow.Author.Tests.{ltb-true, lt-ltb, le-ltb, le-leb, lt-leb, eq-eqb, ne_eqb}
use Rattle.laws.proofs.Tests.{both}
use Rattle.refusal.specs.Outcome.{gives}
use Rattle.decoder.specs.declared.Class.TheVariants as k
use Rattle.decoder.specs.State.{limit}
use Rattle.decoder.specs.Step.{class_of}
use Rattle.decoder.specs.Reports.{frame}
use Rattle.decoder.proofs.Classes.{class_is}
use Rattle.damage.specs.Open.{past_after, last_status, data_since, open_at}
use Rattle.damage.specs.Reported.{Reported, report19}
use Rattle.damage.specs.History.{heard, meaning}
use Rattle.damage.specs.Sent.{seven_bit}
use Rattle.damage.proofs.Ahead.{status_and_data_after, meaning_append}

-- nothing reported, so many times
abbrev nothing_reported : ℕ → List (List Reported)
nothing_reported n = replicate n []

-- data bytes join those since the last status byte
data_ahead : (xs past : List ℕ) → seven_bit xs ≡ true → (last_status (past_after past xs) ≡ last_status past) × (data_since (past_after past xs) ≡ data_since past ++ xs)
data_ahead [] past ok = (refl, sym (append-nil (data_since past)))
data_ahead (x ∷ xs) past ok =
    let bits = both _ _ ok in
    let one = status_and_data_after k.Data past x (ltb-true _ _ bits.0) in
    let next = data_ahead xs (x ∷ past) bits.1 in
    (next.0 ∙ one.0, next.1 ∙ ap (λ (l : List ℕ). l ++ xs) one.1 ∙ append_assoc (data_since past) (x ∷ []) xs)

-- a data byte behind F0 and other data: 19 where it is one too many, and otherwise nothing
data_in_frame : (xs : List ℕ) (x : ℕ) → x < 0x80
    → (length xs + 1 ≡ limit → heard 0xF0 xs x ≡ report19 ∷ []) × ((length xs + 1 ≡ limit → ⊥) → heard 0xF0 xs x ≡ [])
unfolding heard
data_in_frame xs x small =
    (λ e. rw (class_is x k.Data small, eq-eqb (length xs + 1) limit e), λ n. rw (class_is x k.Data small, ne_eqb (length xs + 1) limit n))

-- data bytes behind F0, none of which is the one too many
data_quiet : (xs past : List ℕ) → seven_bit xs ≡ true → last_status past ≡ 0xF0
    → ((n : ℕ) → n < length xs → length (data_since past) + n + 1 ≡ limit → ⊥) → meaning past xs ≡ nothing_reported (length xs)
unfolding meaning
data_quiet [] past ok f none = refl
data_quiet (x ∷ xs) past ok f none =
    let bits = both _ _ ok in
    let small = ltb-true _ _ bits.0 in
    let one = status_and_data_after k.Data past x small in
    ap₂ (λ (y : List Reported) (rest : List (List Reported)). y ∷ rest)
    (ap (λ (v : ℕ). heard v (data_since past) x) f ∙ (data_in_frame (data_since past) x small).1 (λ e. none 0 (omega arith) (omega arith)))
    (data_quiet xs (x ∷ past) bits.1 (one.0 ∙ f)
    (λ n h e. none (suc n) (omega arith) (omega (arith, ap length one.1, length-append (data_since past) (x ∷ [])))))

-- F0 in a stream that begins with it
begun : (ys : List ℕ) → meaning [] (0xF0 ∷ ys) ≡ [] ∷ meaning (0xF0 ∷ []) ys
unfolding meaning heard class_of
begun ys = refl

-- F7 behind F0 and data bytes
end_heard : (xs : List ℕ) → length xs + 2 ≤ limit → heard 0xF0 xs 0xF7 ≡ gives (frame (0xF0 ∷ xs ++ (0xF7 ∷ []))) ∷ []
unfolding heard class_of
end_heard xs h = rw (lt-ltb (length xs) limit (omega arith), le-leb (length xs + 2) limit h)

end_beyond_heard : (xs : List ℕ) → length xs + 1 ≡ limit → heard 0xF0 xs 0xF7 ≡ report19 ∷ []
unfolding heard class_of
end_beyond_heard xs h = rw (lt-ltb (length xs) limit (omega arith), lt-leb (length xs + 2) limit (omega arith))

module _ (xs : List ℕ) (ok : seven_bit xs ≡ true) where
  -- behind F0 and data bytes the last status byte is F0, and the data are those bytes
  status_is : last_status (past_after (0xF0 ∷ []) xs) ≡ 0xF0
  status_is = (data_ahead xs (0xF0 ∷ []) ok).0

  data_is : data_since (past_after (0xF0 ∷ []) xs) ≡ xs
  data_is = (data_ahead xs (0xF0 ∷ []) ok).1

  heard_behind : (b : ℕ) (ys : List ℕ) → meaning (past_after (0xF0 ∷ []) xs) (b ∷ ys) ≡ heard 0xF0 xs b ∷ meaning (b ∷ past_after (0xF0 ∷ []) xs) ys
  unfolding meaning
  heard_behind b ys = rw (status_is, data_is)

  -- F0 and data bytes that the limit has room for
  front_quiet : length xs + 1 ≤ limit → (ys : List ℕ) → meaning [] (0xF0 ∷ xs ++ ys) ≡ nothing_reported (suc (length xs)) ++ meaning (past_after (0xF0 ∷ []) xs) ys
  front_quiet room ys =
      begun (xs ++ ys)
      ∙ ap (λ (l : List (List Reported)). [] ∷ l)
      (meaning_append (0xF0 ∷ []) xs ys
      ∙ ap (λ (l : List (List Reported)). l ++ meaning (past_after (0xF0 ∷ []) xs) ys) (data_quiet xs (0xF0 ∷ []) ok refl (λ n h e. omega arith)))

  -- the limit less 2 data bytes: the longest frame that is reported
  pub two_fewer : length xs + 2 ≡ limit
      → meaning [] (0xF0 ∷ xs ++ (0xF7 ∷ [])) ≡ nothing_reported (suc (length xs)) ++ ((gives (frame (0xF0 ∷ xs ++ (0xF7 ∷ []))) ∷ []) ∷ [])
  unfolding meaning
  two_fewer e =
      front_quiet (omega arith) (0xF7 ∷ [])
      ∙ ap (λ (l : List (List Reported)). nothing_reported (suc (length xs)) ++ l)
      (heard_behind 0xF7 [] ∙ ap (λ (x : List Reported). x ∷ []) (end_heard xs (omega arith)))

  -- the limit less 1 data bytes: the frame is open at the next byte, and F7 drops it with 19
  pub one_fewer : length xs + 1 ≡ limit
      → (open_at (past_after (0xF0 ∷ []) xs) ≡ true) × (meaning [] (0xF0 ∷ xs ++ (0xF7 ∷ [])) ≡ nothing_reported (suc (length xs)) ++ ((report19 ∷ []) ∷ []))
  unfolding meaning
  one_fewer e = (
    rw (status_is, data_is, lt-ltb (length xs) limit (omega arith)),
    front_quiet (omega arith) (0xF7 ∷ [])
        ∙ ap (λ (l : List (List Reported)). nothing_reported (suc (length xs)) ++ l) (heard_behind 0xF7 [] ∙ ap (λ (x : List Reported). x ∷ []) (end_beyond_heard xs e)),
  )

  -- as many data bytes as the limit: the last of them drops the frame with 19, no frame is open any more, and further data bytes are ignored
  pub as_many : (b : ℕ) (ys : List ℕ) → length xs + 1 ≡ limit → b < 0x80 → seven_bit ys ≡ true
      → (meaning [] (0xF0 ∷ xs ++ (b ∷ ys)) ≡ nothing_reported (suc (length xs)) ++ ((report19 ∷ []) ∷ nothing_reported (length ys)))
      × (open_at (past_after (b ∷ past_after (0xF0 ∷ []) xs) ys) ≡ false)
  as_many b ys e small fine =
      let past = past_after (0xF0 ∷ []) xs in
      let one = status_and_data_after k.Data past b small in
      let status : last_status (b ∷ past) ≡ 0xF0 = one.0 ∙ status_is in
      let gone : length (data_since (b ∷ past)) ≡ limit =
      ap length (one.1 ∙ ap (λ (l : List ℕ). l ++ (b ∷ [])) data_is) ∙ length-append xs (b ∷ []) ∙ e in
      let last = data_ahead ys (b ∷ past) fine in
      let many : limit ≤ length (data_since (past_after (b ∷ past) ys)) = omega (arith, ap length last.1, length-append (data_since (b ∷ past)) ys) in (
        front_quiet (omega arith) (b ∷ ys)
            ∙ ap (λ (l : List (List Reported)). nothing_reported (suc (length xs)) ++ l)
            (heard_behind b ys
            ∙ ap₂ (λ (x : List Reported) (rest : List (List Reported)). x ∷ rest) ((data_in_frame xs b small).0 e) (data_quiet ys (b ∷ past) fine status (λ n h q. omega arith))),
        rw (last.0 ∙ status, le-ltb (length (data_since (past_after (b ∷ past) ys))) limit many),
      )
