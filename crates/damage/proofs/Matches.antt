-- The decoder's state is what the bytes ahead say it is: the frame's bytes stand at the store's front, and the status and the byte
-- that waits are those that the last status byte and the data since leave.
use Rattle.std.specs.Prelude.{None, Option, Some}
use mathlib.Core.Path.{◌≡◌, refl, sym, ◌∙◌, ap, subst}
use mathlib.Core.Bool.{true, false}
use mathlib.Core.List.{List, [], ◌∷◌, ◌++◌}
use Prim.Native.Nat.{ℕ, suc, ◌+◌, ◌-◌, ◌%◌, ◌≤◌, ◌<◌}
use native.Mathlib.Omega.{arith}
use lib.Dec.{ltb, leb, eqb}
use lib.ListN.{length, take, get_or, length-append}
use lib.Seq.{get_or-append_seam}
use borrow.Author.Tests.{ltb-true, ltb-false, leb-true, leb-false, eqb-true, eqb-false, lt-ltb, le-ltb, eq-eqb, ne_eqb}
use Rattle.laws.specs.Choice.{pick}
use Rattle.laws.proofs.Tests.{by_test, split}
use Rattle.wire.specs.Status.{data_length, is_channel_status}
use Rattle.wire.specs.ChannelMessage.{channel_message}
use Rattle.wire.specs.SystemCommon.{common_message}
use Rattle.decoder.specs.declared.Decoder.{Decoder}
use Rattle.decoder.specs.declared.Stepped.{Stepped}
use Rattle.decoder.specs.State.{limit}
use Rattle.decoder.specs.Step.{common_report, or_common, message_report, collect, kept, waiting, completed}
use Rattle.decoder.specs.Reports.{own_report, report_list, told_all}
use Rattle.decoder.proofs.SoundKept.{at_most_two}
use Rattle.damage.specs.Open.{is_open}
use Rattle.damage.specs.History.{heard_common, heard_message, message, last_of, heard_data}
use Rattle.wire.specs.declared.system_common.SystemCommon.{SystemCommon}
use Rattle.wire.specs.declared.channel_message.ChannelMessage.{ChannelMessage}

-- the status in force: a channel status for good, a common one until its data are there
abbrev pub status_held : ℕ → List ℕ → Option ℕ
status_held status xs = pick (is_channel_status status) (Some status) (pick (ltb (length xs) (data_length status)) (Some status) None)

-- how many data bytes wait for the rest of their message
abbrev pub pending : ℕ → List ℕ → ℕ
pending status xs =
    pick (is_channel_status status)
    (pick (leb (data_length status) 1) 0 (length xs % 2))
    (pick (ltb (length xs) (data_length status)) (length xs) 0)

pub record MatchesFrame (xs : List ℕ) (d : Decoder) (store : List ℕ) : Type 0 where
  pub inside : d.in_sysex ≡ true
  pub size : d.len ≡ suc (length xs)
  pub front : take d.len store ≡ 0xF0 ∷ xs

pub record MatchesClosed (status : ℕ) (xs : List ℕ) (d : Decoder) : Type 0 where
  pub outside : d.in_sysex ≡ false
  pub force : d.status ≡ status_held status xs
  pub have : d.have ≡ pending status xs
  pub first : pending status xs ≡ 1 → d.data0 ≡ last_of xs

pub record Matches (status : ℕ) (xs : List ℕ) (d : Decoder) (store : List ℕ) : Type 0 where
  pub room : limit ≤ length store
  pub framed : is_open status xs ≡ true → MatchesFrame xs d store
  pub plain : is_open status xs ≡ false → MatchesClosed status xs d

-- the message that is reported is the one that history names
common_report_heard : (store : List ℕ) (x : Option SystemCommon) → told_all store (own_report (common_report x)) ≡ heard_common x
common_report_heard store (Some x) = refl
common_report_heard store None = refl

message_report_heard : (store : List ℕ) (v a b : ℕ) → told_all store (own_report (message_report v a b)) ≡ message v a b
unfolding message_report message
message_report_heard store v a b = go (channel_message v a b)
  where
    go : (x : Option ChannelMessage) → told_all store (own_report (or_common x v a b)) ≡ heard_message x v a b
    go (Some x) = refl
    go None = common_report_heard store (common_message v a b)

-- a status behind which nothing has come yet
pub nothing_pending : (v : ℕ) → pending v [] ≡ 0
nothing_pending v =
    let P : ℕ → Type 0 = λ (n : ℕ). n ≡ 0 in
    by_test P (is_channel_status v) _ _ (λ e. by_test P (leb (data_length v) 1) 0 0 (λ l. refl) (λ l. refl))
    (λ e. by_test P (ltb 0 (data_length v)) 0 0 (λ l. refl) (λ l. refl))

-- the last data byte is the one that came last
pub last_is : (xs : List ℕ) (b : ℕ) → last_of (xs ++ (b ∷ [])) ≡ b
last_is xs b = rw (length-append xs (b ∷ [])) (ap (λ (n : ℕ). get_or (xs ++ (b ∷ [])) n 0) one_back ∙ get_or-append_seam xs b [] 0)
  where
    one_back : length xs + 1 - 1 ≡ length xs
    one_back = omega arith

-- what a data byte outside a frame leaves and reports, under each kind of status
abbrev pub Next : ℕ → List ℕ → ℕ → List ℕ → Stepped → Type 0
Next v xs b store x = (told_all store (report_list x.interrupted x.report) ≡ heard_data v xs b) × MatchesClosed v (xs ++ (b ∷ [])) x.state

-- the data byte that makes a message whole
module _ (v : ℕ) (xs : List ℕ) (d : Decoder) (b : ℕ) (store : List ℕ) where
  whole : (first second a z : ℕ) → heard_data v xs b ≡ message v a z → kept v ≡ status_held v (xs ++ (b ∷ [])) → pending v (xs ++ (b ∷ [])) ≡ 0
      → Next v xs b store (record { state = completed v first second; interrupted = false; report = message_report v a z })
  whole first second a z e k p = (
    message_report_heard store v a z ∙ sym e,
    record { outside = refl; force = k; have = sym p; first = λ q. absurd (omega arith) },
  )

  -- the first data byte waits for the second
  waits : heard_data v xs b ≡ [] → status_held v (xs ++ (b ∷ [])) ≡ Some v → pending v (xs ++ (b ∷ [])) ≡ 1
      → Next v xs b store (record { state = waiting d v b; interrupted = false; report = None })
  waits e k p = (sym e, record { outside = refl; force = sym k; have = sym p; first = λ q. sym (last_is xs b) })

  -- the three ways a data byte goes, by what waits
  at_once : d.have ≡ 0 → leb (data_length v) 1 ≡ true
      → collect (Some v) d b ≡ record { state = completed v b d.data1; interrupted = false; report = message_report v b 0 }
  at_once h l = rw (eq-eqb d.have 0 h, l)

  first_of_two : d.have ≡ 0 → leb (data_length v) 1 ≡ false
      → collect (Some v) d b ≡ record { state = waiting d v b; interrupted = false; report = None }
  first_of_two h l = rw (eq-eqb d.have 0 h, l)

  second_of_two : d.have ≡ 1
      → collect (Some v) d b ≡ record { state = completed v d.data0 b; interrupted = false; report = message_report v d.data0 b }
  second_of_two h = rw (ne_eqb d.have 0 (λ e. omega arith))

  goes : (x y : Stepped) → x ≡ y → Next v xs b store y → Next v xs b store x
  goes x y e n = subst (λ (z : Stepped). Next v xs b store z) (sym e) n

  more : length (xs ++ (b ∷ [])) ≡ length xs + 1
  more = length-append xs (b ∷ [])

  -- a channel status: running status, so that it stays
  channel_next : is_channel_status v ≡ true → MatchesClosed v xs d → Next v xs b store (collect (Some v) d b)
  channel_next c o = split (leb (data_length v) 1) one two
    where
      stays : kept v ≡ status_held v (xs ++ (b ∷ []))
      stays = rw c

      one : leb (data_length v) 1 ≡ true → Next v xs b store (collect (Some v) d b)
      one l =
          let none : d.have ≡ 0 = o.have ∙ rw (c, l) in
          goes _ _ (at_once none l) (whole b d.data1 b 0 (rw (c, l)) stays (rw (c, l)))

      two : leb (data_length v) 1 ≡ false → Next v xs b store (collect (Some v) d b)
      two l = split (eqb (length xs % 2) 1) odd even
        where
          now : d.have ≡ length xs % 2
          now = o.have ∙ rw (c, l)

          odd : eqb (length xs % 2) 1 ≡ true → Next v xs b store (collect (Some v) d b)
          odd e =
              let is : length xs % 2 ≡ 1 = eqb-true _ _ e in
              let known : d.data0 ≡ last_of xs = o.first (rw (c, l) is) in
              goes _ _ (second_of_two (now ∙ is))
              (whole d.data0 b d.data0 b (rw (c, l, e, known)) stays (rw (c, l, more) (omega arith)))

          even : eqb (length xs % 2) 1 ≡ false → Next v xs b store (collect (Some v) d b)
          even e =
              let is : length xs % 2 ≡ 0 = omega (arith, eqb-false (length xs % 2) 1 e) in
              goes _ _ (first_of_two (now ∙ is) l) (waits (rw (c, l, e)) (rw c) (rw (c, l, more) (omega arith)))

  -- a common status: it serves once
  common_next : is_channel_status v ≡ false → length xs < data_length v → MatchesClosed v xs d → Next v xs b store (collect (Some v) d b)
  common_next c h o = split (leb (data_length v) 1) one two
    where
      now : d.have ≡ length xs
      now = o.have ∙ rw (c, lt-ltb _ _ h)

      done : data_length v ≤ length xs + 1 → (kept v ≡ status_held v (xs ++ (b ∷ []))) × (pending v (xs ++ (b ∷ [])) ≡ 0)
      done g = (rw (c, more, le-ltb (length xs + 1) (data_length v) g), rw (c, more, le-ltb (length xs + 1) (data_length v) g))

      one : leb (data_length v) 1 ≡ true → Next v xs b store (collect (Some v) d b)
      one l =
          let small : data_length v ≤ 1 = leb-true _ _ l in
          let none : d.have ≡ 0 = now ∙ omega arith in
          let all = done (omega arith) in
          goes _ _ (at_once none l) (whole b d.data1 b 0 (rw (c, l, eq-eqb (length xs + 1) (data_length v) (omega arith))) all.0 all.1)

      two : leb (data_length v) 1 ≡ false → Next v xs b store (collect (Some v) d b)
      two l = split (eqb (length xs) 0) empty some
        where
          exactly : data_length v ≡ 2
          exactly = omega (arith, at_most_two v, leb-false (data_length v) 1 l)

          empty : eqb (length xs) 0 ≡ true → Next v xs b store (collect (Some v) d b)
          empty e =
              let is : length xs ≡ 0 = eqb-true _ _ e in
              goes _ _ (first_of_two (now ∙ is) l)
              (waits (rw (c, ne_eqb (length xs + 1) (data_length v) (λ q. omega (arith, exactly)))) (rw (c, more, lt-ltb (length xs + 1) (data_length v) (omega (arith, exactly))))
              (rw (c, more, lt-ltb (length xs + 1) (data_length v) (omega (arith, exactly))) (omega arith)))

          some : eqb (length xs) 0 ≡ false → Next v xs b store (collect (Some v) d b)
          some e =
              let is : length xs ≡ 1 = omega (arith, exactly, eqb-false (length xs) 0 e) in
              let known : d.data0 ≡ last_of xs = o.first (rw (c, lt-ltb (length xs) (data_length v) h) is) in
              let all = done (omega (arith, exactly)) in
              goes _ _ (second_of_two (now ∙ is))
              (whole d.data0 b d.data0 b (rw (c, l, eq-eqb (length xs + 1) (data_length v) (omega (arith, exactly)), known)) all.0 all.1)

  -- no status in force: stray data
  stray_next : is_channel_status v ≡ false → data_length v ≤ length xs → MatchesClosed v xs d → Next v xs b store (collect None d b)
  stray_next c h o = (
    sym (rw (c, ne_eqb (length xs + 1) (data_length v) (λ q. omega arith))),
    record {
      outside = o.outside;
      force = o.force ∙ rw (c, more, le-ltb (length xs) (data_length v) h, le-ltb (length xs + 1) (data_length v) (omega arith));
      have = o.have ∙ rw (c, more, le-ltb (length xs) (data_length v) h, le-ltb (length xs + 1) (data_length v) (omega arith));
      first = λ (q : pending v (xs ++ (b ∷ [])) ≡ 1). absurd (none q);
    },
  )
    where
      none : pending v (xs ++ (b ∷ [])) ≡ 1 → ⊥
      none q =
          let z : ◌≡◌ {A = ℕ} 0 1 = rw (c, more, le-ltb (length xs + 1) (data_length v) (omega arith)) at q in
          omega arith

  -- any status but F0
  pub data_next : MatchesClosed v xs d → Next v xs b store (collect d.status d b)
  data_next o = split (is_channel_status v) (λ c. under (Some v) (rw c) (channel_next c o)) other
    where
      under : (x : Option ℕ) → status_held v xs ≡ x → Next v xs b store (collect x d b) → Next v xs b store (collect d.status d b)
      under x e n = subst (λ (y : Option ℕ). Next v xs b store (collect y d b)) (sym (o.force ∙ e)) n

      other : is_channel_status v ≡ false → Next v xs b store (collect d.status d b)
      other c =
          split (ltb (length xs) (data_length v)) (λ l. under (Some v) (rw (c, l)) (common_next c (ltb-true _ _ l) o))
          (λ l. under None (rw (c, l)) (stray_next c (ltb-false _ _ l) o))
