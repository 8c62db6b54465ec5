-- A stream with status bytes left out is read whole, because behind each message the status in force is the one that the sender left, and
-- no data byte waits.
use Rattle.std.specs.Prelude.{None, Option, Some}
use mathlib.Core.Path.{◌≡◌, refl, sym, ◌∙◌, ap, subst}
use mathlib.Core.Bool.{true, false}
use mathlib.Core.List.{List, [], ◌∷◌, ◌++◌, append_assoc}
use Prim.Native.Nat.{ℕ, ◌+◌, ◌%◌, ◌/◌, ◌<◌}
use native.Mathlib.Omega.{arith}
use lib.Dec.{leb}
use lib.ListN.{length, get_or, drop, length-append}
use borrow.Author.Tests.{leb-false, eqb-true, eq-eqb, ne_eqb}
use Rattle.laws.proofs.Tests.{by_test, split, true_is_not_false, both}
use Rattle.refusal.specs.Outcome.{gives}
use Rattle.wire.specs.Status.{data_length, is_channel_status}
use Rattle.wire.specs.declared.Channel.{Channel}
use Rattle.wire.specs.declared.channel_message.ChannelMessage.{ChannelMessage}
use Rattle.wire.specs.declared.channel_message.ChannelMessage.TheVariants as w
use Rattle.wire.specs.ChannelMessage.{status_nibble, data_bytes}
use Rattle.wire.proofs.channel_message.Bytes.{channel_length}
use Rattle.decoder.specs.declared.Class.TheVariants as k
use Rattle.decoder.specs.Reports.{Event, channel}
use Rattle.damage.specs.Open.{is_open}
use Rattle.damage.specs.History.{message}
use Rattle.damage.specs.Sent.{Message, Voice, Common, Frame, bytes_of, sendable, all_sendable, event_of, Tag, tags}
use Rattle.damage.proofs.Matches.{last_is}
use Rattle.damage.proofs.MessagesRead.{Reads, reads_as, Known, voice, end_status, end_data, message_reads, closed_behind}
use Rattle.running_status.specs.RunningStatus.{omits, running_after}
use Rattle.running_status.specs.Stream.{Stream, nothing, whole, bare}
use Rattle.running_status.proofs.ChannelStatus.{left_over, channel_below, channel_fits, voice_status, voice_in_force}

-- the last status byte v is the sender's running status, and of the data bytes xs since none waits
abbrev pub Agrees : Option ℕ → ℕ → List ℕ → Type 0
Agrees None v xs = Unit {0}
Agrees (Some b) v xs = (v ≡ b) × (left_over (data_length b) (length xs) ≡ 0)

-- a message's data bytes are one or two, so that behind them none waits where none did before
none_waits : (m : ChannelMessage) (xs : List ℕ) → left_over (length (data_bytes m)) (length xs) ≡ 0
    → left_over (length (data_bytes m)) (length (xs ++ data_bytes m)) ≡ 0
none_waits m xs even = split (leb (length (data_bytes m)) 1) (λ l. rw l) two
  where
    two : leb (length (data_bytes m)) 1 ≡ false → left_over (length (data_bytes m)) (length (xs ++ data_bytes m)) ≡ 0
    two l =
        let was : length xs % 2 ≡ 0 = rw l at even in
        let is : length (data_bytes m) ≡ 2 = omega (arith, (channel_length m).1, leb-false (length (data_bytes m)) 1 l) in
        rw (l, length-append xs (data_bytes m)) (omega arith)

-- the state behind a message with its own status byte agrees
agrees_behind : (m : Message) → sendable m ≡ true → Agrees (running_after m) (end_status m) (end_data m)
agrees_behind (Voice c m) ok =
    let none : left_over (length (data_bytes m)) 0 ≡ 0 = by_test (λ (n : ℕ). n ≡ 0) (leb (length (data_bytes m)) 1) _ _ (λ l. refl) (λ l. refl) in
    (refl, rw ((voice_status c m (channel_fits c m ok)).2) (none_waits m [] none))
agrees_behind (Common m) ok = tt
agrees_behind (Frame xs) ok = tt

-- data bytes under a channel status byte, where none waits
module _ (v : ℕ) (xs : List ℕ) (rest : List Tag) (in_force : is_channel_status v ≡ true) where
  no_frame : v ≡ 0xF0 → ⊥
  no_frame q = let small = channel_below v in_force in omega arith

  bare_one : (a : ℕ) (e : Event) → data_length v ≡ 1 → a < 0x80 → message v a 0 ≡ gives e ∷ [] → Reads v (xs ++ (a ∷ [])) rest
      → Reads v xs (tags false e (a ∷ []) ++ rest)
  bare_one a e n small m after = reads_as k.Data v xs a false (gives e ∷ []) rest small (rw (ne_eqb v 0xF0 no_frame, n, in_force) m) after

  bare_two : (a b : ℕ) (e : Event) → data_length v ≡ 2 → left_over 2 (length xs) ≡ 0 → a < 0x80 → b < 0x80 → message v a b ≡ gives e ∷ []
      → Reads v (xs ++ (a ∷ b ∷ [])) rest → Reads v xs (tags false e (a ∷ b ∷ []) ++ rest)
  bare_two a b e n even small less m after =
      reads_as k.Data v xs a false [] (tags false e (b ∷ []) ++ rest) small
      (rw (ne_eqb v 0xF0 no_frame, n, in_force, ne_eqb (length xs % 2) 1 (λ q. omega arith)))
      (reads_as k.Data v (xs ++ (a ∷ [])) b false (gives e ∷ []) rest less
      (rw (ne_eqb v 0xF0 no_frame, n, in_force, eq-eqb (length (xs ++ (a ∷ [])) % 2) 1 (omega (arith, length-append xs (a ∷ []))))
      (ap (λ (x : ℕ). message v x b) (last_is xs a) ∙ m))
      (subst (λ (l : List ℕ). Reads v l rest) (sym (append_assoc xs (a ∷ []) (b ∷ []))) after))

-- an in-range channel message without its status byte is read under that status byte
bare_voice : (c : Channel) (m : ChannelMessage) → sendable (Voice c m) ≡ true → (xs : List ℕ) (rest : List Tag)
    → left_over (length (data_bytes m)) (length xs) ≡ 0 → Reads (status_nibble m + c.0) (xs ++ data_bytes m) rest
    → Reads (status_nibble m + c.0) xs (tags false (channel c m) (data_bytes m) ++ rest)
bare_voice c m ok xs rest even after = go m refl
  where
    v : ℕ
    v = status_nibble m + c.0

    known : Known c m
    known = voice c m ok

    in_force : is_channel_status v ≡ true
    in_force = voice_in_force c m (channel_fits c m ok)

    means : (l : List ℕ) → data_bytes m ≡ l → message v (get_or l 0 0) (get_or l 1 0) ≡ gives (channel c m) ∷ []
    means l is = subst (λ (z : List ℕ). message v (get_or z 0 0) (get_or z 1 0) ≡ gives (channel c m) ∷ []) is known.means

    one : (a : ℕ) → data_bytes m ≡ a ∷ [] → a < 0x80 → Reads v xs (tags false (channel c m) (data_bytes m) ++ rest)
    one a is small =
        rw is
        (bare_one v xs rest in_force a (channel c m) (known.takes ∙ ap length is) small (means _ is) (subst (λ (l : List ℕ). Reads v (xs ++ l) rest) is after))

    two : (a b : ℕ) → data_bytes m ≡ a ∷ b ∷ [] → a < 0x80 → b < 0x80 → Reads v xs (tags false (channel c m) (data_bytes m) ++ rest)
    two a b is small less =
        rw is
        (bare_two v xs rest in_force a b (channel c m) (known.takes ∙ ap length is) (rw is at even) small less (means _ is)
        (subst (λ (l : List ℕ). Reads v (xs ++ l) rest) is after))

    go : (x : ChannelMessage) → data_bytes m ≡ data_bytes x → Reads v xs (tags false (channel c m) (data_bytes m) ++ rest)
    go (w.NoteOff a b) is = two (a % 128) (b % 128) is (omega arith) (omega arith)
    go (w.NoteOn a b) is = two (a % 128) (b % 128) is (omega arith) (omega arith)
    go (w.PolyKeyPressure a b) is = two (a % 128) (b % 128) is (omega arith) (omega arith)
    go (w.ControlChange a b) is = two (a % 128) (b % 128) is (omega arith) (omega arith)
    go (w.ProgramChange a) is = one (a % 128) is (omega arith)
    go (w.ChannelPressure a) is = one (a % 128) is (omega arith)
    go (w.PitchBend a) is = two (a % 128) (a / 128 % 128) is (omega arith) (omega arith)

-- a message whose status byte is left out is a channel message under its own status byte
bare_read : (st : Option ℕ) (m : Message) → omits st m ≡ true → sendable m ≡ true → (v : ℕ) (xs : List ℕ) (ts : List Tag) → Agrees st v xs
    → ((ys : List ℕ) → is_open v ys ≡ false → Agrees (running_after m) v ys → Reads v ys ts) → Reads v xs (tags false (event_of m) (drop 1 (bytes_of m)) ++ ts)
bare_read None m om ok v xs ts a after = absurd (true_is_not_false (sym om))
bare_read (Some b) (Voice c m) om ok v xs ts a after =
    let here : v ≡ status_nibble m + c.0 = a.0 ∙ eqb-true _ _ om in
    let range = voice_status c m (channel_fits c m ok) in
    let even : left_over (length (data_bytes m)) (length xs) ≡ 0 = rw (eqb-true _ _ om, range.2) at a.1 in
    let shut : (ys : List ℕ) → is_open v ys ≡ false = λ (ys : List ℕ). rw (ne_eqb v 0xF0 (λ q. omega (arith, range.1))) in
    let ys = xs ++ data_bytes m in
    let next : Reads v ys ts = after ys (shut ys) (here, rw (range.2) (none_waits m xs even)) in
    rw here (bare_voice c m ok xs ts even (rw here at next))
bare_read (Some b) (Common m) om ok v xs ts a after = absurd (true_is_not_false (sym om))
bare_read (Some b) (Frame ys) om ok v xs ts a after = absurd (true_is_not_false (sym om))

-- a stream is read whole from wherever no frame is open, the last status byte is the sender's running status, where it has one, and no data byte waits
pub stream_reads : {st : Option ℕ} {ms : List Message} {ts : List Tag} → Stream st ms ts → all_sendable ms ≡ true → (v : ℕ) (xs : List ℕ)
    → is_open v xs ≡ false → Agrees st v xs → Reads v xs ts
stream_reads nothing ok v xs closed a = tt
stream_reads (whole m {ms} {ts} r) ok v xs closed a =
    let each = both _ _ ok in
    message_reads v xs closed ts m each.0 (stream_reads r each.1 (end_status m) (end_data m) (closed_behind m each.0) (agrees_behind m each.0))
stream_reads (bare {st} m {ms} {ts} om r) ok v xs closed a =
    let each = both _ _ ok in
    bare_read st m om each.0 v xs ts a (λ ys shut b. stream_reads r each.1 v ys shut b)
