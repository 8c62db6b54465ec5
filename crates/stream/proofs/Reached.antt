-- The loop outside a frame keeps the walk: each byte that reports nothing leads to the numbers of the state behind it, and F0 to a frame.
use Rattle.std.specs.Prelude.{None, Option, Some}
use mathlib.Core.Path.{◌≡◌, refl, sym, ap, ap₂, subst, ◌∙◌}
use mathlib.Core.Bool.{Bool, true, false, ◌&&◌, ◌||◌}
use mathlib.Core.List.{List}
use Prim.Native.Nat.{ℕ, ◌+◌, ◌/◌, ◌%◌, ◌≤◌, ◌<◌}
use native.Mathlib.Omega.{arith}
use lib.Dec.{ltb, leb, eqb}
use lib.ListN.{length, take, drop, get_or, set, length-set}
use borrow.Author.Tests.{eq-eqb, eqb-true, ltb-true}
use Rattle.laws.specs.Choice.{pick}
use Rattle.laws.proofs.Tests.{split, both, true_is_not_false}
use Rattle.octets.specs.quick.Data.{data_run}
use Rattle.octets.specs.quick.Words.{put_word}
use Rattle.octets.proofs.data_bytes.Runs.{run_take}
use Rattle.wire.specs.Status.{data_length}
use Rattle.wire.specs.RealTime.{realtime_of}
use Rattle.wire.specs.declared.system_common.SystemCommon.TheVariants as y
use Rattle.decoder.specs.declared.Decoder.{Decoder}
use Rattle.decoder.specs.declared.Class.TheVariants as k
use Rattle.decoder.specs.declared.Report.TheVariants as report
use Rattle.decoder.specs.State.{limit, sound, no_status, waits_soundly}
use Rattle.decoder.specs.Step.{silent, opened, collect, realtime_report}
use Rattle.decoder.specs.Call.{Walked, walk}
use Rattle.decoder.proofs.Classes.{class_is}
use Rattle.decoder.proofs.Steps.{data_plain, step_by}
use Rattle.decoder.proofs.Limit.{room_for_three}
use Rattle.decoder.proofs.SoundKept.{closed_part, open_part, takes_data_held}
use Rattle.stream.specs.declared.FedAnswer.{FedAnswer}
use Rattle.stream.specs.State.{encoded, state_of}
use Rattle.stream.specs.Reports.{numbers_of}
use Rattle.stream.specs.quick.Bytes.{is_realtime, waiting_number, put_middle, put_waiting, open_state}
use Rattle.stream.specs.quick.Going.{Numbered, Answers, FrontFree, MiddleFree, Ready}
use Rattle.stream.proofs.StateBytes.{fourteen}
use Rattle.stream.proofs.Tests.{limit_small}
use Rattle.stream.proofs.WalkedTo.{WalkedTo, on_begins, on_ends, on_stray, on_quiet, on_answers}
use Rattle.stream.proofs.Stores.{closed_of, closed_by, waiting_cleared}
use Rattle.stream.proofs.FrameSteps.{realtime_answers}
use Rattle.stream.proofs.InFrame.{f9_and_fd_quiet}
use Rattle.stream.proofs.OutsideSteps.{SaysClosed, status_known, outside_stored, Leads, start_opens, tune_ends}

-- outside a frame: the numbers say the state that the walk has come to
pub record Closed (w : Walked) (bytes state store : List ℕ) (m a i : ℕ) : Type 0 where
  pub free : FrontFree state
  pub numbers : SaysClosed m a (get_or state 13 0)
  pub on : WalkedTo w bytes (closed_by m a (get_or state 13 0)) store i

-- a run within so many bytes is part of the run
pub part_of_run : (most n : ℕ) (l : List ℕ) → n ≡ data_run (take most l) → n ≤ data_run l
part_of_run most n l e = omega (arith, e, run_take l most)

-- in a frame: its length says the state that the walk has come to
pub record Open (w : Walked) (bytes state store : List ℕ) (at i : ℕ) : Type 0 where
  pub free : MiddleFree state
  pub fits : at ≤ limit
  pub on : WalkedTo w bytes (open_state at state) store i

-- the loop's invariant
pub record Reached (w : Walked) (state₀ store₀ bytes state store : List ℕ) (at m a i : ℕ) : Type 0 where
  pub within : i ≤ length bytes
  pub room : limit ≤ length store
  pub long : length state ≡ 14
  pub same_state : length state ≡ length state₀
  pub same_store : length store ≡ length store₀
  pub outside : at ≡ 0 → Closed w bytes state store m a i
  pub inside : (at ≡ 0 → ⊥) → Open w bytes state store at i

-- a closed sound state is what its numbers say
closed_shape : (d : Decoder) → d.in_sysex ≡ false → d.len ≡ 0 → d ≡ closed_of d.status d.have d.data0 d.data1
closed_shape d p q = ap₂ (λ (b : Bool) (n : ℕ). record { in_sysex = b; len = n; status = d.status; have = d.have; data0 = d.data0; data1 = d.data1 }) p q

by_number : (v : Option ℕ) (h a z : ℕ) → waits_soundly v h a ≡ true → closed_by (waiting_number (closed_of v h a z)) a z ≡ closed_of v h a z
by_number None h a z w = rw (eqb-true h 0 w) refl
by_number (Some x) h a z w =
    let p = both (ltb 0 (data_length x)) _ w in
    let r = takes_data_held x (ltb-true 0 (data_length x) p.0) in
    status_known x h a z (waiting_number (closed_of (Some x) h a z)) (omega (arith, r.1)) (few p.1) (omega arith)
  where
    few : (eqb h 0 || (eqb h 1 && (leb a 127 && eqb (data_length x) 2))) ≡ true → h < 256
    few e = split (eqb h 0) (λ t. omega (arith, eqb-true h 0 t))
        (λ t. omega (arith, eqb-true h 1 (both (eqb h 1) _ (ap (λ (u : Bool). u || (eqb h 1 && (leb a 127 && eqb (data_length x) 2))) (sym t) ∙ e)).0))

closed_begins : (m a : ℕ) (l store bytes : List ℕ) → l ≡ encoded (state_of l) → length l ≡ 14 → sound (state_of l) ≡ true
    → m ≡ waiting_number (state_of l) → a ≡ (state_of l).data0 → (state_of l).in_sysex ≡ false
    → Closed (walk (state_of l) store bytes) bytes l store m a 0
closed_begins m a l store bytes is long fine m-is a-is closed =
    let d = state_of l in
    let parts = closed_part d fine closed in
    let shape : d ≡ closed_of d.status d.have d.data0 d.data1 = closed_shape d closed parts.0 in
    let same : closed_by m a (get_or l 13 0) ≡ d =
    ap₂ (λ (x y : ℕ). closed_by x y d.data1) (m-is ∙ ap waiting_number shape) a-is ∙ by_number d.status d.have d.data0 d.data1 parts.1 ∙ sym shape in
    let e : l ≡ encoded (closed_of d.status d.have d.data0 d.data1) = is ∙ ap encoded shape in
    record {
      free = (long, ap (λ (x : List ℕ). put_word 0 x 0) e ∙ sym e);
      numbers = record { fine = ap sound same ∙ fine; number = ap waiting_number same ∙ sym m-is };
      on = subst (λ (x : Decoder). WalkedTo (walk d store bytes) bytes x store 0) (sym same) (on_begins d store bytes);
    }

-- an open sound state is what its length says
open_begins : (entry : ℕ) (l store bytes : List ℕ) → l ≡ encoded (state_of l) → length l ≡ 14 → sound (state_of l) ≡ true
    → entry ≡ (state_of l).len → (state_of l).in_sysex ≡ true
    → Open (walk (state_of l) store bytes) bytes l store entry 0
open_begins entry l store bytes is long fine entry-is opens =
    let d = state_of l in
    let o = open_part d fine opens in
    let p = both (leb 1 d.len) (leb d.len limit && (no_status d.status && eqb d.have 0)) (rw opens at fine) in
    let q = both (leb d.len limit) (no_status d.status && eqb d.have 0) p.1 in
    let r = both (no_status d.status) (eqb d.have 0) q.1 in
    let same : open_state entry l ≡ d = sym (shape d entry opens (sym entry-is) (none d.status r.0) (eqb-true _ _ r.1)) in
    let e : l ≡ encoded (open_state entry l) = is ∙ ap encoded (sym same) in
    let top : entry / 0x100_0000_0000_0000 % 256 ≡ 0 = omega (arith, entry-is, o.fits, limit_small) in
    record {
      free = (long, ap (put_middle 0) e ∙ rw (← top) refl ∙ sym e);
      fits = omega (arith, entry-is, o.fits);
      on = subst (λ (x : Decoder). WalkedTo (walk d store bytes) bytes x store 0) (sym same) (on_begins d store bytes);
    }
  where
    none : (v : Option ℕ) → no_status v ≡ true → v ≡ None
    none None e = refl
    none (Some b) e = absurd (true_is_not_false (sym e))

    shape : (d : Decoder) (n : ℕ) → d.in_sysex ≡ true → d.len ≡ n → d.status ≡ None → d.have ≡ 0
        → d ≡ record { in_sysex = true; len = n; status = None; have = 0; data0 = d.data0; data1 = d.data1 }
    shape d n p q r t =
        ap₂ (λ (b : Bool) (n : ℕ). record { in_sysex = b; len = n; status = d.status; have = d.have; data0 = d.data0; data1 = d.data1 }) p q
        ∙ ap₂ (λ (v : Option ℕ) (h : ℕ). record { in_sysex = true; len = n; status = v; have = h; data0 = d.data0; data1 = d.data1 }) r t

-- where a call begins the walk has come to the state that the numbers say
pub walk_begins : (entry m a : ℕ) (l store bytes : List ℕ) → Ready entry m a l → limit ≤ length store
    → Reached (walk (state_of l) store bytes) l store bytes l store entry m a 0
walk_begins entry m a l store bytes ready room =
    record {
      within = omega arith;
      room = room;
      long = ready.long;
      same_state = refl;
      same_store = refl;
      outside = λ e. closed_begins m a l store bytes ready.bytes ready.long ready.fine ready.middle ready.first (shut e);
      inside = λ n. open_begins entry l store bytes ready.bytes ready.long ready.fine (length_of (there n)) (there n);
    }
  where
    d : Decoder
    d = state_of l

    shut : entry ≡ 0 → (state_of l).in_sysex ≡ false
    shut e =
        split (state_of l).in_sysex
        (λ t. absurd (omega (arith, e, ready.length_is ∙ ap (λ (u : Bool). pick u (state_of l).len 0) t, (open_part (state_of l) ready.fine t).some))) (λ t. t)

    there : (entry ≡ 0 → ⊥) → (state_of l).in_sysex ≡ true
    there n = split (state_of l).in_sysex (λ t. t) (λ t. absurd (n (ready.length_is ∙ ap (λ (u : Bool). pick u (state_of l).len 0) t)))

    length_of : (state_of l).in_sysex ≡ true → entry ≡ (state_of l).len
    length_of t = ready.length_is ∙ ap (λ (u : Bool). pick u (state_of l).len 0) t

-- F0 leaves the bytes of a frame that begins
opened_there : (l : List ℕ) (m a : ℕ) → length l ≡ 14 → opened (closed_by m a (get_or l 13 0)) ≡ open_state 1 (put_waiting 0 a l)
opened_there l m a long = sym (ap (λ (x : List ℕ). open_state 1 (put_waiting 0 a x)) (fourteen l long))

waiting_length : (w a : ℕ) (l : List ℕ) → length (put_waiting w a l) ≡ length l
waiting_length w a l = simp length-set refl

module _ {w : Walked} {state₀ store₀ bytes state store : List ℕ} {at m a i : ℕ} (r : Reached w state₀ store₀ bytes state store at m a i) where
  module _ (none : at ≡ 0) where
    here : Closed w bytes state store m a i
    here = r.outside none

    z : ℕ
    z = get_or state 13 0

    still : (m' a' j : ℕ) → j ≤ length bytes → SaysClosed m' a' (get_or state 13 0) → WalkedTo w bytes (closed_by m' a' (get_or state 13 0)) store j → Reached w
        state₀ store₀ bytes state store at m' a' j
    still m' a' j within numbers on =
        record {
          within = within;
          room = r.room;
          long = r.long;
          same_state = r.same_state;
          same_store = r.same_store;
          outside = λ _. record { free = here.free; numbers = numbers; on = on };
          inside = λ n. absurd (n none);
        }

    -- no byte is left
    pub outside_ends : i ≡ length bytes → (x : FedAnswer) (later left : List ℕ) → x ≡ numbers_of i false None → later ≡ put_waiting m a state → left ≡
        store → Numbered w x later left
    outside_ends e x later left t q l =
        on_ends w bytes (closed_by m a (get_or state 13 0)) store i here.on e x later left t (q ∙ outside_stored state here.free m a here.numbers) l

    module _ (more : i < length bytes) where
      abbrev b : ℕ
      b = get_or bytes i 0

      -- a byte that reports
      pub outside_answers : (x : FedAnswer) (later left : List ℕ) → left ≡ store → Answers (closed_by m a (get_or state 13 0)) store (get_or bytes i 0)
          (i + 1) x later store → Numbered w x later left
      outside_answers x later left l q =
          subst (λ (y : List ℕ). Numbered w x later y) (sym l) (on_answers w bytes (closed_by m a (get_or state 13 0)) store i here.on more x later store q)

      pub outside_realtime : get_or bytes i 0 < 256 → is_realtime (get_or bytes i 0) ≡ true → (x : FedAnswer) (later left : List ℕ) → x ≡ numbers_of (i + 1)
          false (realtime_report (realtime_of (get_or bytes i 0)))
          → later ≡ put_waiting m a state → left ≡ store → Numbered w x later left
      outside_realtime small named x later left t q l =
          outside_answers x later left l
          (realtime_answers (closed_by m a (get_or state 13 0)) store (get_or bytes i 0) (i + 1) x later store small named t
          (q ∙ outside_stored state here.free m a here.numbers) refl)

      pub outside_tune : get_or bytes i 0 ≡ 0xF6 → (x : FedAnswer) (later left : List ℕ) → x ≡ numbers_of (i + 1) false
          (Some (report.Common y.TuneRequest)) → later ≡ put_waiting 0 a state
          → left ≡ store → Numbered w x later left
      outside_tune is x later left t q l =
          outside_answers x later left l (tune_ends state here.free m a (get_or bytes i 0) (i + 1) here.numbers x later store is t q)

      -- a byte that reports nothing leads on to other numbers
      pub leads_on : (m' a' : ℕ) → Leads m a (get_or state 13 0) (get_or bytes i 0) m' a' store → Reached w state₀ store₀ bytes state store at m' a' (i + 1)
      leads_on m' a' q =
          still m' a' (i + 1) (omega arith) q.outside
          (on_quiet w bytes (closed_by m a (get_or state 13 0)) store i here.on more (closed_by m' a' (get_or state 13 0)) store q.steps q.keeps)

      pub f9_and_fd_on : get_or bytes i 0 < 256 → 0xF8 ≤ get_or bytes i 0 → is_realtime (get_or bytes i 0) ≡ false → Reached w state₀ store₀ bytes state store at m a (i + 1)
      f9_and_fd_on small l f =
          let q = f9_and_fd_quiet (closed_by m a (get_or state 13 0)) store (get_or bytes i 0) small l f in
          still m a (i + 1) (omega arith) here.numbers
          (on_quiet w bytes (closed_by m a (get_or state 13 0)) store i here.on more (closed_by m a (get_or state 13 0)) store q.0 q.1)

      -- stray data bytes are passed over
      pub stray_on : get_or bytes i 0 < 0x80 → m ≡ 0 → (n : ℕ) → n ≤ data_run (drop (i + 1) bytes) → Reached w state₀ store₀ bytes state store at m a (i + 1 + n)
      stray_on low e n run =
          let d = closed_by m a (get_or state 13 0) in
          let nothing : (closed_by m a (get_or state 13 0)).status ≡ None = rw (eq-eqb m 0 e) in
          let eqs = data_plain d store (get_or bytes i 0) refl in
          let q = step_by k.Data d store (get_or bytes i 0) (class_is (get_or bytes i 0) k.Data low) (silent d) store
          (ap (λ (v : Option ℕ). collect v d (get_or bytes i 0)) (sym nothing) ∙ sym eqs.0) (sym eqs.1) in
          let one = on_quiet w bytes d store i here.on more d store q.0 q.1 in
          let all = on_stray w bytes d store (i + 1) one refl nothing n run in
          still m a (i + 1 + n) all.within here.numbers all

      -- F0 leads on to a frame
      pub opens_on : get_or bytes i 0 ≡ 0xF0 → (state' store' : List ℕ) → state' ≡ put_waiting 0 a state → store' ≡ set store 0 (get_or bytes i 0)
          → Reached w state₀ store₀ bytes state' store' 1 m a (i + 1)
      opens_on is state' store' p q =
          let s = start_opens m a (get_or state 13 0) (get_or bytes i 0) store here.numbers is in
          let long : length state' ≡ length state = ap length p ∙ waiting_length 0 a state in
          let kept : length store' ≡ length store = ap length q ∙ length-set store 0 (get_or bytes i 0) in
          let on = on_quiet w bytes (closed_by m a (get_or state 13 0)) store i here.on more (opened (closed_by m a (get_or state 13 0)))
          (set store 0 (get_or bytes i 0)) s.0 s.1 in
          record {
            within = omega arith;
            room = omega (arith, kept, r.room);
            long = long ∙ r.long;
            same_state = long ∙ r.same_state;
            same_store = kept ∙ r.same_store;
            outside = λ e. absurd (omega (arith, e));
            inside = λ _. record {
              free = (long ∙ r.long, ap (put_middle 0) p ∙ waiting_cleared state a r.long ∙ sym p);
              fits = omega (arith, room_for_three);
              on = subst (λ (x : Decoder). WalkedTo w bytes x store' (i + 1)) (opened_there state m a r.long ∙ ap (open_state 1) (sym p))
                  (subst (λ (y : List ℕ). WalkedTo w bytes (opened (closed_by m a (get_or state 13 0))) y (i + 1)) (sym q) on);
            };
          }
