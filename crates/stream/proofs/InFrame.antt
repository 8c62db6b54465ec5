-- The loop in a frame keeps the walk: a run is stored whole, behind it stands no data byte that still has room, and F9 and FD do nothing.
use Rattle.std.specs.Prelude.{None}
use mathlib.Core.Path.{◌≡◌, refl, sym, ap, subst, ◌∙◌}
use mathlib.Core.Bool.{false}
use mathlib.Core.Logic.{⊎_elim}
use mathlib.Core.List.{List}
use Prim.Native.Nat.{ℕ, ◌+◌, ◌-◌, ◌≤◌, ◌<◌, min}
use native.Mathlib.Omega.{arith}
use lib.ListN.{length, take, drop, get_or, length-drop}
use lib.Seq.{get_or-drop, length-take-le}
use Rattle.laws.specs.Window.{window}
use Rattle.laws.proofs.Window.{length_window}
use Rattle.octets.specs.quick.Data.{data_run}
use Rattle.octets.proofs.data_bytes.Runs.{run_no_longer, run_more}
use Rattle.decoder.specs.declared.Decoder.{Decoder}
use Rattle.decoder.specs.declared.Class.TheVariants as k
use Rattle.decoder.specs.State.{limit}
use Rattle.decoder.specs.Step.{step, stored, silent}
use Rattle.decoder.specs.Call.{Walked}
use Rattle.decoder.proofs.Classes.{class_is}
use Rattle.decoder.proofs.Steps.{step_by}
use Rattle.stream.specs.declared.FedAnswer.{FedAnswer}
use Rattle.stream.specs.State.{encoded}
use Rattle.stream.specs.Reports.{numbers_of}
use Rattle.stream.specs.quick.Bytes.{is_realtime, open_state}
use Rattle.stream.specs.quick.Going.{Numbered, Answers, MiddleFree, RunMoved}
use Rattle.stream.proofs.Tests.{f9_or_fd}
use Rattle.stream.proofs.WalkedTo.{WalkedTo, on_ends, on_quiet, on_answers, on_run}

-- F9 and FD do nothing, whatever the state
pub f9_and_fd_quiet : (d : Decoder) (store : List ℕ) (b : ℕ) → b < 256 → 0xF8 ≤ b → is_realtime b ≡ false → (silent d ≡ step d b) × (store ≡ stored d store b)
f9_and_fd_quiet d store b small l f = step_by k.Realtime d store b (class_is b k.Realtime l) (silent d) store (⊎_elim (λ e. rw e) (λ e. rw e) (f9_or_fd b l small f)) refl

-- the loop's invariant: the state's bytes are as they were, and the walk has come to a frame of so many bytes in the store
pub record InFrame (w : Walked) (state₀ store₀ bytes state store : List ℕ) (at used : ℕ) : Type 0 where
  pub free : MiddleFree state
  pub same : state ≡ state₀
  pub long : length store ≡ length store₀
  pub room : limit ≤ length store
  pub fits : at ≤ limit
  pub on : WalkedTo w bytes (open_state at state₀) store used

-- the place right behind a run of n data bytes that was moved
module _ {w : Walked} {state₀ store₀ bytes state store : List ℕ} {at used : ℕ} (i : InFrame w state₀ store₀ bytes state store at used)
    (n : ℕ) (n-is : n ≡ min (limit - at) (data_run (drop used bytes))) (kept : List ℕ) (kept-is : kept ≡ window store at (take n (drop used bytes))) where
  run_fits : at + n ≤ limit
  run_fits = omega (arith, n-is, i.fits)

  behind_run : InFrame w state₀ store₀ bytes state kept (at + n) (used + n)
  behind_run =
      let shorter : n ≤ length (drop used bytes) = omega (arith, n-is, run_no_longer (drop used bytes)) in
      let taken : length (take n (drop used bytes)) ≡ n = length-take-le n (drop used bytes) shorter in
      let same_length : length kept ≡ length store = ap length kept-is ∙ length_window store at (take n (drop used bytes)) (omega (arith, taken, run_fits, i.room)) in
      record {
        free = i.free;
        same = i.same;
        long = same_length ∙ i.long;
        room = omega (arith, same_length, i.room);
        fits = run_fits;
        on = subst (λ (l : List ℕ). WalkedTo w bytes (open_state (at + n) state₀) l (used + n)) (sym kept-is)
            (on_run w bytes at (get_or state₀ 12 0) (get_or state₀ 13 0) store used i.on i.fits i.room n n-is);
      }

  -- a data byte right behind the run has no room in the frame
  full_there : used + n < length bytes → get_or bytes (used + n) 0 < 0x80 → limit ≤ at + n
  full_there more low =
      let next : get_or (drop used bytes) n 0 < 0x80 = subst (λ (x : ℕ). x < 0x80) (sym (get_or-drop used bytes n 0)) low in
      let there : n < length (drop used bytes) = omega (arith, length-drop used bytes, more) in
      let longer : n ≤ data_run (drop used bytes) → n + 1 ≤ data_run (drop used bytes) = λ h. run_more (drop used bytes) n h there next in
      let h : n + 1 ≤ data_run (drop used bytes) = longer (omega (arith, n-is)) in
      omega (arith, n-is, h, i.fits)

-- the run, as the code moves it
module _ {w : Walked} {state₀ store₀ bytes state store : List ℕ} {at used : ℕ} (i : InFrame w state₀ store₀ bytes state store at used)
    {n : ℕ} {kept : List ℕ} (r : RunMoved at used n store kept bytes) where
  pub run_moved : InFrame w state₀ store₀ bytes state kept (at + n) (used + n)
  run_moved = behind_run i n r.all kept r.moved

  pub no_room_there : used + n < length bytes → get_or bytes (used + n) 0 < 0x80 → limit ≤ at + n
  no_room_there more low = full_there i n r.all kept r.moved more low

-- in a frame: the end of the bytes or a byte that reports ends the call, and F9 and FD lead on
module _ {w : Walked} {state₀ store₀ bytes state store : List ℕ} {at used : ℕ} (i : InFrame w state₀ store₀ bytes state store at used) where
  same_open : open_state at state ≡ open_state at state₀
  same_open = ap (open_state at) i.same

  pub frame_ends : used ≡ length bytes → (r : FedAnswer) (later left : List ℕ) → r ≡ numbers_of used false None → later ≡ encoded (open_state at state) → left ≡ store
      → Numbered w r later left
  frame_ends e r later left t k q = on_ends w bytes (open_state at state₀) store used i.on e r later left t (k ∙ ap encoded same_open) q

  module _ (more : used < length bytes) where
    pub frame_answers : (r : FedAnswer) (later left : List ℕ) → Answers (open_state at state) store (get_or bytes used 0) (used + 1) r later left → Numbered w r later left
    frame_answers r later left a =
        on_answers w bytes (open_state at state₀) store used i.on more r later left
        (subst (λ (d : Decoder). Answers d store (get_or bytes used 0) (used + 1) r later left) same_open a)

    pub frame_goes_on : get_or bytes used 0 < 256 → 0xF8 ≤ get_or bytes used 0 → is_realtime (get_or bytes used 0) ≡ false → InFrame w state₀ store₀ bytes state store at (used + 1)
    frame_goes_on small l f =
        let q = f9_and_fd_quiet (open_state at state₀) store (get_or bytes used 0) small l f in
        record {
          free = i.free;
          same = i.same;
          long = i.long;
          room = i.room;
          fits = i.fits;
          on = on_quiet w bytes (open_state at state₀) store used i.on more (open_state at state₀) store q.0 q.1;
        }
