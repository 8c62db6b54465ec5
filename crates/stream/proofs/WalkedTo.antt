-- A call on its way: the bytes used so far and the walk over the rest are the whole walk. A byte that reports nothing leads on, one that
-- reports ends the call, and so does the end of the bytes.
use Rattle.std.specs.Prelude.{None}
use mathlib.Core.Path.{◌≡◌, sym, ◌∙◌, ap, subst}
use mathlib.Core.Bool.{false}
use mathlib.Core.List.{List, ◌∷◌}
use Prim.Native.Nat.{ℕ, suc, ◌+◌, ◌-◌, ◌≤◌, ◌<◌, min}
use native.Mathlib.Omega.{arith}
use native.Mathlib.Numerals.{add-one}
use native.Mathlib.Nat.{add-zero}
use lib.ListN.{length, take, drop, get_or, length-drop, drop_of_length-le}
use lib.Seq.{drop-cons, drop-drop}
use Rattle.laws.specs.Window.{window}
use Rattle.octets.specs.quick.Data.{data_run}
use Rattle.octets.proofs.data_bytes.Runs.{run_no_longer}
use Rattle.decoder.specs.declared.Decoder.{Decoder}
use Rattle.decoder.specs.State.{limit}
use Rattle.decoder.specs.Step.{step, stored, silent}
use Rattle.decoder.specs.Call.{Walked, walk, further}
use Rattle.stream.specs.declared.FedAnswer.{FedAnswer}
use Rattle.stream.specs.State.{encoded}
use Rattle.stream.specs.Reports.{numbers_of}
use Rattle.stream.specs.quick.Going.{Numbered, Answers}
use Rattle.stream.proofs.Runs.{more_further, none_further, quiet_byte, open_frame, frame_run, stray_run}

-- the whole walk w has come to state d and store behind the used bytes
pub record WalkedTo (w : Walked) (bytes : List ℕ) (d : Decoder) (store : List ℕ) (used : ℕ) : Type 0 where
  pub within : used ≤ length bytes
  pub rest : w ≡ further used (walk d store (drop used bytes))

pub on_begins : (d : Decoder) (store bytes : List ℕ) → WalkedTo (walk d store bytes) bytes d store 0
on_begins d store bytes = record { within = omega arith; rest = sym (none_further _) }

-- two names of one walk have one answer by numbers
numbered_as : (v w : Walked) (r : FedAnswer) (later left : List ℕ) → v ≡ w → Numbered w r later left → Numbered v r later left
numbered_as v w r later left e n = subst (λ (x : Walked). Numbered x r later left) (sym e) n

-- a byte that reports is the last
stops : (d : Decoder) (store : List ℕ) (b n : ℕ) (bs : List ℕ) (r : FedAnswer) (later left : List ℕ) → Answers d store b (n + 1) r later left
    → Numbered (further n (walk d store (b ∷ bs))) r later left
unfolding walk
stops d store b n bs r later left a = rw a.some (record { told = a.told; kept = a.kept; store = a.leaves })

module _ (w : Walked) (bytes : List ℕ) (d : Decoder) (store : List ℕ) (used : ℕ) (on : WalkedTo w bytes d store used) where
  -- what another function answers of the rest is the call's answer
  pub on_other : (r : FedAnswer) (later left : List ℕ) → Numbered (further used (walk d store (drop used bytes))) r later left → Numbered w r later left
  on_other r later left n = numbered_as w _ r later left on.rest n

  -- a call ends where no byte is left
  pub on_ends : used ≡ length bytes → (r : FedAnswer) (later left : List ℕ) → r ≡ numbers_of used false None → later ≡ encoded d → left ≡ store → Numbered w r later left
  unfolding walk
  on_ends e r later left t k q =
      on_other r later left
      (rw (drop_of_length-le bytes {i = used} (omega (arith, e)), add-zero used) (record { told = t; kept = k; store = q }))

  -- a run of data bytes with no status in force
  pub on_stray : d.in_sysex ≡ false → d.status ≡ None → (n : ℕ) → n ≤ data_run (drop used bytes) → WalkedTo w bytes d store (used + n)
  on_stray p q n h =
      record {
        within = omega (arith, on.within, h, run_no_longer (drop used bytes), length-drop used bytes);
        rest = on.rest ∙ ap (further used) (stray_run n d store (drop used bytes) p q h) ∙ more_further used n _
            ∙ ap (λ (l : List ℕ). further (used + n) (walk d store l)) (drop-drop n used bytes);
      }

  module _ (more : used < length bytes) where
    abbrev byte : ℕ
    byte = get_or bytes used 0

    led : drop used bytes ≡ byte ∷ drop (suc used) bytes
    led = drop-cons bytes used 0 more

    -- a byte that reports nothing leads on by one
    pub on_quiet : (e : Decoder) (kept : List ℕ) → silent e ≡ step d byte → kept ≡ stored d store byte → WalkedTo w bytes e kept (used + 1)
    on_quiet e kept p q =
        record {
          within = omega arith;
          rest = on.rest ∙ ap (further used) (ap (walk d store) led ∙ quiet_byte d e store kept byte (drop (suc used) bytes) p q) ∙ more_further used 1 _
              ∙ ap (λ (n : ℕ). further (used + 1) (walk e kept (drop n bytes))) (sym (add-one used));
        }

    -- a byte that reports ends the call
    pub on_answers : (r : FedAnswer) (later left : List ℕ) → Answers d store byte (used + 1) r later left → Numbered w r later left
    on_answers r later left a =
        on_other r later left (numbered_as _ _ r later left (ap (λ (l : List ℕ). further used (walk d store l)) led) (stops d store byte used _ r later left a))

-- a run of data bytes in an open frame, as far as it has room
pub on_run : (w : Walked) (bytes : List ℕ) (at a z : ℕ) (store : List ℕ) (used : ℕ) → WalkedTo w bytes (open_frame at a z) store used → at ≤ limit → limit ≤ length store
    → (n : ℕ) → n ≡ min (limit - at) (data_run (drop used bytes)) → WalkedTo w bytes (open_frame (at + n) a z) (window store at (take n (drop used bytes))) (used + n)
on_run w bytes at a z store used on fits room n e =
    record {
      within = omega (arith, on.within, e, run_no_longer (drop used bytes), length-drop used bytes);
      rest = on.rest ∙ ap (further used) (frame_run n at a z store (drop used bytes) (omega (arith, e)) (omega (arith, e, fits)) room) ∙ more_further used n _
          ∙ ap (λ (l : List ℕ). further (used + n) (walk (open_frame (at + n) a z) (window store at (take n (drop used bytes))) l)) (drop-drop n used bytes);
    }
