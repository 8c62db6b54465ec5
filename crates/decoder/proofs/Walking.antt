-- The loop of a call: what is done so far and the walk over the rest are the whole walk.
use mathlib.Core.Path.{◌≡◌, sym, ◌∙◌, ap}
use mathlib.Core.Bool.{true, false}
use mathlib.Core.List.{List, ◌∷◌}
use Prim.Native.Nat.{ℕ, suc, ◌+◌, ◌≤◌, ◌<◌}
use native.Mathlib.Omega.{arith}
use native.Mathlib.Numerals.{add-one}
use lib.ListN.{length, drop, get_or, drop_of_length-le}
use lib.Seq.{drop-cons}
use Rattle.decoder.specs.declared.Decoder.{Decoder}
use Rattle.decoder.specs.declared.Stepped.{Stepped}
use Rattle.decoder.specs.State.{limit}
use Rattle.decoder.specs.Step.{step, stored}
use Rattle.decoder.specs.Call.{Walked, reports, ended, stopped, further, walk}
use Rattle.decoder.proofs.SoundKept.{length_kept}

-- a walk with another count of bytes used
abbrev pub counted : Walked → ℕ → Walked
counted w u = record { fed = record { used = u; state = w.fed.state; interrupted = w.fed.interrupted; report = w.fed.report }; store = w.store }

-- some bytes, one more, and the rest
one_further : (n : ℕ) (w : Walked) → further n (further 1 w) ≡ further (n + 1) w
one_further n w = ap (counted w) (omega arith)

-- the loop's invariant
pub record Walking (d₀ : Decoder) (store₀ bytes : List ℕ) (d : Decoder) (store : List ℕ) (used : ℕ) : Type 0 where
  pub bound : used ≤ length bytes
  pub room : limit ≤ length store
  pub same : length store ≡ length store₀
  pub rest : walk d₀ store₀ bytes ≡ further used (walk d store (drop used bytes))

module _ (d₀ : Decoder) (store₀ bytes : List ℕ) (d : Decoder) (store : List ℕ) (used : ℕ) (i : Walking d₀ store₀ bytes d store used) where
  -- the walk over what is left begins with the next byte
  next_byte : used < length bytes → walk d store (drop used bytes) ≡ walk d store (get_or bytes used 0 ∷ drop (suc used) bytes)
  next_byte h = ap (walk d store) (drop-cons bytes used 0 h)

  -- a byte that reports is the walk's last
  pub walking_stops : used < length bytes → (x : Stepped) (kept : List ℕ) → x ≡ step d (get_or bytes used 0) → kept ≡ stored d store (get_or bytes used 0)
      → reports x ≡ true → walk d₀ store₀ bytes ≡ further used (stopped x kept)
  unfolding walk
  walking_stops h x kept p q r =
      i.rest ∙ ap (further used) (next_byte h ∙ rw (← p, ← q, r))

  -- a byte that reports nothing leads the walk on by one
  pub walking_goes_on : used < length bytes → (x : Stepped) (kept : List ℕ) → x ≡ step d (get_or bytes used 0) → kept ≡ stored d store (get_or bytes used 0)
      → reports x ≡ false → Walking d₀ store₀ bytes x.state kept (used + 1)
  unfolding walk
  walking_goes_on h x kept p q r =
      let same_length : length kept ≡ length store = ap length q ∙ length_kept d store (get_or bytes used 0) in
      let room = i.room in
      let w = walk x.state kept (drop (suc used) bytes) in
      let one : walk d store (get_or bytes used 0 ∷ drop (suc used) bytes) ≡ further 1 w = rw (← p, ← q, r) in
      record {
        bound = omega arith;
        room = omega arith;
        same = same_length ∙ i.same;
        rest = i.rest ∙ ap (further used) (next_byte h ∙ one) ∙ one_further used w
            ∙ ap (λ (n : ℕ). further (used + 1) (walk x.state kept (drop n bytes))) (sym (add-one used));
      }

  -- no byte is left
  pub walking_ends : length bytes ≤ used → walk d₀ store₀ bytes ≡ counted (ended d store) (length bytes)
  unfolding walk
  walking_ends h = i.rest ∙ ap (λ (l : List ℕ). further used (walk d store l)) (drop_of_length-le bytes h) ∙ ap (counted (ended d store)) all
    where
      all : used + 0 ≡ length bytes
      all = omega (arith, i.bound, h)
