-- A data byte and F7 by cases: what the step comes to, once it is known whether a frame is open and whether it has room.
use mathlib.Core.Path.{◌≡◌, refl, sym, ap, ◌∙◌}
use mathlib.Core.Bool.{Bool, true, false, ◌&&◌}
use mathlib.Core.List.{List}
use Prim.Native.Nat.{ℕ, ◌+◌, ◌≤◌, ◌<◌}
use lib.Dec.{ltb}
use lib.ListN.{set}
use borrow.Author.Tests.{lt-ltb, le-ltb}
use Rattle.laws.specs.Choice.{pick}
use Rattle.decoder.specs.declared.Decoder.{Decoder}
use Rattle.decoder.specs.declared.Class.{Class}
use Rattle.decoder.specs.declared.Class.TheVariants as k
use Rattle.decoder.specs.declared.Report.TheVariants as r
use Rattle.decoder.specs.declared.Stepped.{Stepped}
use Rattle.decoder.specs.State.{limit, cleared}
use Rattle.decoder.specs.Step.{class_of, step_in, step, stored_in, stored, silent, longer, reporting, too_long, collect}

module _ (d : Decoder) (store : List ℕ) (b : ℕ) where
  -- a choice by two known tests
  inner : {A : Type 0} (x y z : A) (s t : Bool) → d.in_sysex ≡ s → ltb d.len limit ≡ t
      → pick d.in_sysex (pick (ltb d.len limit) x y) z ≡ pick s (pick t x y) z
  inner x y z s t p q = ap (λ u. pick u (pick (ltb d.len limit) x y) z) p ∙ ap (λ u. pick s (pick u x y) z) q

  put : (s t : Bool) → d.in_sysex ≡ s → ltb d.len limit ≡ t
      → pick (d.in_sysex && ltb d.len limit) (set store d.len b) store ≡ pick (s && t) (set store d.len b) store
  put s t p q =
      ap (λ u. pick (u && ltb d.len limit) (set store d.len b) store) p ∙ ap (λ u. pick (s && u) (set store d.len b) store) q

  pub data_fits : d.in_sysex ≡ true → d.len < limit → (step_in k.Data d b ≡ silent (longer d)) × (stored_in k.Data d store b ≡ set store d.len b)
  data_fits p l = (inner _ _ _ true true p (lt-ltb _ _ l), put true true p (lt-ltb _ _ l))

  pub data_over : d.in_sysex ≡ true → limit ≤ d.len → (step_in k.Data d b ≡ too_long d) × (stored_in k.Data d store b ≡ store)
  data_over p l = (inner _ _ _ true false p (le-ltb _ _ l), put true false p (le-ltb _ _ l))

  pub data_plain : d.in_sysex ≡ false → (step_in k.Data d b ≡ collect d.status d b) × (stored_in k.Data d store b ≡ store)
  data_plain p = (inner _ _ _ false (ltb d.len limit) p refl, put false (ltb d.len limit) p refl)

  pub end_fits : d.in_sysex ≡ true → d.len < limit
      → (step_in k.End d b ≡ reporting (cleared d) (r.SysEx (d.len + 1))) × (stored_in k.End d store b ≡ set store d.len b)
  end_fits p l = (inner _ _ _ true true p (lt-ltb _ _ l), put true true p (lt-ltb _ _ l))

  pub end_over : d.in_sysex ≡ true → limit ≤ d.len → (step_in k.End d b ≡ too_long d) × (stored_in k.End d store b ≡ store)
  end_over p l = (inner _ _ _ true false p (le-ltb _ _ l), put true false p (le-ltb _ _ l))

  pub end_plain : d.in_sysex ≡ false → (step_in k.End d b ≡ silent (cleared d)) × (stored_in k.End d store b ≡ store)
  end_plain p = (inner _ _ _ false (ltb d.len limit) p refl, put false (ltb d.len limit) p refl)

-- what a byte does is what its class does
pub step_by : (c : Class) (d : Decoder) (store : List ℕ) (b : ℕ) → class_of b ≡ c → (x : Stepped) (kept : List ℕ) → x ≡ step_in c d b → kept ≡ stored_in c d store b
    → (x ≡ step d b) × (kept ≡ stored d store b)
unfolding step stored
step_by c d store b h x kept p q = (p ∙ ap (λ (a : Class). step_in a d b) (sym h), q ∙ ap (λ (a : Class). stored_in a d store b) (sym h))
