-- A refused call leaves the state as it was.
use Rattle.std.specs.Prelude.{Err, Result}
use mathlib.Core.Path.{◌≡◌, refl}
use mathlib.Core.List.{List}
use Prim.Native.Nat.{ℕ}
use native.Mathlib.Omega.{arith}
use Rattle.refusal.specs.declared.Refusal.{Refusal}
use Rattle.refusal.specs.Outcome.{Outcome, gives, refused}
use Rattle.decoder.specs.declared.Decoder.{Decoder}
use Rattle.decoder.specs.declared.Fed.{Fed}
use Rattle.decoder.specs.Call.{Walked, Feeds}
use Rattle.decoder_in_place.specs.InPlace.{FeedsInPlace}

pub refused_in_place : (o : Outcome Walked) (r : Result Fed Refusal) (e : Refusal) (d : Decoder) (before afterwards : List ℕ) → r ≡ Err e → Feeds o r before afterwards
    → FeedsInPlace o (Err e) d d before afterwards
refused_in_place (gives w) r e d before afterwards h k = let z : ◌≡◌ {A = ℕ} 0 1 = cc in absurd (omega arith)
refused_in_place (refused n values) r e d before afterwards h k = record { answers = cc; keeps = refl; leaves = k.leaves }
