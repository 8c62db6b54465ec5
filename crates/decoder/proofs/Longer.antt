-- Bytes of a store beyond the frame limit are neither read nor written: a walk over a longer store is the walk over its front, and the rest stays.
use mathlib.Core.Path.{◌≡◌, refl, sym, ap, ◌∙◌}
use mathlib.Core.Bool.{Bool, true, false, ◌&&◌}
use mathlib.Core.List.{List, [], ◌∷◌, ◌++◌}
use Prim.Native.Nat.{ℕ, ◌≤◌}
use native.Mathlib.Omega.{arith}
use lib.Dec.{ltb}
use lib.ListN.{length, set, drop, take-append-drop}
use borrow.Author.Tests.{ltb-true}
use Rattle.std.specs.Array.{IsFirstChunk}
use Rattle.std.proofs.lemmas.List.{length-take-le, set-append_left}
use Rattle.laws.specs.Choice.{pick}
use Rattle.decoder.specs.declared.Decoder.{Decoder}
use Rattle.decoder.specs.declared.Class.{Class}
use Rattle.decoder.specs.declared.Class.TheVariants as k
use Rattle.decoder.specs.State.{limit}
use Rattle.decoder.specs.Step.{class_of, step, stored_in, stored}
use Rattle.decoder.specs.declared.Fed.{Fed}
use Rattle.decoder.specs.Call.{Walked, Walks, walk, further, reports, stopped}
use Rattle.decoder.proofs.Limit.{room_for_three}
use Rattle.decoder.proofs.SoundKept.{length_kept}

module _ (rest : List ℕ) where
  -- what a walk over the front did, with the rest of the store behind it
  abbrev pub longer_by : Walked → Walked
  longer_by w = record { fed = w.fed; store = w.store ++ rest }

  kept_at : (d : Decoder) (front : List ℕ) (b : ℕ) → limit ≤ length front
      → pick (d.in_sysex && ltb d.len limit) (set (front ++ rest) d.len b) (front ++ rest) ≡ pick (d.in_sysex && ltb d.len limit) (set front d.len b) front ++ rest
  kept_at d front b room = go d.in_sysex (ltb d.len limit) refl
    where
      go : (s t : Bool) → ltb d.len limit ≡ t → pick (s && t) (set (front ++ rest) d.len b) (front ++ rest) ≡ pick (s && t) (set front d.len b) front ++ rest
      go true true e = set-append_left front rest d.len b (omega (arith, ltb-true d.len limit e))
      go true false e = refl
      go false t e = refl

  stored_longer : (d : Decoder) (front : List ℕ) (b : ℕ) → limit ≤ length front → stored d (front ++ rest) b ≡ stored d front b ++ rest
  unfolding stored
  stored_longer d front b room = go (class_of b)
    where
      go : (c : Class) → stored_in c d (front ++ rest) b ≡ stored_in c d front b ++ rest
      go k.Data = kept_at d front b room
      go k.Held = refl
      go k.Start = set-append_left front rest 0 b (omega (arith, room_for_three))
      go k.Undefined = refl
      go k.Tune = refl
      go k.End = kept_at d front b room
      go k.Realtime = refl

  walk_longer : (bytes : List ℕ) (d : Decoder) (front : List ℕ) → limit ≤ length front → walk d (front ++ rest) bytes ≡ longer_by (walk d front bytes)
  unfolding walk
  walk_longer [] d front room = refl
  walk_longer (b ∷ bs) d front room =
      let on : stored d (front ++ rest) b ≡ stored d front b ++ rest = stored_longer d front b room in
      let still : limit ≤ length (stored d front b) = omega (arith, length_kept d front b) in
      let next : walk (step d b).state (stored d front b ++ rest) bs ≡ longer_by (walk (step d b).state (stored d front b) bs) =
      walk_longer bs (step d b).state (stored d front b) still in
      go (reports (step d b)) (ap (λ (l : List ℕ). walk (step d b).state l bs) on ∙ next) on
    where
      go : (t : Bool) → walk (step d b).state (stored d (front ++ rest) b) bs ≡ longer_by (walk (step d b).state (stored d front b) bs)
          → stored d (front ++ rest) b ≡ stored d front b ++ rest
          → pick t (stopped (step d b) (stored d (front ++ rest) b)) (further 1 (walk (step d b).state (stored d (front ++ rest) b) bs))
          ≡ longer_by (pick t (stopped (step d b) (stored d front b)) (further 1 (walk (step d b).state (stored d front b) bs)))
      go true n o = ap (stopped (step d b)) o
      go false n o = ap (further 1) n

-- the front of a store and the rest behind it are the store
pub front_back : (store front : List ℕ) (n : ℕ) → IsFirstChunk store front n → front ++ drop n store ≡ store
front_back store front n c = ap (λ (l : List ℕ). l ++ drop n store) c.same ∙ take-append-drop n store

-- the walk over a store's first n bytes, with the rest as it was, is the walk over the store
pub walk_front : (d : Decoder) (store front bytes : List ℕ) (n : ℕ) → IsFirstChunk store front n → limit ≤ n
    → walk d store bytes ≡ longer_by (drop n store) (walk d front bytes)
walk_front d store front bytes n c enough =
    ap (λ (l : List ℕ). walk d l bytes) (sym (front_back store front n c))
    ∙ walk_longer (drop n store) bytes d front (omega (arith, length-take-le n store c.enough, ap length c.same))

-- what the code's walk over the front leaves, with the rest behind it
pub walks_front : (d : Decoder) (store front bytes : List ℕ) (n : ℕ) → IsFirstChunk store front n → limit ≤ n → (fed : Fed) (afterwards : List ℕ)
    → Walks (walk d front bytes) fed afterwards → Walks (walk d store bytes) fed (afterwards ++ drop n store)
walks_front d store front bytes n c enough fed afterwards w =
    let e = walk_front d store front bytes n c enough in
    record {
      told = w.told ∙ sym (ap (λ (x : Walked). x.fed) e);
      left = ap (λ (l : List ℕ). l ++ drop n store) w.left ∙ sym (ap (λ (x : Walked). x.store) e);
    }
