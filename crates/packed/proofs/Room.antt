-- What the test of the room tells: 14 for a buffer that is shorter than the bytes, which leaves it as it was, or that they fit.
use Rattle.std.specs.Prelude.{Err, Ok, Result}
use mathlib.Core.Path.{◌≡◌, refl, sym, ap, subst, ◌∙◌}
use mathlib.Core.List.{List, [], ◌∷◌}
use Prim.Native.Nat.{ℕ, ◌≤◌}
use lib.Dec.{leb}
use lib.ListN.{length}
use borrow.Author.Tests.{leb-true}
use Rattle.refusal.specs.declared.Refusal.{Refusal}
use Rattle.refusal.specs.Outcome.{Outcome, gives, refusal, answered, unless, with_room, Writes}
use Rattle.refusal.proofs.Given.{passed, refused_too}

module _ (n room : ℕ) (answer : Result ℕ Refusal) (told : answered answer ≡ unless (leb n room) 14 (n ∷ room ∷ []) (gives n)) where
  pub fits : (m : ℕ) → answer ≡ Ok m → n ≤ room
  fits m e = leb-true n room (passed (leb n room) 14 (n ∷ room ∷ []) (gives n) m (sym told ∙ ap answered e))

  pub short : (e : Refusal) (bytes out : List ℕ) → answer ≡ Err e → length bytes ≡ n → length out ≡ room
      → Writes (with_room (length out) bytes) (Err e) out out
  short e bytes out h k l =
      let one : refusal e ≡ unless (leb n room) 14 (n ∷ room ∷ []) (gives bytes) =
      refused_too (leb n room) 14 (n ∷ room ∷ []) n (gives bytes) e (ap answered (sym h) ∙ told) in
      let all : refusal e ≡ with_room (length out) bytes = rw (k, l) one in
      subst (λ (o : Outcome (List ℕ)). Writes o (Err e) out out) all (record { answers = refl; leaves = refl })
