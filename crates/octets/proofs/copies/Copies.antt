-- A list whose front is copied from another is copied further by the next stretch.
use mathlib.Core.Path.{◌≡◌, ap, ap₂, sym, ◌∙◌}
use mathlib.Core.List.{List, ◌++◌, append_assoc}
use Prim.Native.Nat.{ℕ, ◌+◌, ◌≤◌}
use native.Mathlib.Omega.{arith}
use lib.ListN.{length, take, drop}
use lib.Seq.{take-add, take_at, drop-drop, length-take-le}
use Rattle.std.proofs.lemmas.Slice.{drop-append-drop}
use borrow.Rule.Slice.PartMut.{put_mid}

-- a stretch of the other list, stored right behind what was copied
pub chunk_copied : (from before l new : List ℕ) (at k next : ℕ) → next ≡ at + k → at ≤ length from → l ≡ take at from ++ drop at before
    → new ≡ take k (drop at from) → put_mid at k l new ≡ take next from ++ drop next before
chunk_copied from before l new at k next e room s n =
    let seam : length (take at from) ≡ at = length-take-le at from room in
    let behind : drop k (drop at l) ≡ drop (at + k) before =
    ap (λ (x : List ℕ). drop k (drop at x)) s ∙ drop-drop k at (take at from ++ drop at before) ∙ drop-append-drop at before (take at from) (at + k) (omega arith) seam in
    ap₂ (λ (front back : List ℕ). front ++ (new ++ back)) (ap (take at) s ∙ take_at (take at from) (drop at before) at seam) behind
    ∙ ap (λ (x : List ℕ). take at from ++ (x ++ drop (at + k) before)) n
    ∙ sym (append_assoc (take at from) (take k (drop at from)) (drop (at + k) before))
    ∙ ap (λ (front : List ℕ). front ++ drop (at + k) before) (sym (take-add at k from))
    ∙ ap (λ (m : ℕ). take m from ++ drop m before) (sym e)
