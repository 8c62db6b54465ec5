-- A call is refused with 20, the store as it was, unless the store is long enough and the state sound; then it walks.
use Rattle.std.specs.Prelude.{Err, Ok}
use mathlib.Core.Path.{◌≡◌}
use mathlib.Core.Bool.{true, false}
use mathlib.Core.List.{List, []}
use Prim.Native.Nat.{ℕ, ◌≤◌, ◌<◌}
use lib.Dec.{leb}
use lib.ListN.{length}
use borrow.Author.Tests.{le-leb, lt-leb}
use Rattle.laws.proofs.Tests.{split}
use Rattle.refusal.specs.Outcome.{Outcome, gives, refused}
use Rattle.refusal.specs.declared.Refusal.TheVariants as e
use Rattle.decoder.specs.declared.Decoder.{Decoder}
use Rattle.decoder.specs.declared.Fed.{Fed}
use Rattle.decoder.specs.State.{limit, sound}
use Rattle.decoder.specs.Call.{Walked, Walks, walk, call, Feeds}

pub short_refused : (d : Decoder) (store bytes : List ℕ) → length store < limit → call d store bytes ≡ refused 20 []
short_refused d store bytes short = rw (lt-leb limit (length store) short)

pub unsound_refused : (d : Decoder) (store bytes : List ℕ) → sound d ≡ false → call d store bytes ≡ refused 20 []
unsound_refused d store bytes h = split (leb limit (length store)) (λ e. rw (e, h)) (λ e. rw e)

pub ready_walks : (d : Decoder) (store bytes : List ℕ) → limit ≤ length store → sound d ≡ true → call d store bytes ≡ gives (walk d store bytes)
ready_walks d store bytes room h = rw (le-leb limit (length store) room, h)

-- a call that is refused answers 20 and leaves the store as it was
pub feeds_refused : (o : Outcome Walked) (store : List ℕ) → o ≡ refused 20 [] → Feeds o (Err e.BadStore) store store
feeds_refused o store h = record { answers = rw h; leaves = rw h }

-- a call that walks answers what the walk did and leaves the store that it left
pub feeds : (o : Outcome Walked) (w : Walked) (fed : Fed) (store afterwards : List ℕ) → o ≡ gives w → Walks w fed afterwards
    → Feeds o (Ok fed) store afterwards
feeds o w fed store afterwards h k = record { answers = rw (h, k.told); leaves = rw h k.left }
