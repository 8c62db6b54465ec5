-- How one more byte changes what the bytes ahead say: a data byte joins the data, a real-time byte changes nothing, and any other
-- status byte takes the last one's place and forgets the data.
use mathlib.Core.Path.{◌≡◌, refl, ap}
use mathlib.Core.List.{List, [], ◌∷◌, ◌++◌}
use Prim.Native.Nat.{ℕ, zero, suc, ◌≤◌, ◌<◌}
use lib.ListN.{take}
use native.Mathlib.Omega.{arith}
use borrow.Author.Tests.{lt-ltb, le-ltb}
use Rattle.decoder.specs.declared.Class.{Class}
use Rattle.decoder.specs.declared.Class.TheVariants as k
use Rattle.decoder.proofs.Classes.{Range}
use Rattle.damage.specs.Open.{past_after, last_status, data_since}
use Rattle.damage.specs.Reported.{Reported}
use Rattle.damage.specs.History.{heard, meaning}

abbrev pub next_status : Class → ℕ → ℕ → ℕ
next_status k.Data status b = status
next_status k.Held status b = b
next_status k.Start status b = b
next_status k.Undefined status b = b
next_status k.Tune status b = b
next_status k.End status b = b
next_status k.Realtime status b = status

abbrev pub next_data : Class → List ℕ → ℕ → List ℕ
next_data k.Data xs b = xs ++ (b ∷ [])
next_data k.Held xs b = []
next_data k.Start xs b = []
next_data k.Undefined xs b = []
next_data k.Tune xs b = []
next_data k.End xs b = []
next_data k.Realtime xs b = xs

-- the status bytes below F8
replaces : (past : List ℕ) (b : ℕ) → 0x80 ≤ b → b < 0xF8 → (last_status (b ∷ past) ≡ b) × (data_since (b ∷ past) ≡ [])
replaces past b l h = (rw (le-ltb b 0x80 l, lt-ltb b 0xF8 h), rw (le-ltb b 0x80 l, lt-ltb b 0xF8 h))

pub status_and_data_after : (c : Class) (past : List ℕ) (b : ℕ) → Range c b
    → (last_status (b ∷ past) ≡ next_status c (last_status past) b) × (data_since (b ∷ past) ≡ next_data c (data_since past) b)
status_and_data_after k.Data past b h = (rw (lt-ltb b 0x80 h), rw (lt-ltb b 0x80 h))
status_and_data_after k.Held past b h = replaces past b h.0 (omega arith)
status_and_data_after k.Start past b h = replaces past b (omega arith) (omega arith)
status_and_data_after k.Undefined past b h = replaces past b (omega arith) (omega arith)
status_and_data_after k.Tune past b h = replaces past b (omega arith) (omega arith)
status_and_data_after k.End past b h = replaces past b (omega arith) (omega arith)
status_and_data_after k.Realtime past b h = (rw (le-ltb b 0x80 (omega arith), le-ltb b 0xF8 h), rw (le-ltb b 0x80 (omega arith), le-ltb b 0xF8 h))

-- history of bytes one behind another
pub meaning_append : (past xs ys : List ℕ) → meaning past (xs ++ ys) ≡ meaning past xs ++ meaning (past_after past xs) ys
unfolding meaning
meaning_append past [] ys = refl
meaning_append past (x ∷ xs) ys = ap (λ (l : List (List Reported)). heard (last_status past) (data_since past) x ∷ l) (meaning_append (x ∷ past) xs ys)

pub meaning_take : (past xs : List ℕ) (n : ℕ) → meaning past (take n xs) ≡ take n (meaning past xs)
unfolding meaning
meaning_take past xs zero = refl
meaning_take past [] (suc n) = refl
meaning_take past (x ∷ xs) (suc n) = ap (λ (l : List (List Reported)). heard (last_status past) (data_since past) x ∷ l) (meaning_take (x ∷ past) xs n)
