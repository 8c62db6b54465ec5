-- Every record has the shape of sixteen channels of two words of 64 bits, because the array's type says so of every element.
use mathlib.Core.Path.{◌≡◌}
use mathlib.Core.List.{List, [], ◌∷◌}
use Prim.Native.Nat.{ℕ, zero, suc, ◌^◌, ◌<◌}
use native.Mathlib.Omega.{arith}
use lib.ListN.{length, get_or}
use mir.Syntax.{w64}
use mir.Val.{Val}
use denote.Array.{Array, each}
use denote.Shadow.{shadow}
use denote.Plain.{UInt}
use Rattle.held_keys.specs.Record.{Shaped}

two_words : (xs : List (List ℕ)) (us : List Val) (i : ℕ) → shadow (each (List ℕ) (Array (UInt w64) 2).own_val xs us) → i < length xs
    → length (get_or xs i []) ≡ 2
two_words [] us i p h = absurd (omega arith)
two_words (x ∷ xs) [] i p h = absurd p
two_words (x ∷ xs) (u ∷ us) zero p h = p.0.1.0.1
two_words (x ∷ xs) (u ∷ us) (suc i) p h = two_words xs us i p.1 (omega arith)

word_bits : (ws : List ℕ) (us : List Val) (w : ℕ) → shadow (each ℕ (UInt w64).own_val ws us) → w < length ws → get_or ws w 0 < 2 ^ 64
word_bits [] us w p h = absurd (omega arith)
word_bits (x ∷ ws) [] w p h = absurd p
word_bits (x ∷ ws) (u ∷ us) zero p h = p.0.1
word_bits (x ∷ ws) (u ∷ us) (suc w) p h = word_bits ws us w p.1 (omega arith)

channel_bits : (xs : List (List ℕ)) (us : List Val) (c w : ℕ) → shadow (each (List ℕ) (Array (UInt w64) 2).own_val xs us) → c < length xs → w < 2
    → get_or (get_or xs c []) w 0 < 2 ^ 64
channel_bits [] us c w p h b = absurd (omega arith)
channel_bits (x ∷ xs) [] c w p h b = absurd p
channel_bits (x ∷ xs) (u ∷ us) zero w p h b = word_bits x p.0.0 w p.0.1.1 (omega (arith, p.0.1.0.1))
channel_bits (x ∷ xs) (u ∷ us) (suc c) w p h b = channel_bits xs us c w p.1 (omega arith) b

-- what the type of an array says of its values
pub array_shaped : (xs : List (List ℕ)) (vs : List Val) → shadow ((Array (Array (UInt w64) 2) 16).own_val xs vs) → Shaped xs
array_shaped xs vs p = record {
  channels = p.1.0.1;
  words = λ c h. two_words xs p.0 c p.1.1 (omega (arith, p.1.0.1));
  bits = λ c w hc hw. channel_bits xs p.0 c w p.1.1 (omega (arith, p.1.0.1)) hw;
}
