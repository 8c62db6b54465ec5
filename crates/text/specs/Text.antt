-- Text in a room of its own.
use Rattle.std.specs.Prelude.{◌≡◌, List, ℕ, ◌++◌, take}
use Rattle.io.specs.Digits.{last_digits, IsDigitCount}
use Rattle.text.specs.declared.Text.{Text}

-- what stands in the room: its first bytes, as many as its length says
abbrev pub shown : {n : ℕ} → Text n → List ℕ
shown t = take t.len t.room

-- a number's decimal digits, as many as it has, stand behind what was shown, as many as have room
pub record PutsDecimal (room n : ℕ) (before after : List ℕ) : Type 0 where
  pub count : ℕ
  pub enough : IsDigitCount 10 1 n count
  pub digits : after ≡ take room (before ++ last_digits 10 count n)
