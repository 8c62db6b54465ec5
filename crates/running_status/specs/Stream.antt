-- What any sender may write who knows of running status: each message with its own status byte, or without it where it is the running status at
-- that point. Order 2's writer leaves it out wherever it can, a keyboard as it likes.
use Rattle.std.specs.Prelude.{◌≡◌, true, false, List, [], ◌∷◌, ◌++◌, ℕ, drop, Option}
use Rattle.damage.specs.Sent.{Message, bytes_of, event_of, Tag, tags, tagged}
use Rattle.running_status.specs.RunningStatus.{omits, running_after}

-- from a state on. A message with its own status byte has a first byte; one without has none
pub data Stream : Option ℕ → List Message → List Tag → Type 0 where
  nothing : {st : Option ℕ} → Stream st [] []
  whole : {st : Option ℕ} (m : Message) {ms : List Message} {ts : List Tag} → Stream (running_after m) ms ts → Stream st (m ∷ ms) (tagged m ++ ts)
  bare : {st : Option ℕ} (m : Message) {ms : List Message} {ts : List Tag} → omits st m ≡ true → Stream (running_after m) ms ts
      → Stream st (m ∷ ms) (tags false (event_of m) (drop 1 (bytes_of m)) ++ ts)
