-- System common messages: "F1, F3 and a value to 127; F2 and a position to 16,383, low seven first; F6."
use Rattle.std.specs.Prelude.{Bool, true, List, [], ◌∷◌, ℕ, ◌+◌, ◌*◌, ◌/◌, ◌%◌, leb, eqb, None, Option, Some}
use Rattle.laws.specs.Choice.{pick}
use Rattle.refusal.specs.Outcome.{Outcome, unless, with_room}
use Rattle.wire.specs.declared.system_common.SystemCommon.{SystemCommon}
use Rattle.wire.specs.declared.system_common.SystemCommon.TheVariants as m
use Rattle.wire.specs.declared.system_common.CommonStatus.{CommonStatus}
use Rattle.wire.specs.declared.system_common.CommonStatus.TheVariants as s

-- the status bytes of the messages that a record names: F1, F2, F3 and F6
abbrev pub common_status : ℕ → Option CommonStatus
common_status b =
    pick (eqb b 0xF1) (Some s.TimeCodeQuarterFrame)
    (pick (eqb b 0xF2) (Some s.SongPosition)
    (pick (eqb b 0xF3) (Some s.SongSelect)
    (pick (eqb b 0xF6) (Some s.TuneRequest) None)))

-- the status byte of each kind
abbrev pub common_status_byte : CommonStatus → ℕ
common_status_byte s.TimeCodeQuarterFrame = 0xF1
common_status_byte s.SongPosition = 0xF2
common_status_byte s.SongSelect = 0xF3
common_status_byte s.TuneRequest = 0xF6

-- the message that a status and a value name; a tune request has no value
abbrev pub common : CommonStatus → ℕ → SystemCommon
common s.TimeCodeQuarterFrame v = m.TimeCodeQuarterFrame v
common s.SongPosition v = m.SongPosition v
common s.SongSelect v = m.SongSelect v
common s.TuneRequest v = m.TuneRequest

-- the message's bytes, status first
abbrev pub common_bytes : SystemCommon → List ℕ
common_bytes (m.TimeCodeQuarterFrame v) = 0xF1 ∷ v ∷ []
common_bytes (m.SongPosition p) = 0xF2 ∷ p % 128 ∷ p / 128 ∷ []
common_bytes (m.SongSelect v) = 0xF3 ∷ v ∷ []
common_bytes m.TuneRequest = 0xF6 ∷ []

-- "in range": data to 127, a position to 16,383
abbrev pub common_in_range : SystemCommon → Bool
common_in_range (m.TimeCodeQuarterFrame v) = leb v 127
common_in_range (m.SongPosition p) = leb p 16383
common_in_range (m.SongSelect v) = leb v 127
common_in_range m.TuneRequest = true

-- 21, with the value
abbrev pub when_common : {A : Type 0} → CommonStatus → ℕ → Outcome A → Outcome A
when_common s v next = unless (common_in_range (common s v)) 21 (v ∷ []) next

-- the writer: 21, then 14
abbrev pub common_write : CommonStatus → ℕ → ℕ → Outcome (List ℕ)
common_write s v room = when_common s v (with_room room (common_bytes (common s v)))

-- what a status byte and its data mean; the data's top bits are ignored, and bytes that the message lacks
abbrev pub common_message : ℕ → ℕ → ℕ → Option SystemCommon
common_message status first second =
    pick (eqb status 0xF1) (Some (m.TimeCodeQuarterFrame (first % 128)))
    (pick (eqb status 0xF2) (Some (m.SongPosition (first % 128 + 128 * (second % 128))))
    (pick (eqb status 0xF3) (Some (m.SongSelect (first % 128)))
    (pick (eqb status 0xF6) (Some m.TuneRequest) None)))
