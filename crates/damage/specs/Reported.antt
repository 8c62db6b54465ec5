-- A report in document 01's terms.
use Rattle.std.specs.Prelude.{List, [], ◌∷◌, None, Option, Some}
use Rattle.refusal.specs.Outcome.{Outcome, gives, refused}
use Rattle.decoder.specs.State.{limit}
use Rattle.decoder.specs.Reports.{Event, realtime}
use Rattle.wire.specs.declared.real_time.Realtime.{Realtime}

-- an event, a frame with its bytes; or 18 or 19 with its values
abbrev pub Reported : Type 0
Reported = Outcome Event

-- report 18, which carries no value
abbrev pub report18 : Reported
report18 = refused 18 []

-- report 19 "with the frame limit"
abbrev pub report19 : Reported
report19 = refused 19 (limit ∷ [])

-- "a real-time byte other than F9 and FD reports itself"
abbrev pub heard_realtime : Option Realtime → List Reported
heard_realtime (Some x) = gives (realtime x) ∷ []
heard_realtime None = []
