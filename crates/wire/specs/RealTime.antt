-- Real-time messages: single bytes F8, FA, FB, FC, FE and FF; "no record names F9 or FD".
use Rattle.std.specs.Prelude.{List, [], ◌∷◌, ℕ, eqb, None, Option, Some}
use Rattle.laws.specs.Choice.{pick}
use Rattle.refusal.specs.Outcome.{Outcome, with_room}
use Rattle.wire.specs.declared.real_time.Realtime.{Realtime}
use Rattle.wire.specs.declared.real_time.Realtime.TheVariants as m

-- MIDI 1.0: the byte of each
abbrev pub realtime_byte : Realtime → ℕ
realtime_byte m.Clock = 0xF8
realtime_byte m.Start = 0xFA
realtime_byte m.Continue = 0xFB
realtime_byte m.Stop = 0xFC
realtime_byte m.ActiveSensing = 0xFE
realtime_byte m.SystemReset = 0xFF

-- the message of a byte, where there is one
abbrev pub realtime_of : ℕ → Option Realtime
realtime_of b =
    pick (eqb b 0xF8) (Some m.Clock)
    (pick (eqb b 0xFA) (Some m.Start)
    (pick (eqb b 0xFB) (Some m.Continue)
    (pick (eqb b 0xFC) (Some m.Stop)
    (pick (eqb b 0xFE) (Some m.ActiveSensing)
    (pick (eqb b 0xFF) (Some m.SystemReset) None)))))

-- the writer: 14
abbrev pub realtime_write : Realtime → ℕ → Outcome (List ℕ)
realtime_write m room = with_room room (realtime_byte m ∷ [])
