-- What the writer writes of concrete messages, computed: the status byte is left out where it is the running status, a clock keeps that, and a tune
-- request clears it.
use Rattle.std.specs.Prelude.{None}
use mathlib.Core.Path.{◌≡◌, refl}
use mathlib.Core.List.{[], ◌∷◌}
use Rattle.wire.specs.declared.channel_message.ChannelMessage.{ChannelMessage}
use Rattle.wire.specs.declared.channel_message.ChannelMessage.TheVariants as w
use Rattle.wire.specs.declared.system_common.SystemCommon.TheVariants as y
use Rattle.wire.specs.declared.real_time.Realtime.TheVariants as t
use Rattle.damage.specs.Sent.{Voice, Common}
use Rattle.running_status.specs.RunningStatus.{Item, OfMessage, OfRealtime}
use Rattle.running_status.specs.Chain.{chain}

-- on the first channel
abbrev on_first : ChannelMessage → Item
on_first m = OfMessage (Voice (record { 0 = 0 }) m)

-- a note on and the same note with velocity 0
pub two_notes : chain None (on_first (w.NoteOn 60 64) ∷ on_first (w.NoteOn 60 0) ∷ []) ≡ 0x90 ∷ 0x3C ∷ 0x40 ∷ 0x3C ∷ 0x00 ∷ []
unfolding chain
two_notes = refl

-- a clock between two program changes
pub a_clock_between :
    chain None (on_first (w.ProgramChange 5) ∷ OfRealtime t.Clock ∷ on_first (w.ProgramChange 6) ∷ []) ≡ 0xC0 ∷ 0x05 ∷ 0xF8 ∷ 0x06 ∷ []
unfolding chain
a_clock_between = refl

-- a tune request between them
pub a_tune_request_between :
    chain None (on_first (w.ProgramChange 5) ∷ OfMessage (Common y.TuneRequest) ∷ on_first (w.ProgramChange 6) ∷ [])
    ≡ 0xC0 ∷ 0x05 ∷ 0xF6 ∷ 0xC0 ∷ 0x06 ∷ []
unfolding chain
a_tune_request_between = refl
