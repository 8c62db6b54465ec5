-- Condition 3 with concrete bytes. Sent: a note on, a clock, a frame and a program change, 90 3C 40 F8 F0 01 02 F7 C1 05.
-- The run is the two bytes 3C 40, and F0 07 comes in their place: 90 F0 07 F8 F0 01 02 F7 C1 05 arrives. The frame that was sent
-- is the first message wholly after the run; the broken one is open at its F0, so that byte gives one 18.
use mathlib.Core.Path.{◌≡◌, refl}
use mathlib.Core.Bool.{true, false}
use mathlib.Core.List.{List, [], ◌∷◌}
use Prim.Native.Nat.{ℕ, ◌≤◌, ◌<◌}
use native.Mathlib.Omega.{arith}
use lib.ListN.{length}
use Rattle.refusal.specs.Outcome.{gives, refused}
use Rattle.wire.specs.Status.{data_length}
use Rattle.wire.specs.declared.channel_message.ChannelMessage.TheVariants as w
use Rattle.wire.specs.declared.real_time.Realtime.TheVariants as t
use Rattle.decoder.specs.State.{limit, fresh}
use Rattle.decoder.specs.Step.{class_of}
use Rattle.decoder.specs.Reports.{channel, realtime, frame}
use Rattle.damage.specs.Reported.{Reported, report18}
use Rattle.damage.specs.History.{heard, message, meaning}
use Rattle.damage.specs.Sent.{Message, Voice, Frame, all_tagged, Tag, realtime_tag, Sent, nothing, own, between}
use Rattle.damage.specs.Caller.{Call, give, lend_short, CallLog, Made, paced, Exactly}
use Rattle.damage.specs.Untouched.{own_places, sent_messages, untouched_reports, within}
use Rattle.damage.specs.Calls.{by_value}
use Rattle.damage.proofs.ByValue.{promises_by_value}

abbrev pub messages : List Message
messages = Voice (record { 0 = 0 }) (w.NoteOn 60 64) ∷ Frame (1 ∷ 2 ∷ []) ∷ Voice (record { 0 = 1 }) (w.ProgramChange 5) ∷ []

-- what is sent: the clock stands between the note and the frame
abbrev pub sent : List Tag
sent =
    record { byte = 0x90; first = true; intact = [] }
    ∷ record { byte = 0x3C; first = false; intact = [] }
    ∷ record { byte = 0x40; first = false; intact = gives (channel (record { 0 = 0 }) (w.NoteOn 60 64)) ∷ [] }
    ∷ realtime_tag 0xF8
    ∷ record { byte = 0xF0; first = true; intact = [] }
    ∷ record { byte = 0x01; first = false; intact = [] }
    ∷ record { byte = 0x02; first = false; intact = [] }
    ∷ record { byte = 0xF7; first = false; intact = gives (frame (0xF0 ∷ 0x01 ∷ 0x02 ∷ 0xF7 ∷ [])) ∷ [] }
    ∷ record { byte = 0xC1; first = true; intact = [] }
    ∷ record { byte = 0x05; first = false; intact = gives (channel (record { 0 = 1 }) (w.ProgramChange 5)) ∷ [] }
    ∷ []

-- a sender may send the example's bytes: the messages' own, and the clock between two of them
abbrev pub is_sent : Sent (all_tagged messages) sent
is_sent = own (own (own (between 0xF8 (omega arith) (own (own (own (own (own (own nothing)))))))))

abbrev pub arrived : List ℕ
arrived = 0x90 ∷ 0xF0 ∷ 0x07 ∷ 0xF8 ∷ 0xF0 ∷ 0x01 ∷ 0x02 ∷ 0xF7 ∷ 0xC1 ∷ 0x05 ∷ []

-- byte by byte: 90 before the run; the break's F0, 07 and the clock; then the frame's F0 with its 18, and all that is intact
abbrev pub reported : List (List Reported)
reported =
    []
    ∷ [] ∷ [] ∷ (gives (realtime t.Clock) ∷ [])
    ∷ (report18 ∷ []) ∷ [] ∷ [] ∷ (gives (frame (0xF0 ∷ 0x01 ∷ 0x02 ∷ 0xF7 ∷ [])) ∷ [])
    ∷ [] ∷ (gives (channel (record { 0 = 1 }) (w.ProgramChange 5)) ∷ [])
    ∷ []

pub worked_example : (store : List ℕ) → limit ≤ length store → (cs : List (Call by_value)) (log : CallLog) → Made by_value cs fresh store arrived log
    → Exactly cs reported log
unfolding meaning heard message class_of data_length limit
worked_example store room cs log made = (promises_by_value fresh).condition_3_fixed messages refl sent is_sent 1 2 (0xF0 ∷ 0x07 ∷ []) store room cs log made

-- three bytes, a call that is lent no store at all, and then all that is left, again and again: each call stops at the first byte
-- that reports
pub worked_calls : (short : 0 < limit)
    → paced {c = by_value} (give 3 ∷ lend_short [] arrived short ∷ give 10 ∷ give 10 ∷ give 10 ∷ give 10 ∷ give 10 ∷ []) reported
    ≡ gives 3 ∷ refused 20 [] ∷ gives 1 ∷ gives 1 ∷ gives 3 ∷ gives 2 ∷ gives 0 ∷ []
unfolding paced
worked_calls short = refl

-- the note is hit; the frame and the program change are untouched, and end with the bytes at places 7 and 9 of what arrives. Nine bytes hold
-- the first of the two reports
pub worked_untouched :
    (untouched_reports 1 2 (0xF0 ∷ 0x07 ∷ []) (sent_messages messages (own_places is_sent 0))
    ≡ record { place = 7; report = gives (frame (0xF0 ∷ 0x01 ∷ 0x02 ∷ 0xF7 ∷ [])) }
    ∷ record { place = 9; report = gives (channel (record { 0 = 1 }) (w.ProgramChange 5)) } ∷ [])
    × (within 9 (untouched_reports 1 2 (0xF0 ∷ 0x07 ∷ []) (sent_messages messages (own_places is_sent 0)))
    ≡ record { place = 7; report = gives (frame (0xF0 ∷ 0x01 ∷ 0x02 ∷ 0xF7 ∷ [])) } ∷ [])
worked_untouched = (refl, refl)
