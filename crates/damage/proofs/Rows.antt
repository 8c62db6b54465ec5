-- Streams with concrete bytes, computed: document 01's marked rows (f) to (j), and the frame limit's edges at its value.
use Rattle.std.specs.Prelude.{Some}
use mathlib.Core.Path.{◌≡◌, refl}
use mathlib.Core.Bool.{true, false}
use mathlib.Core.List.{List, [], ◌∷◌, ◌++◌}
use Prim.Native.Nat.{ℕ, ◌≤◌}
use lib.ListN.{length, replicate}
use Rattle.refusal.specs.Outcome.{gives, refused}
use Rattle.wire.specs.Status.{data_length}
use Rattle.wire.specs.declared.channel_message.ChannelMessage.TheVariants as w
use Rattle.wire.specs.declared.system_common.SystemCommon.TheVariants as y
use Rattle.wire.specs.declared.real_time.Realtime.TheVariants as t
use Rattle.decoder.specs.declared.Report.TheVariants as r
use Rattle.decoder.specs.State.{limit, fresh}
use Rattle.decoder.specs.Step.{class_of, step, stored}
use Rattle.decoder.specs.Call.{walk}
use Rattle.decoder.specs.Reports.{channel, common, realtime, frame}
use Rattle.damage.specs.History.{heard, message, meaning}
use Rattle.damage.specs.Calls.{singly}
use Rattle.damage.proofs.HistoryIsStep.{cleared_matches, history_is_step}

module _ (store : List ℕ) (room : limit ≤ length store) where
  -- history says it, and history is computed
  says : (bytes : List ℕ) → singly fresh store bytes ≡ meaning [] bytes
  says bytes = history_is_step [] fresh store bytes (cleared_matches fresh store room)

  -- the marked rows (f) to (j): streams from fresh, over any store that is long enough
  pub marked_rows_f_to_j :
      (singly fresh store (0x90 ∷ 0x3C ∷ 0x40 ∷ 0x3C ∷ 0x00 ∷ [])
      ≡ [] ∷ [] ∷ (gives (channel (record { 0 = 0 }) (w.NoteOn 60 64)) ∷ []) ∷ [] ∷ (gives (channel (record { 0 = 0 }) (w.NoteOn 60 0)) ∷ []) ∷ [])
      × (singly fresh store (0xE0 ∷ 0x00 ∷ 0x40 ∷ []) ≡ [] ∷ [] ∷ (gives (channel (record { 0 = 0 }) (w.PitchBend 8192)) ∷ []) ∷ [])
      × (singly fresh store (0xF0 ∷ 0x01 ∷ 0xF8 ∷ 0x02 ∷ 0xF7 ∷ [])
      ≡ [] ∷ [] ∷ (gives (realtime t.Clock) ∷ []) ∷ [] ∷ (gives (frame (0xF0 ∷ 0x01 ∷ 0x02 ∷ 0xF7 ∷ [])) ∷ []) ∷ [])
      × (singly fresh store (0xF0 ∷ 0x01 ∷ 0xF6 ∷ []) ≡ [] ∷ [] ∷ (refused 18 [] ∷ gives (common y.TuneRequest) ∷ []) ∷ [])
      × (singly fresh store (0xF2 ∷ 0x01 ∷ 0x02 ∷ 0x05 ∷ []) ≡ [] ∷ [] ∷ (gives (common (y.SongPosition 257)) ∷ []) ∷ [] ∷ [])
  unfolding meaning heard message class_of data_length limit
  marked_rows_f_to_j = (says _, says _, says _, says _, says _)

-- F0, so many data bytes, and then these, over a store of 2,354 bytes
abbrev pub frame_begun : ℕ → List ℕ → List ℕ
frame_begun n rest = 0xF0 ∷ replicate n 1 ++ rest

abbrev pub blank : List ℕ
blank = replicate 2354 0

-- 2,352 data bytes: a frame of 2,354 bytes is reported
pub edge_2352 : ((walk fresh blank (frame_begun 2352 (0xF7 ∷ []))).fed.used ≡ 2354) × ((walk fresh blank (frame_begun 2352 (0xF7 ∷ []))).fed.report ≡ Some (r.SysEx 2354))
unfolding walk step stored class_of limit
edge_2352 = (refl, refl)

-- 2,353 data bytes: F7 drops the frame with 19; F6 breaks it off with 18
pub edge_2353 :
    ((walk fresh blank (frame_begun 2353 (0xF7 ∷ []))).fed.used ≡ 2355) × ((walk fresh blank (frame_begun 2353 (0xF7 ∷ []))).fed.report ≡ Some (r.SysExTooLong 2354))
    × ((walk fresh blank (frame_begun 2353 (0xF6 ∷ []))).fed.used ≡ 2355) × ((walk fresh blank (frame_begun 2353 (0xF6 ∷ []))).fed.interrupted ≡ true)
unfolding walk step stored class_of limit
edge_2353 = (refl, refl, refl, refl)

-- 2,354 data bytes: the last of them drops the frame with 19, and no frame is open any more
pub edge_2354 :
    ((walk fresh blank (frame_begun 2354 (0xF6 ∷ []))).fed.used ≡ 2355) × ((walk fresh blank (frame_begun 2354 (0xF6 ∷ []))).fed.report ≡ Some (r.SysExTooLong 2354))
    × ((walk fresh blank (frame_begun 2354 (0xF6 ∷ []))).fed.state.in_sysex ≡ false)
unfolding walk step stored class_of limit
edge_2354 = (refl, refl, refl)
