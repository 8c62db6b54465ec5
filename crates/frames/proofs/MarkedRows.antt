-- The twelve marked rows of document 01 as one list. Each holds because the definitions compute to it; those computations stand
-- beside the definitions, and this file puts them together.
use mathlib.Core.Path.{◌≡◌}
use mathlib.Core.List.{List, [], ◌∷◌}
use Prim.Native.Nat.{ℕ, ◌≤◌}
use lib.ListN.{length}
use Rattle.refusal.specs.Outcome.{gives, refused}
use Rattle.ids.specs.declared.device.DeviceId.TheVariants as d
use Rattle.packed.specs.Packed.{packed, unpacked, unpacked_length_of}
use Rattle.packed.proofs.Rows.{row_a, row_b, row_c, row_d, row_e}
use Rattle.wire.specs.declared.channel_message.ChannelMessage.TheVariants as w
use Rattle.wire.specs.declared.system_common.SystemCommon.TheVariants as y
use Rattle.wire.specs.declared.real_time.Realtime.TheVariants as t
use Rattle.decoder.specs.State.{limit, fresh}
use Rattle.decoder.specs.Reports.{channel, common, realtime, frame}
use Rattle.damage.specs.Calls.{singly}
use Rattle.damage.proofs.Rows.{marked_rows_f_to_j}
use Rattle.message.specs.declared.head.Head.TheVariants as h
use Rattle.frame_reader.specs.Reader.{parsed}
use Rattle.frames.proofs.Rows.{row_k, row_l}

-- The marked rows. A stream's reports are said byte by byte: the entry at a byte is what that byte reports, from a fresh decoder over
-- any store that is long enough
pub marked_rows : (store : List ℕ) → limit ≤ length store
    -- (a) nothing gives nothing
    → (packed [] ≡ [])
    -- (b) 80 gives 01 and seven 00
    × (packed (0x80 ∷ []) ≡ 0x01 ∷ 0x00 ∷ 0x00 ∷ 0x00 ∷ 0x00 ∷ 0x00 ∷ 0x00 ∷ 0x00 ∷ [])
    -- (c) seven FF give eight 7F
    × (packed (0xFF ∷ 0xFF ∷ 0xFF ∷ 0xFF ∷ 0xFF ∷ 0xFF ∷ 0xFF ∷ []) ≡ 0x7F ∷ 0x7F ∷ 0x7F ∷ 0x7F ∷ 0x7F ∷ 0x7F ∷ 0x7F ∷ 0x7F ∷ [])
    -- (d) unpacking 02 01 01 gives 01 81
    × (unpacked (0x02 ∷ 0x01 ∷ 0x01 ∷ []) ≡ 0x01 ∷ 0x81 ∷ [])
    -- (e) length 9 gives 13
    × (unpacked_length_of 9 ≡ refused 13 (9 ∷ []))
    -- (f) 90 3C 40 3C 00: two notes on, velocities 64 and 0
    × (singly fresh store (0x90 ∷ 0x3C ∷ 0x40 ∷ 0x3C ∷ 0x00 ∷ [])
    ≡ [] ∷ [] ∷ (gives (channel (record { 0 = 0 }) (w.NoteOn 60 64)) ∷ []) ∷ [] ∷ (gives (channel (record { 0 = 0 }) (w.NoteOn 60 0)) ∷ []) ∷ [])
    -- (g) E0 00 40: bend 8,192
    × (singly fresh store (0xE0 ∷ 0x00 ∷ 0x40 ∷ []) ≡ [] ∷ [] ∷ (gives (channel (record { 0 = 0 }) (w.PitchBend 8192)) ∷ []) ∷ [])
    -- (h) F0 01 F8 02 F7: clock, then F0 01 02 F7
    × (singly fresh store (0xF0 ∷ 0x01 ∷ 0xF8 ∷ 0x02 ∷ 0xF7 ∷ [])
    ≡ [] ∷ [] ∷ (gives (realtime t.Clock) ∷ []) ∷ [] ∷ (gives (frame (0xF0 ∷ 0x01 ∷ 0x02 ∷ 0xF7 ∷ [])) ∷ []) ∷ [])
    -- (i) F0 01 F6: 18, tune request
    × (singly fresh store (0xF0 ∷ 0x01 ∷ 0xF6 ∷ []) ≡ [] ∷ [] ∷ (refused 18 [] ∷ gives (common y.TuneRequest) ∷ []) ∷ [])
    -- (j) F2 01 02 05: position 257 only
    × (singly fresh store (0xF2 ∷ 0x01 ∷ 0x02 ∷ 0x05 ∷ []) ≡ [] ∷ [] ∷ (gives (common (y.SongPosition 257)) ∷ []) ∷ [] ∷ [])
    -- (k) F0 00 20 32 20 00 03 F7: edit request to unit 0
    × (parsed (0xF0 ∷ 0x00 ∷ 0x20 ∷ 0x32 ∷ 0x20 ∷ 0x00 ∷ 0x03 ∷ 0xF7 ∷ []) ≡ gives (record { device = d.Unit 0; head = h.EditBufferDumpRequest }))
    -- (l) F0 00 20 32 20 7F 07 20 F7: refusal 11
    × (parsed (0xF0 ∷ 0x00 ∷ 0x20 ∷ 0x32 ∷ 0x20 ∷ 0x7F ∷ 0x07 ∷ 0x20 ∷ 0xF7 ∷ []) ≡ refused 11 (0x20 ∷ []))
marked_rows store room =
    let s = marked_rows_f_to_j store room in
    (row_a, row_b, row_c, row_d, row_e, s.0, s.1, s.2, s.3, s.4, row_k, row_l)
