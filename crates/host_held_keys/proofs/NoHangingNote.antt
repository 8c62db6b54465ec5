-- The bytes after a list of calls are those of the record after the same list, because a call reads from its bytes the record that they were made of.
-- So what SoftRelease proves of the record holds of the bytes that dm_held_apply leaves.
use mathlib.Core.Path.{◌≡◌, ap, sym, ◌∙◌}
use mathlib.Core.Bool.{true, false}
use mathlib.Core.List.{List, [], ◌∷◌, ◌++◌}
use Prim.Native.Nat.{ℕ, ◌%◌}
use lib.Dec.{ltb}
use lib.ListN.{length, replicate}
use Rattle.std.proofs.Common.{Some}
use borrow.Author.Tests.{eq-eqb}
use Rattle.laws.proofs.Tests.{split}
use Rattle.wire.specs.declared.channel_message.ChannelMessage.TheVariants as m
use Rattle.held_keys.specs.HeldKeys.{still_held}
use Rattle.held_keys.specs.Record.{Shaped, KeyCall, no_keys, record_of, record_after, after_calls}
use Rattle.held_keys.specs.Played.{AllReleased}
use Rattle.held_keys.specs.HeldBytes.{keys_of, bytes_of_keys}
use Rattle.held_keys.proofs.Keys.{none_held}
use Rattle.held_keys.proofs.Reached.{calls_shaped}
use Rattle.held_keys.proofs.SoftRelease.{either_release, no_hanging_note, only_if_released}
use Rattle.held_keys.proofs.bytes.RoundTrip.{bytes_long, bytes_fresh, keys_read_back}
use Rattle.host_held_keys.specs.Held.{apply_bytes, bytes_after_calls}

-- a call on a record's bytes leaves the bytes of the record after the message
call_on_bytes : (keys : List (List ℕ)) → Shaped keys → (call : KeyCall)
    → apply_bytes (bytes_of_keys keys) (Some call.1) call.0 ≡ bytes_of_keys (record_after keys call.0 call.1)
call_on_bytes keys p call =
    rw (eq-eqb (length (bytes_of_keys keys)) 256 (bytes_long keys))
    (split (ltb call.0 16)
    (λ (t : ltb call.0 16 ≡ true). rw t (ap (λ (x : List (List ℕ)). bytes_of_keys (record_of (still_held x call.0 call.1))) (keys_read_back keys p)))
    (λ (f : ltb call.0 16 ≡ false). rw f))

-- the bytes after a list of calls are those of the record after it
pub bytes_after : (calls : List KeyCall) → bytes_after_calls calls ≡ bytes_of_keys (after_calls calls)
unfolding bytes_after_calls after_calls
bytes_after [] = sym (bytes_fresh no_keys (none_held 16))
bytes_after (call ∷ earlier) =
    ap (λ (b : List ℕ). apply_bytes b (Some call.1) call.0) (bytes_after earlier) ∙ call_on_bytes (after_calls earlier) (calls_shaped earlier) call

-- where each pressed key is released, by a note off or by a soft strike, the bytes end as dm_held_fresh wrote them
pub no_hanging_note_of_host : (calls : List KeyCall) → AllReleased calls → bytes_after_calls calls ≡ replicate 256 0
no_hanging_note_of_host calls all = bytes_after calls ∙ ap bytes_of_keys (no_hanging_note calls all) ∙ bytes_fresh no_keys (none_held 16)

-- where the bytes are those that dm_held_fresh wrote, each pressed key was released
pub only_if_released_of_host : (calls : List KeyCall) → bytes_after_calls calls ≡ replicate 256 0 → AllReleased calls
unfolding after_calls
only_if_released_of_host calls ends =
    let said = keys_read_back (after_calls calls) (calls_shaped calls) in
    let fresh = keys_read_back no_keys (calls_shaped []) in
    only_if_released calls
    (sym said ∙ ap keys_of (sym (bytes_after calls) ∙ ends ∙ sym (bytes_fresh no_keys (none_held 16))) ∙ fresh)

-- at any point of any list the bytes do not tell whether a key was released by a note off or by a soft strike
pub either_release_of_host : (later earlier : List KeyCall) (channel k v off : ℕ) → v % 128 ≡ 0
    → bytes_after_calls (later ++ ((channel, m.NoteOn k v) ∷ earlier)) ≡ bytes_after_calls (later ++ ((channel, m.NoteOff k off) ∷ earlier))
either_release_of_host later earlier channel k v off h =
    bytes_after (later ++ ((channel, m.NoteOn k v) ∷ earlier)) ∙ ap bytes_of_keys (either_release later earlier channel k v off h)
    ∙ sym (bytes_after (later ++ ((channel, m.NoteOff k off) ∷ earlier)))
