-- How many bytes a history still lacks of a message: a number that no byte lowers by more than one, because a status byte brings at most itself, and so
-- does a data byte; a real-time byte brings nothing.
use mathlib.Core.Path.{◌≡◌, refl}
use mathlib.Core.Bool.{Bool, true, false, ◌&&◌}
use mathlib.Core.List.{List, [], ◌∷◌, ◌++◌}
use Prim.Native.Nat.{ℕ, ◌+◌, ◌-◌, ◌%◌, ◌≤◌, ◌<◌}
use native.Mathlib.Omega.{arith}
use lib.Dec.{ltb, leb, eqb}
use lib.ListN.{length, length-append}
use borrow.Author.Tests.{ltb-true, ltb-false, le-ltb}
use Rattle.laws.specs.Choice.{pick}
use Rattle.laws.proofs.Tests.{by_test, split}
use Rattle.wire.specs.declared.system_common.SystemCommon.{SystemCommon}
use Rattle.wire.specs.declared.system_common.SystemCommon.TheVariants as y
use Rattle.wire.specs.ChannelMessage.{status_nibble, data_bytes}
use Rattle.wire.specs.SystemCommon.{common_bytes}
use Rattle.decoder.specs.declared.Class.{Class}
use Rattle.decoder.specs.declared.Class.TheVariants as k
use Rattle.damage.specs.Sent.{Message, Voice, Common, Frame, bytes_of}
use Rattle.damage.proofs.Ahead.{next_status, next_data}
use Rattle.damage.proofs.MessagesRead.{end_status, end_data}
use Rattle.running_status.proofs.ChannelStatus.{left_over}

-- of a status that serves once, with n data bytes of which k are there: the rest, and all again where none is left to come
abbrev pub missing_once : Bool → ℕ → ℕ → ℕ
missing_once here n k = pick (here && ltb k n) (n - k) (1 + n)

-- a system common message's status byte
abbrev pub common_byte : SystemCommon → ℕ
common_byte m = end_status (Common m)

-- how many data bytes a system common message has
abbrev pub common_size : SystemCommon → ℕ
common_size m = length (end_data (Common m))

-- how many bytes are missing of a message behind the last status byte v and the data bytes xs since
abbrev pub missing : ℕ → List ℕ → Message → ℕ
missing v xs (Voice c m) =
    pick (eqb v (status_nibble m + c.0)) (length (data_bytes m) - left_over (length (data_bytes m)) (length xs)) (1 + length (data_bytes m))
missing v xs (Common m) = missing_once (eqb v (common_byte m)) (common_size m) (length xs)
missing v xs (Frame ys) = pick (eqb v 0xF0) (length ys - length xs + 1) (length ys + 2)

-- a frame has two bytes more than stand between F0 and F7
pub frame_length : (ys : List ℕ) → length (bytes_of (Frame ys)) ≡ length ys + 2
frame_length ys = omega (arith, length-append ys (0xF7 ∷ []))

-- a system common message is its status byte and its data bytes
pub common_is_one_more : (m : SystemCommon) → length (common_bytes m) ≡ 1 + common_size m
common_is_one_more (y.TimeCodeQuarterFrame a) = refl
common_is_one_more (y.SongPosition a) = refl
common_is_one_more (y.SongSelect a) = refl
common_is_one_more y.TuneRequest = refl

-- of a status that serves once at most the whole message is lacking, and all its data bytes where none has come
pub once_at_most : (here : Bool) (n k : ℕ) → missing_once here n k ≤ 1 + n
once_at_most here n k = by_test (λ (z : ℕ). z ≤ 1 + n) (here && ltb k n) _ _ (λ e. omega arith) (λ e. omega arith)

once_at_least : (here : Bool) (n : ℕ) → n ≤ missing_once here n 0
once_at_least here n = by_test (λ (z : ℕ). n ≤ z) (here && ltb 0 n) _ _ (λ e. omega arith) (λ e. omega arith)

once_by_data : (here : Bool) (n k : ℕ) → missing_once here n k ≤ 1 + missing_once here n (k + 1)
once_by_data true n k =
    split (ltb k n)
    (λ (t : ltb k n ≡ true).
    let l : k < n = ltb-true k n t in
    rw t (by_test (λ (z : ℕ). n - k ≤ 1 + z) (ltb (k + 1) n) _ _ (λ e. omega arith) (λ e. omega arith)))
    (λ (f : ltb k n ≡ false).
    let l : n ≤ k = ltb-false k n f in
    rw (f, le-ltb (k + 1) n (omega arith)) (omega arith))
once_by_data false n k = omega arith

-- never more than the whole message
at_most_all : (v : ℕ) (xs : List ℕ) (m : Message) → missing v xs m ≤ length (bytes_of m)
at_most_all v xs (Voice c m) =
    by_test (λ (z : ℕ). z ≤ length (bytes_of (Voice c m))) (eqb v (status_nibble m + c.0)) _ _ (λ e. omega arith) (λ e. omega arith)
at_most_all v xs (Common m) = omega (arith, once_at_most (eqb v (common_byte m)) (common_size m) (length xs), common_is_one_more m)
at_most_all v xs (Frame ys) =
    by_test (λ (z : ℕ). z ≤ length (bytes_of (Frame ys))) (eqb v 0xF0) _ _ (λ e. omega (arith, frame_length ys)) (λ e. omega (arith, frame_length ys))

-- a status byte brings at most itself
all_but_status : (v : ℕ) (m : Message) → length (bytes_of m) ≤ 1 + missing v [] m
all_but_status v (Voice c m) =
    let n = length (data_bytes m) in
    by_test (λ (z : ℕ). length (bytes_of (Voice c m)) ≤ 1 + z) (eqb v (status_nibble m + c.0)) _ _
    (λ e. by_test (λ (w : ℕ). length (bytes_of (Voice c m)) ≤ 1 + (n - w)) (leb n 1) 0 (0 % 2) (λ l. omega arith) (λ l. omega arith))
    (λ e. omega arith)
all_but_status v (Common m) = omega (arith, once_at_least (eqb v (common_byte m)) (common_size m), common_is_one_more m)
all_but_status v (Frame ys) =
    by_test (λ (z : ℕ). length (bytes_of (Frame ys)) ≤ 1 + z) (eqb v 0xF0) _ _ (λ e. omega (arith, frame_length ys)) (λ e. omega (arith, frame_length ys))

-- a data byte brings at most itself
all_but_data : (v : ℕ) (xs : List ℕ) (b : ℕ) (m : Message) → missing v xs m ≤ 1 + missing v (xs ++ (b ∷ [])) m
all_but_data v xs b (Voice c m) =
    rw (length-append xs (b ∷ []))
    (split (eqb v (status_nibble m + c.0))
    (λ t. rw t (split (leb (length (data_bytes m)) 1) (λ l. rw l (omega arith)) (λ l. rw l (omega arith))))
    (λ f. rw f (omega arith)))
all_but_data v xs b (Common m) = rw (length-append xs (b ∷ [])) (once_by_data (eqb v (common_byte m)) (common_size m) (length xs))
all_but_data v xs b (Frame ys) = rw (length-append xs (b ∷ [])) (split (eqb v 0xF0) (λ t. rw t (omega arith)) (λ f. rw f (omega arith)))

-- no byte brings more than itself, behind whatever came before
pub one_byte_brings_one : (c : Class) (v : ℕ) (xs : List ℕ) (b : ℕ) (m : Message)
    → missing v xs m ≤ 1 + missing (next_status c v b) (next_data c xs b) m
one_byte_brings_one k.Data v xs b m = all_but_data v xs b m
one_byte_brings_one k.Held v xs b m = omega (arith, at_most_all v xs m, all_but_status b m)
one_byte_brings_one k.Start v xs b m = omega (arith, at_most_all v xs m, all_but_status b m)
one_byte_brings_one k.Undefined v xs b m = omega (arith, at_most_all v xs m, all_but_status b m)
one_byte_brings_one k.Tune v xs b m = omega (arith, at_most_all v xs m, all_but_status b m)
one_byte_brings_one k.End v xs b m = omega (arith, at_most_all v xs m, all_but_status b m)
one_byte_brings_one k.Realtime v xs b m = omega arith
