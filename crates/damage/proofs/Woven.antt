-- Real-time bytes among the messages change nothing but that they report themselves; and what is left of a sent stream from some
-- message's first byte on is again messages with real-time bytes among them.
use mathlib.Core.Path.{◌≡◌, refl, sym, ◌∙◌, ap, ap₂, subst}
use mathlib.Core.Bool.{Bool, true, false}
use mathlib.Core.List.{List, [], ◌∷◌, ◌++◌}
use mathlib.Core.Logic.{◌⊎◌, inl, inr}
use Prim.Native.Nat.{ℕ, zero, suc, ◌+◌, ◌/◌, ◌%◌, ◌≤◌, ◌<◌}
use native.Mathlib.Omega.{arith}
use lib.ListN.{drop}
use Rattle.laws.proofs.Tests.{both}
use borrow.Author.Tests.{ltb-true}
use Rattle.wire.specs.declared.system_common.SystemCommon.TheVariants as y
use Rattle.wire.specs.ChannelMessage.{status_nibble, data_bytes}
use Rattle.wire.specs.RealTime.{realtime_of}
use Rattle.wire.proofs.channel_message.Bytes.{nibble_range}
use Rattle.decoder.specs.declared.Class.TheVariants as k
use Rattle.decoder.specs.Step.{class_of}
use Rattle.decoder.specs.Reports.{Event}
use Rattle.decoder.proofs.Classes.{class_is, range_of}
use Rattle.damage.specs.Open.{last_status, data_since}
use Rattle.damage.specs.Reported.{Reported, heard_realtime}
use Rattle.damage.specs.History.{heard, meaning}
use Rattle.damage.specs.Sent.{Message, Voice, Common, Frame, bytes_of, sendable, all_sendable, event_of, Tag, tags, all_tagged, realtime_tag, Sent, nothing, own, between, bytes, intacts}
use Rattle.damage.specs.Damage.{from_first}
use Rattle.damage.proofs.Ahead.{status_and_data_after}
use Rattle.damage.proofs.MessagesRead.{Reads}

-- a real-time byte reports itself
pub realtime_heard : (v : ℕ) (xs : List ℕ) (b : ℕ) → 0xF8 ≤ b → heard v xs b ≡ heard_realtime (realtime_of b)
unfolding heard
realtime_heard v xs b h = rw (class_is b k.Realtime h)

-- what is read without real-time bytes is read with them
pub woven : {ts us : List Tag} → Sent ts us → (past : List ℕ) → Reads (last_status past) (data_since past) ts → meaning past (bytes us) ≡ intacts us
unfolding meaning
woven nothing past r = refl
woven (own {t} {ts} {us} w) past r =
    let same = status_and_data_after (class_of t.byte) past t.byte (range_of t.byte) in
    ap₂ (λ (x : List Reported) (rest : List (List Reported)). x ∷ rest) r.0 (woven w (t.byte ∷ past) (rw (same.0, same.1) r.1))
woven (between b {ts} {us} h w) past r =
    let same = status_and_data_after k.Realtime past b h in
    ap₂ (λ (x : List Reported) (rest : List (List Reported)). x ∷ rest) (realtime_heard (last_status past) (data_since past) b h)
    (woven w (b ∷ past) (rw (same.0, same.1) r))

-- the tags of what stands behind a place are sent too, with some of the messages' tags gone
pub sent_behind : {ts us : List Tag} → Sent ts us → (n : ℕ) → (j : ℕ) × Sent (drop j ts) (drop n us)
sent_behind nothing zero = (zero, nothing)
sent_behind nothing (suc n) = (zero, nothing)
sent_behind (own w) zero = (zero, own w)
sent_behind (own w) (suc n) = let r = sent_behind w n in (suc r.0, r.1)
sent_behind (between b h w) zero = (zero, between b h w)
sent_behind (between b h w) (suc n) = sent_behind w n

-- where the first message begins: nowhere, or at the same tag with and without real-time bytes
pub record Begins (ts us : List Tag) : Type 0 where
  pub head : Tag
  pub own_rest : List Tag
  pub rest : List Tag
  pub own_is : from_first ts ≡ head ∷ own_rest
  pub is : from_first us ≡ head ∷ rest
  pub sent : Sent own_rest rest

pub begins : {ts us : List Tag} → Sent ts us → (from_first us ≡ []) ⊎ Begins ts us
begins nothing = inl refl
begins (own {t} {ts} {us} w) = go t.first refl (begins w)
  where
    go : (f : Bool) → t.first ≡ f → (from_first us ≡ []) ⊎ Begins ts us → (from_first (t ∷ us) ≡ []) ⊎ Begins (t ∷ ts) (t ∷ us)
    go true e r = inr (record { head = t; own_rest = ts; rest = us; own_is = rw e; is = rw e; sent = w })
    go false e (inl n) = inl (rw e n)
    go false e (inr r) =
        inr (record { head = r.head; own_rest = r.own_rest; rest = r.rest; own_is = rw e r.own_is; is = rw e r.is; sent = r.sent })
begins (between b {ts} {us} h w) = go (begins w)
  where
    go : (from_first us ≡ []) ⊎ Begins ts us → (from_first (realtime_tag b ∷ us) ≡ []) ⊎ Begins ts (realtime_tag b ∷ us)
    go (inl n) = inl n
    go (inr r) = inr (record { head = r.head; own_rest = r.own_rest; rest = r.rest; own_is = r.own_is; is = r.is; sent = r.sent })

-- a message has a first byte, its own status byte: 80 to F6
pub record OwnStatus (m : Message) : Type 0 where
  pub status : ℕ
  pub behind : List ℕ
  pub is : bytes_of m ≡ status ∷ behind
  pub low : 0x80 ≤ status
  pub high : status < 0xF7

pub own_status : (m : Message) → sendable m ≡ true → OwnStatus m
own_status (Voice c m) ok =
    let range = nibble_range m in
    let in-channel : c.0 < 16 = ltb-true _ _ (both _ _ (both _ _ ok).0).0 in
    record { status = status_nibble m + c.0; behind = data_bytes m; is = refl; low = omega arith; high = omega arith }
own_status (Common (y.TimeCodeQuarterFrame a)) ok = record { status = 0xF1; behind = a ∷ []; is = refl; low = omega arith; high = omega arith }
own_status (Common (y.SongPosition a)) ok = record { status = 0xF2; behind = a % 128 ∷ a / 128 ∷ []; is = refl; low = omega arith; high = omega arith }
own_status (Common (y.SongSelect a)) ok = record { status = 0xF3; behind = a ∷ []; is = refl; low = omega arith; high = omega arith }
own_status (Common y.TuneRequest) ok = record { status = 0xF6; behind = []; is = refl; low = omega arith; high = omega arith }
own_status (Frame xs) ok = record { status = 0xF0; behind = xs ++ (0xF7 ∷ []); is = refl; low = omega arith; high = omega arith }

-- only the status byte of a message is its first
from_first_status : (e : Event) (b : ℕ) (bs : List ℕ) (rest : List Tag) → from_first (tags true e (b ∷ bs) ++ rest) ≡ tags true e (b ∷ bs) ++ rest
from_first_status e b [] rest = refl
from_first_status e b (x ∷ bs) rest = refl

behind_status : (e : Event) (b : ℕ) (bs : List ℕ) (rest : List Tag) (j : ℕ) → drop (suc j) (tags true e (b ∷ bs) ++ rest) ≡ drop j (tags false e bs ++ rest)
behind_status e b [] rest j = refl
behind_status e b (x ∷ bs) rest j = refl

over_data : (e : Event) (bs : List ℕ) (rest : List Tag) (j : ℕ) → (i : ℕ) × (from_first (drop j (tags false e bs ++ rest)) ≡ from_first (drop i rest))
over_data e [] rest j = (j, refl)
over_data e (b ∷ []) rest zero = (zero, refl)
over_data e (b ∷ []) rest (suc j) = (j, refl)
over_data e (b ∷ x ∷ bs) rest zero = over_data e (x ∷ bs) rest zero
over_data e (b ∷ x ∷ bs) rest (suc j) = over_data e (x ∷ bs) rest j

-- from the first message's status byte behind a place on, the tags are those of whole messages
pub record WholeMessages (ts : List Tag) : Type 0 where
  pub messages : List Message
  pub is : ts ≡ all_tagged messages
  pub ok : all_sendable messages ≡ true

pub whole_behind : (ms : List Message) → all_sendable ms ≡ true → (j : ℕ) → WholeMessages (from_first (drop j (all_tagged ms)))
whole_behind [] ok zero = record { messages = []; is = refl; ok = refl }
whole_behind [] ok (suc j) = record { messages = []; is = refl; ok = refl }
whole_behind (m ∷ ms) ok zero =
    let s = own_status m (both (sendable m) (all_sendable ms) ok).0 in
    record {
      messages = m ∷ ms;
      is = subst (λ (l : List ℕ). from_first (tags true (event_of m) l ++ all_tagged ms) ≡ tags true (event_of m) l ++ all_tagged ms) (sym s.is)
          (from_first_status (event_of m) s.status s.behind (all_tagged ms));
      ok = ok;
    }
whole_behind (m ∷ ms) ok (suc j) =
    let s = own_status m (both (sendable m) (all_sendable ms) ok).0 in
    let over = over_data (event_of m) s.behind (all_tagged ms) j in
    let next = whole_behind ms (both (sendable m) (all_sendable ms) ok).1 over.0 in
    record {
      messages = next.messages;
      is =
          ap from_first
          (ap (λ (l : List ℕ). drop (suc j) (tags true (event_of m) l ++ all_tagged ms)) s.is ∙ behind_status (event_of m) s.status s.behind (all_tagged ms) j)
          ∙ over.1 ∙ next.is;
      ok = next.ok;
    }

-- a message's first tag holds its status byte
abbrev head_byte : List Tag → ℕ
head_byte [] = 0
head_byte (t ∷ ts) = t.byte

head_status : (e : Event) (b : ℕ) (bs : List ℕ) (rest : List Tag) → head_byte (tags true e (b ∷ bs) ++ rest) ≡ b
head_status e b [] rest = refl
head_status e b (x ∷ bs) rest = refl

pub begins_with_status : (ms : List Message) → all_sendable ms ≡ true → (t : Tag) (ts : List Tag) → all_tagged ms ≡ t ∷ ts → (0x80 ≤ t.byte) × (t.byte < 0xF7)
begins_with_status [] ok t ts e = let z : ◌≡◌ {A = ℕ} 0 1 = cc in (omega arith, omega arith)
begins_with_status (m ∷ ms) ok t ts e =
    let s = own_status m (both (sendable m) (all_sendable ms) ok).0 in
    let low = s.low in
    let high = s.high in
    let same : t.byte ≡ s.status =
    sym (ap head_byte e) ∙ ap (λ (l : List ℕ). head_byte (tags true (event_of m) l ++ all_tagged ms)) s.is
    ∙ head_status (event_of m) s.status s.behind (all_tagged ms) in
    (omega arith, omega arith)
