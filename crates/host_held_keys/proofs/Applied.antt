-- An entry point does to the bytes what the call below it does to the record that they say.
use Rattle.std.proofs.Common.{◌≡◌, ℕ, ◌<◌, List, [], ◌++◌, Some, length, drop, replicate, ap, sym, ◌∙◌, arith}
use Rattle.std.proofs.lemmas.List.{append-nil, length-replicate}
use lib.ListN.{drop_of_length-le}
use borrow.Author.Tests.{eq-eqb, lt-ltb}
use Rattle.refusal.specs.Outcome.{gives}
use Rattle.wire.specs.declared.channel_message.ChannelMessage.{ChannelMessage}
use Rattle.held_keys.specs.Record.{record_after, no_keys}
use Rattle.held_keys.specs.HeldBytes.{keys_of, bytes_of_keys}
use Rattle.held_keys.proofs.Keys.{none_held}
use Rattle.held_keys.proofs.Made.{after_shaped}
use Rattle.held_keys.proofs.bytes.RoundTrip.{bytes_fresh, keys_read_back, keys_shaped}
use Rattle.host_answer.specs.declared.Answer.{Answer}
use Rattle.host_answer.specs.Answer.{answer_of, Sends}
use Rattle.host_held_keys.specs.Held.{fresh_write, HeldSent}

-- a record with no key held: 256 bytes 00
pub fresh_written : (bytes later : List ℕ) (r : Answer) → length bytes ≡ 256 → later ≡ bytes_of_keys no_keys → r ≡ answer_of (gives 256)
    → Sends (fresh_write bytes) r bytes later
fresh_written bytes later r h l e =
    let zeros : List ℕ = replicate 256 0 in
    let behind : drop (length zeros) bytes ≡ [] = drop_of_length-le bytes {i = length zeros} (omega (arith, length-replicate {A = ℕ} 256 0, h)) in
    record {
      answers = rw (eq-eqb (length bytes) 256 h) e;
      leaves = rw (eq-eqb (length bytes) 256 h) (l ∙ bytes_fresh no_keys (none_held 16) ∙ sym (ap (λ (rest : List ℕ). zeros ++ rest) behind ∙ append-nil zeros));
    }

-- the bytes say afterwards what the record is after the message
pub said_afterwards : (x : ChannelMessage) (channel : ℕ) (r : Answer) (bytes later : List ℕ) → length bytes ≡ 256 → channel < 16
    → HeldSent (Some x) channel r bytes later → keys_of later ≡ record_after (keys_of bytes) channel x
said_afterwards x channel r bytes later h range s =
    let is : later ≡ bytes_of_keys (record_after (keys_of bytes) channel x) = s.leaves ∙ (rw (eq-eqb (length bytes) 256 h, lt-ltb channel 16 range)) in
    ap keys_of is
    ∙ keys_read_back (record_after (keys_of bytes) channel x) (after_shaped (keys_of bytes) channel x (keys_shaped bytes))
