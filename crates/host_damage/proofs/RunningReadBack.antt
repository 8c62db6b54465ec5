-- What a host sends by dm_running_* calls is what the writer sends by its own, because each call that is answered with 0 is a call of the writer on the
-- state that the bytes say, and every other leaves all bytes. So dm_feed reads it back, as the decoder does.
use Rattle.std.specs.Prelude.{None, Ok, Option, Some}
use mathlib.Core.Path.{◌≡◌, refl, sym, ◌∙◌, ap, subst}
use mathlib.Core.Bool.{Bool, true}
use mathlib.Core.List.{List, [], ◌++◌}
use Prim.Native.Nat.{ℕ}
use native.Mathlib.Omega.{arith}
use lib.Dec.{leb}
use lib.ListN.{length, replicate}
use borrow.Author.Tests.{ne_eqb, leb-true}
use Rattle.laws.proofs.Tests.{both}
use Rattle.refusal.specs.Outcome.{Outcome, gives, refused, unless, answered, after, count_of}
use Rattle.refusal.proofs.Numbered.{in_table, numbered}
use Rattle.decoder.specs.State.{fresh}
use Rattle.stream.specs.State.{encoded}
use Rattle.running_status.specs.declared.Emitted.{Emitted}
use Rattle.running_status.specs.RunningStatus.{is_running, Item, state_behind, Handed, item_handed, handed_out, emitted_of, Emits}
use Rattle.running_status.specs.Chain.{items_fit}
use Rattle.running_status.specs.StateBytes.{running_bytes, says_running, running_of}
use Rattle.running_status.specs.Sending.{state_kept, gone_out, items_accepted, Sending}
use Rattle.running_status.specs.Sending as g
use Rattle.running_status.specs.ReadBack.{SameMessages, ReadsBack, NoShorter}
use Rattle.running_status.proofs.Numbered.{handed_numbered}
use Rattle.running_status.proofs.Sends.{accepted_writes, sending_is_chain, IsChain, written_is_chain}
use Rattle.running_status.proofs.StateBytes.{running_said, bytes_say_running}
use Rattle.running_status.proofs.ReadBack.{same_messages, reads_back}
use Rattle.running_status.proofs.CanBeSent.{every_list_is_sent}
use Rattle.running_status.proofs.Reached.{reached_is_running}
use Rattle.running_status.proofs.Minimal.{no_shorter_read}
use Rattle.host_answer.specs.declared.Answer.{Answer}
use Rattle.host_answer.specs.Answer.{answer_of}
use Rattle.host_running_status.specs.Running.{host_out, host_behind, called_out, running_after_call, RunningSent, HandedSent}
use Rattle.host_damage.specs.HostCalls.{by_host}
use Rattle.host_damage.specs.RunningCalls.{items_told, bytes_told, HostSending, no_call, one_call, WrittenByHost}
use Rattle.host_damage.proofs.Condition3OfHost.{promises_by_host}

-- a number of document 01's table is not 0, by which a host tells that a call was done
in_table_not_0 : (n : ℕ) → in_table n ≡ true → n ≡ 0 → ⊥
in_table_not_0 n h z = omega (arith, leb-true 1 n (both (leb 1 n) (leb n 22) h).0, z)

-- what is to be found: calls of the writer that send the same, and leave the state whose bytes the host's calls leave
abbrev SentToo : Option ℕ → List Item → List ℕ → List ℕ → Type 0
SentToo st is bytes left = (last : Option ℕ) × Sending st is bytes last × (left ≡ running_bytes last)

module _ (st : Option ℕ) (fine : is_running st ≡ true) (answer : Answer) (left out later : List ℕ) (is : List Item) (bytes end : List ℕ)
    (rest : (next : Option ℕ) → left ≡ running_bytes next → is_running next ≡ true → SentToo next is bytes end) where
  -- a call that was refused sends nothing, and leaves the state's bytes
  nothing_sent : (x : Option Handed) (n : ℕ) (values : List ℕ) (next : Option ℕ) → (n ≡ 0 → ⊥)
      → RunningSent (refused n values) next answer (running_bytes st) left out later
      → SentToo st (items_told answer x ++ is) (bytes_told answer later ++ bytes) end
  nothing_sent x n values next high met = rw (met.sends.answers, ne_eqb n 0 high) (rest st met.keeps fine)

  -- a call of the writer with what the host's call is handed
  writer_call : (h : Handed) (a : Outcome (List ℕ)) → handed_out st h (length out) ≡ a → numbered a ≡ true
      → RunningSent a (state_behind st (item_handed h)) answer (running_bytes st) left out later
      → SentToo st (items_told answer (Some h) ++ is) (bytes_told answer later ++ bytes) end
  writer_call h (gives w) e in-table met =
      let next = state_behind st (item_handed h) in
      let behind = rest next met.keeps (accepted_writes st h (length out) w fine e).1 in
      let emits : Emits st h (Ok (record { count = length w; state = next })) out later = record { answers = rw e; leaves = rw e met.sends.leaves } in
      rw met.sends.answers (behind.0, g.one_call {st = st} h out later (Ok (record { count = length w; state = next })) emits behind.1, behind.2)
  writer_call h (refused n values) e in-table met =
      nothing_sent (Some h) n values _ (in_table_not_0 n in-table) met

  any_call : (x : Option Handed) → RunningSent (host_out st x (length out)) (host_behind st x) answer (running_bytes st) left out later
      → SentToo st (items_told answer x ++ is) (bytes_told answer later ++ bytes) end
  any_call (Some h) met = writer_call h _ refl (handed_numbered st h (length out)) met
  any_call None met = nothing_sent None 255 [] st (λ z. omega arith) met

-- a call on the bytes that say a state is a call on that state
on_the_state : (st : Option ℕ) → is_running st ≡ true → (x : Option Handed) (room : ℕ)
    → (called_out (running_bytes st) x room ≡ host_out st x room) × (host_behind (running_of (running_bytes st)) x ≡ host_behind st x)
on_the_state st fine x room = (
  ap (λ (t : Bool). unless t 20 [] (host_out (running_of (running_bytes st)) x room)) (bytes_say_running st ∙ fine)
      ∙ ap (λ (s : Option ℕ). host_out s x room) (running_said st),
  ap (λ (s : Option ℕ). host_behind s x) (running_said st),
)

-- whatever a host's calls sent, some calls of the writer send
pub sent_by_writer : {state last : List ℕ} {is : List Item} {bytes : List ℕ} → HostSending state is bytes last → (st : Option ℕ) → state ≡ running_bytes st
    → is_running st ≡ true → SentToo st is bytes last
sent_by_writer no_call st e fine = (st, g.no_call, e)
sent_by_writer (one_call {state} {last} {is} {bytes} x answer left out later met calls) st e fine =
    let same = on_the_state st fine x (length out) in
    let on_bytes : HandedSent x answer (running_bytes st) left out later = subst (λ (s : List ℕ). HandedSent x answer s left out later) e met in
    any_call st fine answer left out later is bytes last (λ next k ok. sent_by_writer calls next k ok) x
    (subst (λ (b : Option ℕ). RunningSent (host_out st x (length out)) b answer (running_bytes st) left out later) same.1
    (subst (λ (a : Outcome (List ℕ)). RunningSent a (host_behind (running_of (running_bytes st)) x) answer (running_bytes st) left out later) same.0 on_bytes))

-- the state's bytes stay a state's: 20 never comes in a list of calls that began with dm_running_fresh
pub state_stays : {last : List ℕ} {is : List Item} {bytes : List ℕ} → HostSending (running_bytes None) is bytes last → says_running last ≡ true
state_stays calls =
    let too = sent_by_writer calls None refl refl in
    ap says_running too.2 ∙ bytes_say_running too.0 ∙ reached_is_running too.1

-- a host's call with what a call of the writer is handed
module _ (st : Option ℕ) (fine : is_running st ≡ true) (h : Handed) (out : List ℕ) (is : List Item) (bytes end : List ℕ) where
  abbrev next : Option ℕ
  next = state_behind st (item_handed h)

  meets : (a : Outcome (List ℕ)) → handed_out st h (length out) ≡ a
      → HandedSent (Some h) (answer_of (count_of a)) (running_bytes st) (running_after_call a next (running_bytes st)) out (after a out)
  meets a e =
      let same = on_the_state st fine (Some h) (length out) in
      let left = running_after_call a next (running_bytes st) in
      let out_of = called_out (running_bytes st) (Some h) (length out) in
      subst (λ (b : Option ℕ). RunningSent out_of b (answer_of (count_of a)) (running_bytes st) left out (after a out)) (sym same.1)
      (subst (λ (o : Outcome (List ℕ)). RunningSent o next (answer_of (count_of a)) (running_bytes st) left out (after a out)) (sym (same.0 ∙ e))
      (record { sends = record { answers = refl; leaves = refl }; keeps = refl }))

  host_call : (a : Outcome (List ℕ)) → handed_out st h (length out) ≡ a → numbered a ≡ true
      → HostSending (running_bytes (state_kept (emitted_of a next) st)) is bytes end
      → HostSending (running_bytes st) (items_accepted (emitted_of a next) h ++ is) (gone_out (emitted_of a next) (after a out) ++ bytes) end
  host_call (gives w) e in-table rest = one_call (Some h) (answer_of (gives (length w))) (running_bytes next) out (after (gives w) out) (meets (gives w) e) rest
  host_call (refused n values) e in-table rest =
      let sent = one_call (Some h) (answer_of (refused n values)) (running_bytes st) out out (meets (refused n values) e) rest in
      rw (ne_eqb n 0 (in_table_not_0 n in-table)) at sent

-- whatever the writer's calls send, some calls of a host send
pub sent_by_host : {st last : Option ℕ} {is : List Item} {bytes : List ℕ} → Sending st is bytes last → is_running st ≡ true
    → HostSending (running_bytes st) is bytes (running_bytes last)
sent_by_host g.no_call fine = no_call
sent_by_host (g.one_call {st} {last} {is} {bytes} h out later answer met calls) fine =
    let o = handed_out st h (length out) in
    let next = state_behind st (item_handed h) in
    let kept : is_running (state_kept (answered answer) st) ≡ true = (sending_is_chain (g.one_call {st = st} h out later answer met g.no_call) fine).1 in
    let rest = sent_by_host calls kept in
    let end = running_bytes last in
    let Sends : Outcome Emitted → List ℕ → Type 0 =
    λ (a : Outcome Emitted) (l : List ℕ). HostSending (running_bytes st) (items_accepted a h ++ is) (gone_out a l ++ bytes) end in
    subst (λ (a : Outcome Emitted). Sends a later) (sym met.answers)
    (subst (λ (l : List ℕ). Sends (emitted_of o next) l) (sym met.leaves)
    (host_call st fine h out is bytes end o refl (handed_numbered st h (length out))
    (subst (λ (a : Outcome Emitted). HostSending (running_bytes (state_kept a st)) is bytes end) met.answers rest)))

-- every list of messages in range can be sent by a host's calls
pub every_list_is_sent_by_host : (is : List Item) → items_fit is ≡ true → (bytes : List ℕ) × WrittenByHost is bytes
every_list_is_sent_by_host is fit =
    let sent = every_list_is_sent None refl is fit in
    (sent.0, (running_bytes sent.1, sent_by_host sent.2 refl))

-- what a host's calls wrote is the chain
host_is_chain : IsChain WrittenByHost
host_is_chain is bytes w = let too = sent_by_writer w.1 None refl refl in written_is_chain is bytes (too.0, too.1)

-- READ-BACK for lists of entry points' calls: what dm_running_* wrote, dm_feed reads back, from fourteen bytes 00
pub same_messages_to_host : SameMessages WrittenByHost by_host (replicate 14 0)
same_messages_to_host = same_messages WrittenByHost host_is_chain by_host (encoded fresh) (promises_by_host fresh).calls_mean

-- READ-BACK byte by byte for lists of entry points' calls
pub reads_back_to_host : ReadsBack WrittenByHost by_host (replicate 14 0)
reads_back_to_host = reads_back WrittenByHost host_is_chain by_host (encoded fresh) (promises_by_host fresh).calls_mean

-- MINIMALITY for lists of entry points' calls: no list of dm_feed calls reads shorter bytes as the same messages
pub no_shorter_to_host : NoShorter WrittenByHost by_host (replicate 14 0)
no_shorter_to_host = no_shorter_read WrittenByHost host_is_chain by_host (encoded fresh) (promises_by_host fresh).calls_mean
