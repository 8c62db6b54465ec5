-- The call of `dm_feed` on a sound state's bytes is the decoder's call: the bytes say the state, and the numbers of the answer say its count and
-- its reports.
use mathlib.Core.Path.{◌≡◌, refl, ◌∙◌, ap, ap₂, subst}
use mathlib.Core.Bool.{Bool, true, false}
use mathlib.Core.List.{List, []}
use Prim.Native.Nat.{ℕ, ◌≤◌, ◌<◌, ◌^◌}
use native.Mathlib.Omega.{arith}
use lib.ListN.{length, replicate}
use Rattle.laws.proofs.Tests.{split}
use Rattle.refusal.specs.Outcome.{Outcome, gives, refused, unless}
use Rattle.decoder.specs.declared.Decoder.{Decoder}
use Rattle.decoder.specs.State.{limit, sound, fresh, reset}
use Rattle.decoder.specs.Call.{Walked, walk, ready, call, store_of}
use Rattle.decoder.proofs.Limit.{limit_is}
use Rattle.decoder.proofs.SoundKept.{closed_part, open_part}
use Rattle.damage.specs.Caller.{Call, CallLog, Made, Exactly}
use Rattle.damage.specs.Condition3.{Condition3}
use Rattle.damage.specs.Promises.{Promises}
use Rattle.damage.specs.Calls.{singly}
use Rattle.damage.proofs.Hearing.{AlwaysAnswers, made_exists}
use Rattle.damage.proofs.Thin.{IsCall, Thin, thin_singly, thin_promises}
use Rattle.stream.specs.declared.FedAnswer.{FedAnswer}
use Rattle.stream.specs.State.{encoded, state_of}
use Rattle.stream.specs.Feed.{feed_call, fed_answer, state_after, StreamFed}
use Rattle.stream.proofs.StateBytes.{encoded_is_state, state_read_back}
use Rattle.host_damage.specs.Numbers.{numbers_tell, numbers_count}
use Rattle.host_damage.specs.HostCalls.{by_host}
use Rattle.host_damage.proofs.Named.{walk_named}
use Rattle.host_damage.proofs.NumbersTold.{numbers_told, numbers_counted}

-- a sound state's length fits its eight bytes
sound_length_fits : (d : Decoder) → sound d ≡ true → d.len < 2 ^ 64
sound_length_fits d h =
    split d.in_sysex
    (λ (e : d.in_sysex ≡ true). let o = open_part d h e in omega (arith, o.fits, limit_is))
    (λ (e : d.in_sysex ≡ false). omega (arith, (closed_part d h e).0))

-- a call on a sound state's bytes is a call on the state
same_call : (d : Decoder) (store bytes : List ℕ) → sound d ≡ true → feed_call (encoded d) store bytes ≡ call d store bytes
same_call d store bytes h =
    ap (λ (t : Bool). unless t 20 [] (call (state_of (encoded d)) store bytes)) (encoded_is_state d)
    ∙ ap (λ (e : Decoder). call e store bytes) (state_read_back d (sound_length_fits d h))

module _ (d : Decoder) (store bytes : List ℕ) (answer : FedAnswer) (next left : List ℕ) where
  abbrev FedIsCall : Outcome Walked → Type 0
  FedIsCall o = StreamFed o answer (encoded d) next store left → IsCall numbers_count numbers_tell encoded o d store answer next left

  fed_is : FedIsCall (gives (walk d store bytes))
  fed_is met =
      let w = walk d store bytes in
      let f = w.fed in
      record {
        count = ap numbers_count met.answers ∙ numbers_counted f.used f.interrupted f.report;
        told = ap₂ numbers_tell met.answers met.leaves ∙ numbers_told w.store f.used f.interrupted f.report (walk_named bytes d store);
        state = met.keeps;
        store_is = met.leaves;
      }

  refused_is : FedIsCall (refused 20 [])
  refused_is met =
      record {
        count = ap numbers_count met.answers;
        told = ap (λ (a : FedAnswer). numbers_tell a left) met.answers;
        state = met.keeps;
        store_is = met.leaves;
      }

  is_call : sound d ≡ true → StreamFed (feed_call (encoded d) store bytes) answer (encoded d) next store left
      → IsCall numbers_count numbers_tell encoded (call d store bytes) d store answer next left
  is_call ok met =
      split {P = FedIsCall (call d store bytes)} (ready d store) (λ t. rw t fed_is) (λ t. rw t refused_is)
      (subst (λ (o : Outcome Walked). StreamFed o answer (encoded d) next store left) (same_call d store bytes ok) met)

abbrev thin : Thin by_host.Contract by_host.used by_host.tells
thin = record { kept = encoded; is_call = is_call }

-- from every sound state's bytes, in whatever pieces, what single bytes report
pub by_host_singly : (d : Decoder) (store bytes : List ℕ) → sound d ≡ true → limit ≤ length store → (cs : List (Call by_host)) (log : CallLog)
    → Made by_host cs (encoded d) store bytes log → Exactly cs (singly d store bytes) log
by_host_singly = thin_singly by_host.Contract by_host.used by_host.tells thin

-- from the bytes of every state that a reset leaves
pub promises_by_host : (d : Decoder) → Promises by_host (encoded (reset d))
promises_by_host = thin_promises by_host.Contract by_host.used by_host.tells thin

-- CONDITION 3 for lists of `dm_feed` calls, from fourteen bytes 00
pub condition_3_of_host : Condition3 by_host (replicate 14 0)
condition_3_of_host = (promises_by_host fresh).condition_3

-- the contract has an answer to every call, also on bytes that are no state's, and so the calls can be made
answers : AlwaysAnswers by_host
answers state store bytes =
    let o = feed_call state store bytes in
    (fed_answer o, state_after o state, store_of o store, record { answers = refl; keeps = refl; leaves = refl })

pub by_host_exists : (cs : List (Call by_host)) (state store bytes : List ℕ) → (log : CallLog) × Made by_host cs state store bytes log
by_host_exists = made_exists by_host answers
