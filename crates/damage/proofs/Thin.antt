-- A caller whose call is the decoder's call, whatever form it keeps the state in: what its calls report is what single bytes report, from every
-- sound state; and what history says, from every state that a reset leaves.
use mathlib.Core.Path.{◌≡◌, refl, sym, ◌∙◌, ap, subst}
use mathlib.Core.Bool.{true}
use mathlib.Core.List.{List, []}
use Prim.Native.Nat.{ℕ, ◌≤◌}
use lib.ListN.{length, take}
use Rattle.refusal.specs.Outcome.{Outcome, gives, refused}
use Rattle.decoder.specs.declared.Decoder.{Decoder}
use Rattle.decoder.specs.State.{limit, sound, reset}
use Rattle.decoder.specs.Call.{Walked, walk, call, fed_of, store_of}
use Rattle.decoder.proofs.Calling.{short_refused, ready_walks}
use Rattle.damage.specs.Reported.{Reported}
use Rattle.damage.specs.Caller.{sole_caller, Call, CallLog, belonging, Made, Exactly}
use Rattle.damage.specs.Calls.{fed_count, fed_reports, fed_state, singly}
use Rattle.damage.specs.Meaning.{CallsMean}
use Rattle.damage.specs.Promises.{Promises}
use Rattle.damage.proofs.HistoryIsStep.{cleared_matches, history_is_step}
use Rattle.damage.proofs.OneCall.{walks}
use Rattle.damage.proofs.Hearing.{Hears, calls_hear}
use Rattle.damage.proofs.Promises.{promises}

-- what a decoder's call came to, as the caller sees it
pub record IsCall {State Answer : Type 0} (used : Answer → Outcome ℕ) (tells : Answer → List ℕ → List Reported) (kept : Decoder → State)
    (o : Outcome Walked) (d : Decoder) (store : List ℕ) (answer : Answer) (next : State) (left : List ℕ) : Type 0 where
  pub count : used answer ≡ fed_count (fed_of o)
  pub told : tells answer left ≡ fed_reports (fed_of o) (store_of o store)
  pub state : next ≡ kept (fed_state (fed_of o) d)
  pub store_is : left ≡ store_of o store

-- a thin caller of the decoder: it keeps a state in a form of its own, and each of its calls on a sound state is the decoder's call
pub record Thin {State Answer : Type 0} (contract : State → List ℕ → List ℕ → Answer → State → List ℕ → Type 0) (used : Answer → Outcome ℕ)
    (tells : Answer → List ℕ → List Reported) : Type 0 where
  pub kept : Decoder → State
  pub is_call : (d : Decoder) (store bytes : List ℕ) (answer : Answer) (next : State) (left : List ℕ) → sound d ≡ true
      → contract (kept d) store bytes answer next left → IsCall used tells kept (call d store bytes) d store answer next left

module _ {State Answer : Type 0} (contract : State → List ℕ → List ℕ → Answer → State → List ℕ → Type 0) (used : Answer → Outcome ℕ)
    (tells : Answer → List ℕ → List Reported) (x : Thin contract used tells) where
  -- the state stands for a sound decoder and the store is its store, which is long enough
  record Keeps (p : Decoder × List ℕ) (state : State) (store : List ℕ) : Type 0 where
    state_is : state ≡ x.kept p.0
    store_is : store ≡ p.1
    ok : sound p.0 ≡ true
    room : limit ≤ length p.1

  abbrev hears : Hears (sole_caller contract used tells)
  hears =
      record {
        Past = Decoder × List ℕ;
        says = λ (p : Decoder × List ℕ) (bytes : List ℕ). singly p.0 p.1 bytes;
        Holds = Keeps;
        fed =
            λ p state store n bytes answer next left held met. let d = p.0 in
            let w = walk d p.1 (take n bytes) in
            let b = walks n d p.1 bytes held.ok in
            let o : call d p.1 (take n bytes) ≡ gives w = ready_walks d p.1 (take n bytes) held.room held.ok in
            let k = x.is_call d p.1 (take n bytes) answer next left held.ok
            (subst (λ (s : State). contract s p.1 (take n bytes) answer next left) held.state_is
            (subst (λ (m : List ℕ). contract state m (take n bytes) answer next left) held.store_is met)) in
            record {
              count = w.fed.used;
              stops = b.used;
              used = k.count ∙ ap (λ (z : Outcome Walked). fed_count (fed_of z)) o;
              tells = ap (belonging w.fed.used) (k.told ∙ ap (λ (z : Outcome Walked). fed_reports (fed_of z) (store_of z p.1)) o) ∙ b.heard;
              later = (w.fed.state, w.store);
              rest = b.rest;
              holds =
                  record {
                    state_is = k.state ∙ ap (λ (z : Outcome Walked). x.kept (fed_state (fed_of z) d)) o;
                    store_is = k.store_is ∙ ap (λ (z : Outcome Walked). store_of z p.1) o;
                    ok = b.sound_after;
                    room = subst (λ (l : ℕ). limit ≤ l) (sym b.length_after) held.room;
                  };
            };
        short =
            λ p state store other bytes answer next left held small met. let d = p.0 in
            let o : call d other bytes ≡ refused 20 [] = short_refused d other bytes small in
            let k = x.is_call d other bytes answer next left held.ok (subst (λ (s : State). contract s other bytes answer next left) held.state_is met) in (
              k.count ∙ ap (λ (z : Outcome Walked). fed_count (fed_of z)) o,
              k.told ∙ ap (λ (z : Outcome Walked). fed_reports (fed_of z) (store_of z other)) o,
              record {
                state_is = k.state ∙ ap (λ (z : Outcome Walked). x.kept (fed_state (fed_of z) d)) o;
                store_is = held.store_is;
                ok = held.ok;
                room = held.room;
              },
            );
        others = λ p state store next left held nobody. absurd nobody;
      }

  -- chunking: from any sound state, in whatever pieces, what single bytes report
  pub thin_singly : (d : Decoder) (store bytes : List ℕ) → sound d ≡ true → limit ≤ length store
      → (cs : List (Call (sole_caller contract used tells))) (log : CallLog) → Made (sole_caller contract used tells) cs (x.kept d) store bytes log
      → Exactly cs (singly d store bytes) log
  thin_singly d store bytes ok room cs log made =
      calls_hear (sole_caller contract used tells) hears made (d, store)
      (record { state_is = refl; store_is = refl; ok = ok; room = room })

  -- from any state that a reset leaves, the fresh one too, what history says
  calls_mean : (d : Decoder) → CallsMean (sole_caller contract used tells) (x.kept (reset d))
  calls_mean d store room bytes cs log made =
      subst (λ (l : List (List Reported)). Exactly cs l log) (history_is_step [] (reset d) store bytes (cleared_matches d store room))
      (thin_singly (reset d) store bytes refl room cs log made)

  pub thin_promises : (d : Decoder) → Promises (sole_caller contract used tells) (x.kept (reset d))
  thin_promises d = promises (sole_caller contract used tells) (x.kept (reset d)) (calls_mean d)
