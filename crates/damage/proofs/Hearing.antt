-- Why a list of calls reports what its bytes report, whoever makes it: if one call does, and what is kept behind it stands for the bytes that
-- it used, then the next call goes on where it stopped.
use mathlib.Core.Path.{◌≡◌, refl, sym, ◌∙◌, ap, ap₂}
use mathlib.Core.List.{List, [], ◌∷◌, ◌++◌}
use Prim.Native.Nat.{ℕ, ◌+◌, ◌<◌}
use native.Mathlib.Nat.{zero-add}
use lib.ListN.{take, drop}
use lib.Seq.{take-add}
use Rattle.refusal.specs.Outcome.{Outcome, gives, refused}
use Rattle.decoder.specs.State.{limit}
use Rattle.damage.specs.Reported.{Reported}
use Rattle.damage.specs.Caller.{Caller, Call, give, lend_short, CallLog, bytes_used, belonging, Made, none, given, lent, meanwhile, total_used, up_to_report, paced, Exactly}

-- a call that gets n of the bytes to come, where each of these reports so: it uses them up to the first that reports, reports what that byte
-- reports, and leaves what the rest of them need
pub record CallHears (c : Caller) (Past : Type 0) (says : Past → List ℕ → List (List Reported)) (Holds : Past → c.State → c.Store → Type 0)
    (past : Past) (n : ℕ) (bytes : List ℕ) (answer : c.Answer) (next : c.State) (left : c.Store) : Type 0 where
  pub count : ℕ
  pub stops : count ≡ up_to_report (take n (says past bytes))
  pub used : c.used answer ≡ gives count
  pub tells : belonging count (c.tells answer left) ≡ take count (says past bytes)
  pub later : Past
  pub rest : says later (drop count bytes) ≡ drop count (says past bytes)
  pub holds : Holds later next left

-- what has to be shown of a caller. `Past` is whatever is known of the bytes ahead, `says` what the bytes to come then report, and `Holds` ties
-- it to what the caller keeps
pub record Hears (c : Caller) : Type 1 where
  pub Past : Type 0
  pub says : Past → List ℕ → List (List Reported)
  pub Holds : Past → c.State → c.Store → Type 0
  pub fed : (past : Past) (state : c.State) (store : c.Store) (n : ℕ) (bytes : List ℕ) (answer : c.Answer) (next : c.State) (left : c.Store)
      → Holds past state store → c.Contract state store (take n bytes) answer next left → CallHears c Past says Holds past n bytes answer next left
  pub short : (past : Past) (state : c.State) (store other : c.Store) (bytes : List ℕ) (answer : c.Answer) (next : c.State) (left : c.Store)
      → Holds past state store → c.size other < limit → c.Contract state other bytes answer next left
      → (c.used answer ≡ refused 20 []) × (c.tells answer left ≡ []) × Holds past next store
  pub others : (past : Past) (state : c.State) (store : c.Store) (next : c.State) (left : c.Store)
      → Holds past state store → c.Meanwhile state store next left → Holds past next left

-- a list of calls by a caller that hears its bytes reports, as far as bytes were used, exactly what the bytes say
pub calls_hear : (c : Caller) (x : Hears c) {cs : List (Call c)} {state : c.State} {store : c.Store} {bytes : List ℕ} {log : CallLog}
    → Made c cs state store bytes log → (past : x.Past) → x.Holds past state store → Exactly cs (x.says past bytes) log
unfolding paced
calls_hear c x none past held = (refl, refl)
calls_hear c x (given {n} {cs} {state} {store} {bytes} {log} answer next left met rest) past held =
    let coming = x.says past bytes in
    let r = x.fed past state store n bytes answer next left held met in
    let u = r.count in
    let used : bytes_used (c.used answer) ≡ u = ap bytes_used r.used in
    let ih = calls_hear c x rest r.later r.holds in
    let same : x.says r.later (drop (bytes_used (c.used answer)) bytes) ≡ drop u coming = ap (λ (v : ℕ). x.says r.later (drop v bytes)) used ∙ r.rest in
    let total = total_used log.answers in (
      ap (λ (v : ℕ). belonging v (c.tells answer left) ++ log.reports) used
          ∙ ap₂ (λ (a b : List (List Reported)). a ++ b) r.tells (ih.0 ∙ ap (take total) same)
          ∙ sym (take-add u total coming) ∙ ap (λ (v : ℕ). take (v + total) coming) (sym used),
      ap₂ (λ (a : Outcome ℕ) (b : List (Outcome ℕ)). a ∷ b) (r.used ∙ ap (λ (v : ℕ). gives v) r.stops)
          (ih.1 ∙ ap (paced cs) same ∙ ap (λ (v : ℕ). paced cs (drop v coming)) r.stops),
    )
calls_hear c x (lent {other} {others} {short} {cs} {state} {store} {bytes} {log} answer next left met rest) past held =
    let coming = x.says past bytes in
    let r = x.short past state store other others answer next left held short met in
    let ih = calls_hear c x rest past r.2 in
    let total = total_used log.answers in (
      ap₂ (λ (a : Outcome ℕ) (t : List Reported). belonging (bytes_used a) t ++ log.reports) r.0 r.1 ∙ ih.0
          ∙ ap (λ (v : ℕ). take v coming) (sym (zero-add total)) ∙ ap (λ (a : Outcome ℕ). take (bytes_used a + total) coming) (sym r.0),
      ap₂ (λ (a : Outcome ℕ) (b : List (Outcome ℕ)). a ∷ b) r.0 ih.1,
    )
calls_hear c x (meanwhile {cs} {state} {store} next left done rest) past held = calls_hear c x rest past (x.others past state store next left held done)

-- every call has an answer that meets its contract
abbrev pub AlwaysAnswers : Caller → Type 0
AlwaysAnswers c = (state : c.State) (store : c.Store) (bytes : List ℕ)
    → (answer : c.Answer) × (next : c.State) × (left : c.Store) × c.Contract state store bytes answer next left

-- lists of calls exist: where every call has an answer, every list can be made, from whatever state and over whatever store and bytes
pub made_exists : (c : Caller) → AlwaysAnswers c → (cs : List (Call c)) (state : c.State) (store : c.Store) (bytes : List ℕ) → (log : CallLog) × Made c cs state store bytes log
made_exists c x [] state store bytes = (record { answers = []; reports = [] }, none)
made_exists c x (give n ∷ cs) state store bytes =
    let a = x state store (take n bytes) in
    let rest = made_exists c x cs a.1 a.2 (drop (bytes_used (c.used a.0)) bytes) in
    (_, given a.0 a.1 a.2 a.3 rest.1)
made_exists c x (lend_short other others short ∷ cs) state store bytes =
    let a = x state other others in
    let rest = made_exists c x cs a.1 store bytes in
    (_, lent a.0 a.1 a.2 a.3 rest.1)
