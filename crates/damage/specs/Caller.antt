-- Lists of decoder calls, whoever makes them: what a caller is, the calls that it makes, and what they come to.
use Rattle.std.specs.Prelude.{◌≡◌, Bool, true, false, List, [], ◌∷◌, ◌++◌, ℕ, zero, suc, ◌+◌, ◌<◌, length, take, drop, replicate}
use Rattle.laws.specs.Choice.{pick}
use Rattle.refusal.specs.Outcome.{Outcome, gives, refused}
use Rattle.decoder.specs.State.{limit}
use Rattle.damage.specs.Reported.{Reported}

-- one kind of caller: what it keeps, what its call answers and promises, and what others may do
pub record Caller : Type 1 where
  -- the state that it keeps between two calls, and the store that it lends
  pub State : Type 0
  pub Store : Type 0
  -- how long the store is; where there are several, the shortest
  pub size : Store → ℕ
  -- what a call answers
  pub Answer : Type 0
  -- what the contract of a call says: of the state, the store and the bytes that it gets, its answer, and the state and the store that it leaves
  pub Contract : State → Store → List ℕ → Answer → State → Store → Type 0
  -- how many bytes an answer says it used, or its refusal
  pub used : Answer → Outcome ℕ
  -- an answer's reports, "a reported frame's bytes are the first bytes of the store at that answer"
  pub tells : Answer → Store → List Reported
  -- what others may do to state and store between two calls
  pub Meanwhile : State → Store → State → Store → Type 0

-- document 01's caller has one store, and "Nobody else writes state or store meanwhile"
abbrev pub sole_caller : {State Answer : Type 0} → (State → List ℕ → List ℕ → Answer → State → List ℕ → Type 0)
    → (Answer → Outcome ℕ) → (Answer → List ℕ → List Reported) → Caller
sole_caller {State} {Answer} contract used tells =
    record {
      State = State;
      Store = List ℕ;
      size = length;
      Answer = Answer;
      Contract = contract;
      used = used;
      tells = tells;
      Meanwhile = λ (state : State) (store : List ℕ) (next : State) (left : List ℕ). ⊥;
    }

-- a call gets "any number of the bytes that come next, none too", as many as are left where fewer are; or it is "lent another store, one too
-- short", with any bytes
pub data Call (c : Caller) : Type 0 where
  give : ℕ → Call c
  lend_short : (other : c.Store) (bytes : List ℕ) → c.size other < limit → Call c

-- what a list of calls comes to: each call's count of bytes used, or its refusal; and each used byte's reports
pub record CallLog : Type 0 where
  pub answers : List (Outcome ℕ)
  pub reports : List (List Reported)

-- a refused call "uses and reports nothing"
abbrev pub bytes_used : Outcome ℕ → ℕ
bytes_used (gives n) = n
bytes_used (refused n values) = 0

-- "Reports belong to the last byte that their call used"; those of a call that used none stand by themselves, and so are not hidden
abbrev pub belonging : ℕ → List Reported → List (List Reported)
belonging zero [] = []
belonging zero (x ∷ xs) = (x ∷ xs) ∷ []
belonging (suc n) xs = replicate n [] ++ (xs ∷ [])

-- a call in front of others
abbrev pub in_front : Outcome ℕ → List Reported → CallLog → CallLog
in_front used told log = record { answers = used ∷ log.answers; reports = belonging (bytes_used used) told ++ log.reports }

-- a list of calls that were made, whatever they answered, each of which met its contract. "Each call gets the state that the last one returned,
-- the same store as it was left", and bytes that come next: "What a call did not use is handed in again". A call that is lent another store
-- leaves this one as it was. "The list may stop anywhere"
pub data Made (c : Caller) : List (Call c) → c.State → c.Store → List ℕ → CallLog → Type 0 where
  none : {state : c.State} {store : c.Store} {bytes : List ℕ} → Made c [] state store bytes (record { answers = []; reports = [] })
  given : {n : ℕ} {cs : List (Call c)} {state : c.State} {store : c.Store} {bytes : List ℕ} {log : CallLog}
      (answer : c.Answer) (next : c.State) (left : c.Store) → c.Contract state store (take n bytes) answer next left
      → Made c cs next left (drop (bytes_used (c.used answer)) bytes) log
      → Made c (give n ∷ cs) state store bytes (in_front (c.used answer) (c.tells answer left) log)
  lent : {other : c.Store} {others : List ℕ} {short : c.size other < limit} {cs : List (Call c)} {state : c.State} {store : c.Store} {bytes : List ℕ} {log : CallLog}
      (answer : c.Answer) (next : c.State) (left : c.Store) → c.Contract state other others answer next left
      → Made c cs next store bytes log
      → Made c (lend_short other others short ∷ cs) state store bytes (in_front (c.used answer) (c.tells answer left) log)
  meanwhile : {cs : List (Call c)} {state : c.State} {store : c.Store} {bytes : List ℕ} {log : CallLog}
      (next : c.State) (left : c.Store) → c.Meanwhile state store next left
      → Made c cs next left bytes log
      → Made c cs state store bytes log

-- how many bytes all the calls used
abbrev pub total_used : List (Outcome ℕ) → ℕ
total_used [] = 0
total_used (a ∷ rest) = bytes_used a + total_used rest

-- does a byte report nothing?
abbrev pub is_silent : List Reported → Bool
is_silent [] = true
is_silent (x ∷ xs) = false

-- how many bytes it takes "up to the first that reports, or all"
abbrev pub up_to_report : List (List Reported) → ℕ
up_to_report [] = 0
up_to_report (x ∷ xs) = pick (is_silent x) (1 + up_to_report xs) 1

-- what the calls answer if the bytes to come report so: "unless refused, it uses them up to the first that reports, or all"; one that is
-- lent too short a store is "refused with 20"
unfoldable pub paced : {c : Caller} → List (Call c) → List (List Reported) → List (Outcome ℕ)
paced [] coming = []
paced (give n ∷ cs) coming = gives (up_to_report (take n coming)) ∷ paced cs (drop (up_to_report (take n coming)) coming)
paced (lend_short other others short ∷ cs) coming = refused 20 [] ∷ paced cs coming

-- "its reports are, as far as bytes were used, exactly these in order", byte by byte; and each call answers as it has to
abbrev pub Exactly : {c : Caller} → List (Call c) → List (List Reported) → CallLog → Type 0
Exactly cs these log = (log.reports ≡ take (total_used log.answers) these) × (log.answers ≡ paced cs these)
