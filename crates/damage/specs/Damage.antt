-- One stretch of what was sent is replaced: what arrives, and what condition 3 asks for around the break.
use Rattle.std.specs.Prelude.{Bool, List, [], ◌∷◌, ◌++◌, ℕ, ◌+◌, take, drop}
use Rattle.laws.specs.Choice.{pick}
use Rattle.damage.specs.Reported.{Reported, report18}
use Rattle.damage.specs.Open.{past_after, open_at}
use Rattle.damage.specs.Sent.{Tag, bytes, intacts}

-- the bytes before the run; document 01's "run" is the n sent bytes from place i on, "any stretch of what is sent, empty or all of it"
abbrev pub before_run : ℕ → List Tag → List Tag
before_run i sent = take i sent

-- the bytes after the run
abbrev pub after_run : ℕ → ℕ → List Tag → List Tag
after_run i n sent = drop (i + n) sent

-- "What arrives is the bytes before the run, the new bytes, then the bytes after it"
abbrev pub arrives : ℕ → ℕ → List ℕ → List Tag → List ℕ
arrives i n new sent = bytes (before_run i sent) ++ (new ++ bytes (after_run i n sent))

-- from the first byte of the first message whose bytes all stand here: document 01's "wholly after". A message whose first byte
-- stands before the run or in it is none
abbrev pub from_first : List Tag → List Tag
from_first [] = []
from_first (t ∷ ts) = pick t.first (t ∷ ts) (from_first ts)

-- what stands ahead of the first message's first byte, or all where there is no such message
abbrev pub until_first : List Tag → List Tag
until_first [] = []
until_first (t ∷ ts) = pick t.first [] (t ∷ until_first ts)

-- the bytes whose reports document 01 calls "what the break causes": "all that arrives behind the bytes before the run and ahead of the
-- first message wholly after it, or up to the end where there is none"
abbrev pub break_bytes : ℕ → ℕ → List ℕ → List Tag → List ℕ
break_bytes i n new sent = new ++ bytes (until_first (after_run i n sent))

-- is a frame open where the first message wholly after the run begins?
abbrev pub open_there : ℕ → ℕ → List ℕ → List Tag → Bool
open_there i n new sent = open_at (past_after (past_after [] (bytes (before_run i sent))) (break_bytes i n new sent))

-- "Just ahead of these last that byte itself gives one report 18 exactly when a frame is open at it"; where no message follows there is none
abbrev pub led : Bool → List (List Reported) → List (List Reported)
led open-there [] = []
led open-there (x ∷ xs) = pick open-there (report18 ∷ x) x ∷ xs

-- condition 3's reports of all that arrives, byte by byte: "the intact reports of every byte before the run; what the break causes; the intact
-- reports of every byte from the first byte of the first message wholly after the run"
abbrev pub around_break : ℕ → ℕ → List ℕ → List Tag → List (List Reported) → List (List Reported)
around_break i n new sent caused =
    intacts (before_run i sent) ++ (caused ++ led (open_there i n new sent) (intacts (from_first (after_run i n sent))))
