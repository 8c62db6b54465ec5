-- How a frame's payload is read, test by test: a short one by its length and fields; a dump by its version, its run's length and its fields.
use Rattle.std.specs.Prelude.{Bool, true, false, ◌&&◌, ◌||◌, not, List, [], ◌∷◌, ℕ, ◌+◌, ◌-◌, ◌%◌, ltb, leb, eqb, length, get_or}
use Rattle.laws.specs.Choice.{pick}
use Rattle.refusal.specs.Outcome.{Outcome, gives, unless}
use Rattle.command.specs.declared.Command.{Command}
use Rattle.command.specs.declared.Command.TheVariants as k
use Rattle.command.specs.Command.{code_of}
use Rattle.command.specs.Payload as y
use Rattle.command.specs.Payload.{Run, payload_of, raw_length_for, table_length, carries_run}
use Rattle.packed.specs.Packed.{packed_length, unpacked_length}
use Rattle.message.specs.declared.fields.Fields.{Fields}
use Rattle.message.specs.Prefix.{optional, field_list, fields_at, field_ok, checked}

-- "Accepted run lengths": the run can be unpacked, and holds the raw bytes and less than one group more
abbrev pub accepted : ℕ → ℕ → Bool
accepted raw n = not (eqb (n % 8) 1) && leb raw (unpacked_length n) && ltb (unpacked_length n) (raw + 7)

-- the raw bytes of a pattern, by the row of 08
abbrev pub pattern_raw : ℕ
pattern_raw = table_length (payload_of k.UserPatternDumpResponse).run

-- "Pattern, after v: 75-80 or 82 bytes mean no pattern number; 81 or 83 mean one", for a payload of n bytes with its version
abbrev pub numbered_by : ℕ → Bool
numbered_by n = not (accepted pattern_raw (n - 1)) && accepted pattern_raw (n - 2)

-- the bytes ahead of the run, a pattern's number not counted
abbrev pub prefix_length : Command → ℕ
prefix_length k = length (payload_of k).fields

-- how many payload bytes must be there before the version is looked at: "version missing (7)"; "For 0B and 0D both prefix bytes are
-- tested before the version"
abbrev pub early : Command → ℕ
early k = pick (eqb (code_of k) 0x0B || eqb (code_of k) 0x0D) 2 1

-- 7 where a length does not fit: it carries the command, the expected length and the one found
abbrev pub when_length : {A : Type 0} → Bool → Command → ℕ → List ℕ → Outcome A → Outcome A
when_length ok k expected p next = unless ok 7 (code_of k ∷ expected ∷ length p ∷ []) next

-- the fields in wire order, and what they say
abbrev pub read_fields : Command → Bool → List ℕ → Outcome Fields
read_fields k numbered p = checked (field_list k numbered) p 0 (gives (fields_at k numbered p))

-- "A short payload: length (7), then fields in wire order"
abbrev pub read_short : Command → List ℕ → Outcome Fields
read_short k p = when_length (eqb (length p) (prefix_length k)) k (prefix_length k) p (read_fields k false p)

-- a run of any length that unpacks: calibration
abbrev pub is_any : Run → Bool
is_any y.none = false
is_any y.program_data = false
is_any (y.fixed n) = false
is_any y.any = true

-- "run length (7; calibration 13)"; expected: "prefix plus 8 per started 7 raw (pattern 81)"
abbrev pub when_run : {A : Type 0} → Command → ℕ → List ℕ → Outcome A → Outcome A
when_run k v p next =
    pick (is_any (payload_of k).run) (unless (not (eqb ((length p - prefix_length k) % 8) 1)) 13 ((length p - prefix_length k) ∷ []) next)
    (when_length (accepted (raw_length_for k v) (length p - prefix_length k) || (optional k && numbered_by (length p))) k (prefix_length k + packed_length (raw_length_for k v)) p next)

-- behind the version v: "further prefix missing (7), run length (7; calibration 13), then b, p or pattern"
unfoldable pub read_run : Command → ℕ → List ℕ → Outcome Fields
read_run k v p =
    when_length (leb (prefix_length k) (length p)) k (prefix_length k) p (when_run k v p (read_fields k (numbered_by (length p)) p))

-- "A dump: version missing (7), version (8)", then the rest
abbrev pub read_dump : Command → List ℕ → Outcome Fields
read_dump k p = when_length (leb (early k) (length p)) k (prefix_length k) p (field_ok y.version (get_or p 0 0) (read_run k (get_or p 0 0) p))

-- "then payload": a dump where the command carries a run, else a short one
abbrev pub read_payload : Command → List ℕ → Outcome Fields
read_payload k p = pick (carries_run k) (read_dump k p) (read_short k p)
