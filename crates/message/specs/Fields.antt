-- Every field as a plain number: "A field or run that the command lacks is 0 or empty from the reader".
use Rattle.std.specs.Prelude.{Bool, false, ℕ}
use Rattle.laws.specs.Choice.{pick}
use Rattle.message.specs.declared.fields.Fields.{Fields}

-- the fields of each kind of message; what is not named is 0

-- 00: "one free byte"
abbrev pub free_fields : ℕ → Fields
free_fields r = record { free = r; version = 0; bank = 0; program = 0; last = 0; pattern = 0; has_pattern = false; interface = 0; rx = 0; tx = 0 }

-- the requests: bank, program, last program, and the number of the one pattern asked for (07). No request has them all
abbrev pub request_fields : ℕ → ℕ → ℕ → ℕ → Fields
request_fields b p l n = record { free = 0; version = 0; bank = b; program = p; last = l; pattern = n; has_pattern = false; interface = 0; rx = 0; tx = 0 }

-- the dumps but a pattern's: version, bank, program
abbrev pub dump_fields : ℕ → ℕ → ℕ → Fields
dump_fields v b p = record { free = 0; version = v; bank = b; program = p; last = 0; pattern = 0; has_pattern = false; interface = 0; rx = 0; tx = 0 }

-- 08: version, and the pattern's number where there is one, else 0
abbrev pub pattern_fields : ℕ → ℕ → Bool → Fields
pattern_fields v n has = record { free = 0; version = v; bank = 0; program = 0; last = 0; pattern = pick has n 0; has_pattern = has; interface = 0; rx = 0; tx = 0 }

-- 10: "rx, tx, interface (0, 1, 2), b, p"
abbrev pub notify_fields : ℕ → ℕ → ℕ → ℕ → ℕ → Fields
notify_fields r t i b p = record { free = 0; version = 0; bank = b; program = p; last = 0; pattern = 0; has_pattern = false; interface = i; rx = r; tx = t }
