-- The packed run of document 01: "Seven raw bytes become eight. The first holds their top bits, raw byte i at bit i; then the
-- low seven bits of each."
use Rattle.std.specs.Prelude.{not, List, [], ◌∷◌, ℕ, zero, suc, ◌+◌, ◌*◌, ◌-◌, ◌/◌, ◌%◌, ◌^◌, ltb, eqb, length, get_or}
use Rattle.laws.specs.Choice.{pick}
use Rattle.laws.specs.Tabulate.{tab}
use Rattle.refusal.specs.Outcome.{Outcome, gives, unless, and_then, with_room}

-- eight bytes for each started group of seven
abbrev pub packed_length : ℕ → ℕ
packed_length n = 8 * ((n + 6) / 7)

-- the packed length as an answer: 22 where the machine cannot hold it
abbrev pub packed_length_of : ℕ → Outcome ℕ
packed_length_of n = unless (ltb (packed_length n) (2 ^ 64)) 22 [] (gives (packed_length n))

-- the top bits of n raw bytes from place p on, raw byte i at bit i. Behind the last raw byte stand zeros
unfoldable pub tops : List ℕ → ℕ → ℕ → ℕ
tops raw p zero = 0
tops raw p (suc i) = tops raw p i + get_or raw (p + i) 0 / 128 * 2 ^ i

-- byte r of the group whose raw bytes begin at place p: the top bits first, then seven bits of each raw byte
abbrev pub group_byte : List ℕ → ℕ → ℕ → ℕ
group_byte raw p r = pick (eqb r 0) (tops raw p 7) (get_or raw (p + (r - 1)) 0 % 128)

-- byte j of the packed run lies in group j / 8
abbrev pub packed_byte : List ℕ → ℕ → ℕ
packed_byte raw j = group_byte raw (7 * (j / 8)) (j % 8)

-- the packed run; "fills the last group with 00"
abbrev pub packed : List ℕ → List ℕ
packed raw = tab (packed_byte raw) (packed_length (length raw))

-- "7 times (n / 8) plus (r - 1, or 0 if r is 0), r = n mod 8"
abbrev pub unpacked_length : ℕ → ℕ
unpacked_length n = 7 * (n / 8) + (n % 8 - 1)

-- "r = 1 is refused": 13 with the length
abbrev pub unpacked_length_of : ℕ → Outcome ℕ
unpacked_length_of n = unless (not (eqb (n % 8) 1)) 13 (n ∷ []) (gives (unpacked_length n))

-- raw byte i of the group that begins at place p: the low seven bits of its data byte, below bit i of the group's first byte.
-- "ignores top bits of data bytes"
abbrev pub raw_byte : List ℕ → ℕ → ℕ → ℕ
raw_byte run p i = get_or run (p + 1 + i) 0 % 128 + 128 * (get_or run p 0 / 2 ^ i % 2)

-- raw byte k of an unpacked run lies in group k / 7
abbrev pub unpacked_byte : List ℕ → ℕ → ℕ
unpacked_byte run k = raw_byte run (8 * (k / 7)) (k % 7)

-- the raw bytes of a packed run, as many as its length gives; what fills a started group counts as raw
abbrev pub unpacked : List ℕ → List ℕ
unpacked run = tab (unpacked_byte run) (unpacked_length (length run))

-- packing: "22, then 14"
abbrev pub pack_write : List ℕ → ℕ → Outcome (List ℕ)
pack_write raw room = and_then (packed_length_of (length raw)) (λ n. with_room room (packed raw))

-- unpacking: "13, then 14"
abbrev pub unpack_write : List ℕ → ℕ → Outcome (List ℕ)
unpack_write run room = and_then (unpacked_length_of (length run)) (λ n. with_room room (unpacked run))
