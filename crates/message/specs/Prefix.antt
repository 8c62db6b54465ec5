-- A payload's bytes ahead of its run, in wire order, from document 01's list of payloads: what each byte says, and its range.
use Rattle.std.specs.Prelude.{Bool, true, false, ◌&&◌, ◌||◌, List, [], ◌∷◌, ◌++◌, ℕ, suc, ltb, eqb, get_or}
use Rattle.laws.specs.Choice.{pick}
use Rattle.refusal.specs.Outcome.{Outcome, gives, unless}
use Rattle.command.specs.declared.Command.{Command}
use Rattle.command.specs.Command.{code_of}
use Rattle.command.specs.Payload as y
use Rattle.command.specs.Payload.{Field, payload_of}
use Rattle.message.specs.declared.fields.Fields.{Fields}

-- "08 v [pattern] run": one payload whose pattern number may be missing
abbrev pub optional : Command → Bool
optional k = eqb (code_of k) 0x08

-- the bytes ahead of the run, by what they say
abbrev pub field_list : Command → Bool → List Field
field_list k numbered = pick (optional k && numbered) ((payload_of k).fields ++ (y.pattern ∷ [])) (payload_of k).fields

-- a number for each kind of field, to tell them apart
abbrev pub tag : Field → ℕ
tag y.free = 0
tag y.version = 1
tag y.bank = 2
tag y.program = 3
tag y.pattern = 4
tag y.receive = 5
tag y.transmit = 6
tag y.interface = 7

-- the byte where a field stands first, among fields whose bytes begin at place i; 0 where it stands nowhere
abbrev pub value_of : Field → List Field → List ℕ → ℕ → ℕ
value_of f [] p i = 0
value_of f (g ∷ gs) p i = pick (eqb (tag f) (tag g)) (get_or p i 0) (value_of f gs p (suc i))

-- the byte where it stands for the second time: the last program of a range
abbrev pub second_of : Field → List Field → List ℕ → ℕ → ℕ
second_of f [] p i = 0
second_of f (g ∷ gs) p i = pick (eqb (tag f) (tag g)) (value_of f gs p (suc i)) (second_of f gs p (suc i))

-- the fields of a payload
abbrev pub fields_in : List Field → Bool → List ℕ → Fields
fields_in l has p = record {
  free = value_of y.free l p 0;
  version = value_of y.version l p 0;
  bank = value_of y.bank l p 0;
  program = value_of y.program l p 0;
  last = second_of y.program l p 0;
  pattern = value_of y.pattern l p 0;
  has_pattern = has;
  interface = value_of y.interface l p 0;
  rx = value_of y.receive l p 0;
  tx = value_of y.transmit l p 0;
}

-- the fields of a command's payload; the flag for a pattern's number is set for 08 alone
abbrev pub fields_at : Command → Bool → List ℕ → Fields
fields_at k numbered p = fields_in (field_list k numbered) (optional k && numbered) p

-- the bytes of some fields in wire order; the first program, then the last
abbrev pub wire : Bool → List Field → Fields → List ℕ
wire first [] f = []
wire first (y.free ∷ gs) f = f.free ∷ wire first gs f
wire first (y.version ∷ gs) f = f.version ∷ wire first gs f
wire first (y.bank ∷ gs) f = f.bank ∷ wire first gs f
wire first (y.program ∷ gs) f = pick first f.program f.last ∷ wire false gs f
wire first (y.pattern ∷ gs) f = f.pattern ∷ wire first gs f
wire first (y.receive ∷ gs) f = f.rx ∷ wire first gs f
wire first (y.transmit ∷ gs) f = f.tx ∷ wire first gs f
wire first (y.interface ∷ gs) f = f.interface ∷ wire first gs f

-- the bytes ahead of the run, from the fields that the command has; 08 has the pattern's number where the flag says so
abbrev pub prefix_of : Command → Fields → List ℕ
prefix_of k f = wire true (field_list k f.has_pattern) f

-- the range of each field
abbrev pub field_fits : Field → ℕ → Bool
field_fits y.free b = true
field_fits y.version b = eqb b 6 || eqb b 7
field_fits y.bank b = ltb b 8
field_fits y.program b = ltb b 128
field_fits y.pattern b = ltb b 32
field_fits y.receive b = true
field_fits y.transmit b = true
field_fits y.interface b = ltb b 3

-- the number of a field's refusal; three kinds take any byte and have none
abbrev pub field_refusal : Field → ℕ
field_refusal y.free = 0
field_refusal y.version = 8
field_refusal y.bank = 9
field_refusal y.program = 10
field_refusal y.pattern = 11
field_refusal y.receive = 0
field_refusal y.transmit = 0
field_refusal y.interface = 12

-- one field tested: its number with the byte where it is out of range
abbrev pub field_ok : {A : Type 0} → Field → ℕ → Outcome A → Outcome A
field_ok f b next = unless (field_fits f b) (field_refusal f) (b ∷ []) next

-- "fields in wire order"
abbrev pub checked : {A : Type 0} → List Field → List ℕ → ℕ → Outcome A → Outcome A
checked [] p i next = next
checked (f ∷ fs) p i next = field_ok f (get_or p i 0) (checked fs p (suc i) next)

-- do all fields fit?
abbrev pub all_fit : List Field → List ℕ → ℕ → Bool
all_fit [] p i = true
all_fit (f ∷ fs) p i = field_fits f (get_or p i 0) && all_fit fs p (suc i)

-- the fields that a command has, tested; "the writer neither checks nor writes" what it lacks
abbrev pub checked_fields : Command → Fields → Outcome Fields
checked_fields k f =
    checked (field_list k f.has_pattern) (prefix_of k f) 0 (gives (fields_at k f.has_pattern (prefix_of k f)))
