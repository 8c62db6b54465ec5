-- What the six models differ in: 6 voices with 37 keys, 12 voices with 49 keys, or 12 voices and no keys (the Rust's ids).
use Rattle.std.specs.Prelude.{Bool, true, false, ℕ}
use Rattle.ids.specs.declared.model.Model.{Model}
use Rattle.ids.specs.declared.model.Model.TheVariants as m

-- how many voices a model has
abbrev pub voices : Model → ℕ
voices m.DeepMind6 = 6
voices m.DeepMind6X = 6
voices m.DeepMind12 = 12
voices m.DeepMind12X = 12
voices m.DeepMind12D = 12
voices m.DeepMind12XD = 12

-- the two desktop models have none
abbrev pub keyboard : Model → Bool
keyboard m.DeepMind6 = true
keyboard m.DeepMind6X = true
keyboard m.DeepMind12 = true
keyboard m.DeepMind12X = true
keyboard m.DeepMind12D = false
keyboard m.DeepMind12XD = false
