-- Where the code finds a command's row.
use Rattle.std.specs.Prelude.{List, [], ◌∷◌, ℕ, suc, eqb}
use Rattle.laws.specs.Choice.{pick}
use Rattle.command.specs.declared.Command.{Command}
use Rattle.command.specs.Command.{code_of, commands}

-- how many of some commands stand ahead of the one with this code
abbrev pub ahead : List Command → ℕ → ℕ
ahead [] b = 0
ahead (j ∷ js) b = pick (eqb b (code_of j)) 0 (suc (ahead js b))

-- a command's place in the list of all, counted from 0
abbrev pub place_of : Command → ℕ
place_of k = ahead commands (code_of k)
