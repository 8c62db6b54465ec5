-- A command that was read stands for the byte that it was read from. Proved here since an `impl` of `OfByte` cites nothing of its own
-- crate's proofs/.
use Rattle.std.specs.Prelude.{◌≡◌, List, [], ◌∷◌, ℕ}
use Rattle.refusal.specs.Outcome.{gives}
use Rattle.refusal.proofs.Given.{given_not_refused, first_with}
use Rattle.command.specs.declared.Command.{Command}
use Rattle.command.specs.Command.{code_of, among}

pub read_code : (ks : List Command) (b : ℕ) (k : Command) → among ks b ≡ gives k → code_of k ≡ b
read_code [] b k e = absurd (given_not_refused k 6 (b ∷ []) e)
read_code (j ∷ js) b k e = first_with code_of j b (among js b) k (read_code js b k) e
