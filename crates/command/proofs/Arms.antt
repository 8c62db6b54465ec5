-- A command's variant, as `==` and a cast see it, told by its code and its place. What holds of every variant is tested once, over the list of
-- all commands.
use mathlib.Core.Path.{◌≡◌, refl}
use mathlib.Core.List.{map}
use lib.Dec.{eqb}
use denote.Enum.Bare.{sameb}
use denote.Enum.Declared.{tag_of}
use Rattle.command.specs.declared.Command.{Command}
use Rattle.command.specs.Command.{code_of, commands}
use Rattle.command.specs.contracts.Command.{the_type}
use Rattle.command.specs.quick.Place.{place_of}
use Rattle.command.proofs.Table.{same_at_every}

-- `==` on two commands compares their codes
pub same_by_code : (k j : Command) → sameb the_type k j ≡ eqb (code_of k) (code_of j)
same_by_code k j =
    same_at_every (λ i. sameb the_type k i) (λ i. eqb (code_of k) (code_of i))
    (same_at_every (λ h. map (λ i. sameb the_type h i) commands) (λ h. map (λ i. eqb (code_of h) (code_of i)) commands) refl k) j

-- the number that a cast of a command gives is its place
pub number_is_place : (k : Command) → tag_of the_type k ≡ place_of k
number_is_place k = same_at_every (λ j. tag_of the_type j) place_of refl k
