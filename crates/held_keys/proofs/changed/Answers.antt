-- `changed` meets its contract: one word is stored, with the key's bit as the effect has it.
use Rattle.std.proofs.Common.{sym, ◌∙◌}
use Rattle.held_keys.proofs.Shape.{array_shaped}
use Rattle.held_keys.proofs.Keys.{hold_after, release_after, nothing_after}
use Rattle.held_keys.proofs.changed.Goals as goal

pub returns-in-Hold : goal.returns-in-Hold
returns-in-Hold c =
    let a = c.args in
    rw c.from.ensures
    (hold_after a.keys (array_shaped a.keys _ c.well_formed.0) a.at c.in-Hold.key a.message c.requires (sym c.effect_of.ensures ∙ c.in-Hold.is))

pub returns-in-Release : goal.returns-in-Release
returns-in-Release c =
    let a = c.args in
    rw c.from-in-Release.ensures
    (release_after a.keys (array_shaped a.keys _ c.well_formed.0) a.at c.in-Release.key a.message c.requires (sym c.effect_of.ensures ∙ c.in-Release.is))

pub returns-in-Nothing : goal.returns-in-Nothing
returns-in-Nothing c =
    let a = c.args in
    nothing_after a.keys (array_shaped a.keys _ c.well_formed.0) a.at a.message c.requires (sym c.effect_of.ensures ∙ c.in-Nothing.is)
