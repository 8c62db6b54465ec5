-- `count_held` meets its contract: as many bits of the channel's words are set as keys are held.
use Rattle.std.proofs.Common.{◌≡◌, ◌<◌, ℕ, [], get_or, ap, ◌∙◌, arith}
use borrow.Author.Tests.{lt-ltb}
use Rattle.refusal.specs.Outcome.{gives}
use Rattle.held_keys.specs.Record.{Shaped}
use Rattle.held_keys.proofs.Shape.{array_shaped}
use Rattle.held_keys.proofs.Counted.{channel_counted}
use Rattle.held_keys.proofs.count_held.Goals as goal

pub returns-in-Some : goal.returns-in-Some
returns-in-Some c =
    let a = c.args in
    let p : Shaped a.keys = array_shaped a.keys _ c.well_formed.0 in
    let found = c.in-Some.ensures.lookup.3 in
    let h : a.channel.0 < 16 = omega (arith, found.0, c.from.ensures, p.channels) in
    let words : c.in-Some.field-0.now ≡ get_or a.keys a.channel.0 [] = found.1 [] ∙ ap (λ (i : ℕ). get_or a.keys i []) c.from.ensures in
    rw (words, lt-ltb a.channel.0 16 h)
    (ap (λ (n : ℕ). gives n) (channel_counted a.keys a.channel.0 (p.bits a.channel.0 0 h (omega arith)) (p.bits a.channel.0 1 h (omega arith))))
