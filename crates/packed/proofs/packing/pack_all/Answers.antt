-- `pack_all` meets its contract: the whole groups, then the one that the raw bytes end in, where there is one.
use Rattle.packed.proofs.Groups.{packed_more}
use Rattle.packed.specs.Packed.{packed_byte, group_byte}
use Rattle.laws.specs.Window.{window}
use Rattle.laws.specs.Tabulate.{tab}
use lib.ListN.{length}
use native.Mathlib.Omega.{arith}
use Prim.Native.Nat.{ℕ, ◌+◌, ◌*◌, ◌/◌}
use mathlib.Core.List.{List}
use mathlib.Core.Path.{◌≡◌, ap, ◌∙◌}
use Rattle.packed.proofs.packing.pack_all.Goals as goal

pub returns-then-whole-groups : goal.returns-then-whole-groups
returns-then-whole-groups c =
    let asked = c.requires in
    let a = c.args in
    let whole = length a.raw.now / 7 in
    let all : 8 * whole + 8 ≡ 8 * a.groups = omega (arith, asked, c.if-whole-groups.true) in
    c.pack_last.ensures
    ∙ ap (λ (l : List ℕ). window l (8 * whole) (tab (group_byte a.raw.now (7 * whole)) 8)) c.pack_groups.ensures
    ∙ packed_more a.raw.now a.out.now whole (omega (arith, asked, c.if-whole-groups.true))
    ∙ ap (λ (n : ℕ). window a.out.now 0 (tab (packed_byte a.raw.now) n)) all
