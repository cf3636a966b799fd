-- The test of the kind picks the side of `mark_of`; the ends are those that were given. Assumes nothing.
use borrow.Author.Tests.{ne_eqb}
use mir.Syntax.{w32}
use mir.Val.{SFits}
use mir.ValLaws.{to_z-of_z}
use Rattle.places.specs.Read.{mark_of}
use Rattle.std.proofs.Common.{rules}
use Rattle.places.proofs.mark_of.Goals as goal

pub returns-then-kind-eq6 : goal.returns-then-kind-eq6
unfolding mark_of
returns-then-kind-eq6 c = let a = c.args in
    let f : SFits w32 a.top = search rules in
    let g : SFits w32 a.bottom = search rules in
    rw (c.if-kind-eq6.true, to_z-of_z w32 a.top f, to_z-of_z w32 a.bottom g)

pub returns-else-kind-eq6 : goal.returns-else-kind-eq6
unfolding mark_of
returns-else-kind-eq6 c = let a = c.args in
    let f : SFits w32 a.top = search rules in
    let g : SFits w32 a.bottom = search rules in
    rw (ne_eqb _ _ c.if-kind-eq6.false, to_z-of_z w32 a.top f, to_z-of_z w32 a.bottom g)
