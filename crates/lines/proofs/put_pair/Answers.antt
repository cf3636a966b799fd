-- A blank, an end, a colon and an end, one behind the other.
use mir.Syntax.{w32}
use mir.ValLaws.{to_z-of_z}
use Rattle.std.proofs.Common.{ap, arith}
use Rattle.terms.specs.Limits.{NO_TOP, NO_BOTTOM}
use Rattle.lines.specs.Lines.{end_text, pair_text}
use Rattle.lines.proofs.Laid.{laid_then, laid_as, end_behind}
use Rattle.lines.proofs.put_pair.Goals as goal

pub put_text-lower-requires : goal.put_text-lower-requires
put_text-lower-requires c = omega (arith, end_behind _ _ c.put_end-colon.ensures)

pub put_end-requires : goal.put_end-requires
put_end-requires c = omega (arith, end_behind _ _ c.put_end-colon.ensures)

pub returns : goal.returns
unfolding pair_text
returns c =
    let a = c.args in
    let behind = end_behind _ _ c.put_end-colon.ensures in
    let first = laid_as (ap (end_text NO_TOP) (to_z-of_z w32 a.top c.ranges.top)) c.put_end-colon.ensures in
    let last = laid_as (ap (end_text NO_BOTTOM) (to_z-of_z w32 a.bottom c.ranges.bottom)) c.put_end.ensures in
    laid_then c.put_text-upper.ensures
    (laid_then first (laid_then c.put_text-lower.ensures last (omega arith)) (omega (arith, first.place))) (omega arith)
