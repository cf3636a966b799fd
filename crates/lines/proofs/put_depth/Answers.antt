-- A depth by its size, behind a sign where it is below 0.
use mir.Syntax.{w32}
use mir.ValLaws.{to_z-of_z}
use Rattle.std.proofs.Common.{◌≡◌, ap, ◌∙◌, unsigned_abs, arith}
use Rattle.lines.proofs.Laid.{laid_then}
use Rattle.lines.proofs.Spelled.{signed_below, signed_from}
use Rattle.lines.proofs.put_depth.Goals as goal

pub returns-then-depth-lt0 : goal.returns-then-depth-lt0
returns-then-depth-lt0 c =
    let depth = c.args.depth in
    let as_read = to_z-of_z w32 depth c.ranges.depth in
    let size : c.from-size.result ≡ unsigned_abs depth = c.from-size.ensures ∙ c.unsigned_abs.ensures.value ∙ ap unsigned_abs as_read in
    rw (signed_below depth (rw as_read at c.if-depth-lt0.true), ← size) (laid_then c.put_text-digits.ensures c.put_number.ensures (omega arith))

pub returns : goal.returns
returns c =
    let depth = c.args.depth in
    let as_read = to_z-of_z w32 depth c.ranges.depth in
    let size : c.from-size.result ≡ unsigned_abs depth = c.from-size.ensures ∙ c.unsigned_abs.ensures.value ∙ ap unsigned_abs as_read in
    rw (signed_from depth (rw as_read at c.if-depth-lt0.false), ← size) c.put_number-2.ensures
