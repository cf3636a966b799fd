-- Bits are the same exactly if the depths are.
use mir.Syntax.{w32}
use mir.Val.{of_z, to_z}
use mir.ValLaws.{to_z-of_z}
use Rattle.std.proofs.Common.{◌≡◌, sym, ap, ◌∙◌}
use Rattle.lines.proofs.Spelled.{end_none, end_some}
use Rattle.lines.proofs.put_end.Goals as goal

pub returns-then-depth-none : goal.returns-then-depth-none
returns-then-depth-none c =
    let a = c.args in
    let r = c.ranges in
    let same : a.depth ≡ a.none = sym (to_z-of_z w32 a.depth r.depth) ∙ ap (to_z w32) c.if-depth-none.true ∙ to_z-of_z w32 a.none r.none in
    rw (end_none a.none a.depth same) c.put_text.ensures

pub returns : goal.returns
returns c =
    let a = c.args in
    rw (end_some a.none a.depth (λ e. c.if-depth-none.false (ap (of_z w32) e)))
    (rw (to_z-of_z w32 a.depth c.ranges.depth) at c.put_depth.ensures)
