-- The marks in use are moved, and the places behind them are as they were.
use mir.Facts.{to_z-of_z}
use Rattle.correction.proofs.Moved.{holds_moved}
use Rattle.correction.proofs.shifted.Goals as goal

pub returns : goal.returns
returns c =
    holds_moved c.args.state _ _ _ c.requires.counts_in
    (rw (to_z-of_z c.ranges.by) at c.shift_marks.ensures) (rw (to_z-of_z c.ranges.by) at c.hole_shifted-moved.ensures)
