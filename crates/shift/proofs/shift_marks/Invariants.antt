-- The first marks are moved, one more with each turn; the others are as they were.
use Rattle.std.proofs.Common.{◌≡◌, ◌++◌, map, take, drop}
use Rattle.shift.specs.Shifted.{shift_mark}
use Rattle.shift.proofs.shift_marks.Given as goal

abbrev pub invariant-loop-mark : goal.invariant-loop-mark
invariant-loop-mark l = l.mark-items ≡ map (shift_mark l.shift) (take l.mark-index l.fn.marks) ++ drop l.mark-index l.fn.marks
