-- The classes are those by the marks that were passed.
use Rattle.std.proofs.Common.{take}
use Rattle.joined.specs.Joining.{Classes}
use Rattle.joined.proofs.classes_of.Given as goal

abbrev pub invariant-loop-mark : goal.invariant-loop-mark
invariant-loop-mark l = Classes (take l.mark-index l.marks) l.classes
