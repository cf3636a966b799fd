-- The places passed are as they are read.
use Rattle.block.specs.Places.{ReadBy}
use Rattle.block.proofs.filled.Given as goal

abbrev pub invariant-loop-i : goal.invariant-loop-i
invariant-loop-i g l = ReadBy g.row.N l.i (λ i x. goal.F-post g l.read i x) l.places
