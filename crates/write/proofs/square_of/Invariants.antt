-- Invariant: the first `k` words are read.
use Rattle.write.specs.Parts.{Square}
use Rattle.write.proofs.square_of.Given as goal

abbrev pub invariant-loop-k : goal.invariant-loop-k
invariant-loop-k l = Square l.rows l.start l.w l.k l.square
