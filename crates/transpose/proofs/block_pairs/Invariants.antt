-- Invariant: the first `k` pairs of the block are exchanged.
use Rattle.transpose.specs.Transposed.{Span}
use Prim.Native.Nat.{◌+◌}
use Rattle.transpose.proofs.block_pairs.Given as goal

abbrev pub invariant-loop-k : goal.invariant-loop-k
invariant-loop-k l = Span l.step l.initial.square l.base (l.base + l.k) l.square
