-- Invariant: the first `k` bytes are laid.
use Rattle.write.specs.Parts.{Laid, bytes_of}
use Rattle.write.proofs.lay_bytes.Given as goal

abbrev pub invariant-loop-k : goal.invariant-loop-k
invariant-loop-k l = Laid (bytes_of l.square) l.base l.k l.initial.links l.links
