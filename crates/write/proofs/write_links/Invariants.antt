-- Invariant: the blocks of the first `pair` pairs are written.
use Rattle.terms.specs.Limits.{KINDS}
use Rattle.write.proofs.Tables.{Blocks, pair_start}
use Rattle.write.proofs.write_links.Given as goal

abbrev pub invariant-loop-pair : goal.invariant-loop-pair
invariant-loop-pair l = Blocks l.rows pair_start KINDS l.pair l.initial.links l.links
