-- Invariant: the blocks of the first `item` items are written.
use Rattle.terms.specs.Limits.{LABELS}
use Rattle.write.proofs.Tables.{Blocks, item_start}
use Rattle.write.proofs.write_labels.Given as goal

abbrev pub invariant-loop-item : goal.invariant-loop-item
invariant-loop-item l = Blocks l.rows item_start LABELS l.item l.initial.labels l.labels
