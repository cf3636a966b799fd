-- Invariant: the runs before `base` are exchanged, and `base` stands where the next begins.
use Rattle.transpose.proofs.Rounds.{span_then, span_all}
use native.Mathlib.Omega.{arith}
use Rattle.transpose.proofs.stage.Goals as goal

pub loop-base-preserved : goal.loop-base-preserved
loop-base-preserved c = (
  (c.requires.0.block _ c.loop-base-test.true c.loop-base.invariant.0).next,
  span_then _ _ c.requires.0 _ _ _ _ _ _ (omega arith) (omega arith) c.loop-base.invariant.1 c.block_pairs.ensures,
)

pub returns-2 : goal.returns-2
returns-2 c =
    span_all _ _ c.requires.0 _ _ _ (omega arith)
    (span_then _ _ c.requires.0 _ _ _ _ _ _ (omega arith) (omega arith) c.loop-base.invariant.1 c.block_pairs.ensures)
