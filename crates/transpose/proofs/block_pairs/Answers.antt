-- Invariant: the first `k` pairs of the block are exchanged.
use Rattle.transpose.proofs.Rounds.{span_more, span_block}
use native.Mathlib.Omega.{arith}
use Rattle.transpose.proofs.block_pairs.Goals as goal

pub loop-k-preserved : goal.loop-k-preserved
loop-k-preserved c = span_more _ _ c.requires.0 _ _ _ _ _ c.loop-k.invariant c.pair_at.ensures

pub returns : goal.returns
returns c =
    span_block _ _ c.requires.0 _ _ _ _ (c.requires.0.block _ c.requires.1 c.requires.2) (omega arith) (omega arith) c.loop-k.invariant
