-- The bytes passed were compared.
use Rattle.std.proofs.Common.{◌≡◌, take}
use Rattle.block.specs.Block.{same_bytes}
use Rattle.block.proofs.is_copy.Given as goal

abbrev pub invariant-loop-at : goal.invariant-loop-at
invariant-loop-at l = l.same ≡ same_bytes (take l.at l.copy) (take l.at l.block)
