-- The checksum stays below its modulus.
use Rattle.std.proofs.Common.{◌<◌}
use Rattle.vectors.specs.declared.memory.TheConstants.{MODULUS}
use Rattle.vectors.proofs.memory.sum.Given as goal

abbrev pub invariant-loop-element : goal.invariant-loop-element
invariant-loop-element g l = l.sum < MODULUS
