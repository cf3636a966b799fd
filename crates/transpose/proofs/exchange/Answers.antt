-- Bit by bit: a mask keeps one side, and a shift moves the other.
use Rattle.transpose.proofs.Shifts.{exchanged}
use Rattle.transpose.proofs.exchange.Goals as goal

pub returns : goal.returns
returns c = exchanged _ _ _ _ c.requires
