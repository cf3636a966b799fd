-- A shift is a division by a power of two, and the mask takes its lowest bit.
use Rattle.words.proofs.Bits.{masked}
use Rattle.words.proofs.bit.Goals as goal

pub returns : goal.returns
returns c = masked _ _
