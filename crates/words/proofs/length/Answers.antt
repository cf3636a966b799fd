-- The leading zeros of a word are 64 less its length.
use Rattle.words.proofs.Bits.{length_word}
use Rattle.words.proofs.length.Goals as goal

pub returns : goal.returns
returns c = length_word _ c.ranges.x.fits
