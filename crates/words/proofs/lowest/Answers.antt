-- The trailing zeros of a word that is not 0 are its lowest set bit.
use Rattle.words.proofs.Bits.{lowest_word}
use Rattle.words.proofs.lowest.Goals as goal

pub returns : goal.returns
returns c = lowest_word _ c.requires c.ranges.x.fits
