-- The sum is the definition, and each part of it fits.
use Rattle.scans.specs.Keys.{packed_fields}
use Rattle.scans.proofs.pack.Goals as goal

pub returns : goal.returns
unfolding packed_fields
returns c = rw (c.from.ensures, c.from-2.ensures, c.from-3.ensures, c.from-4.ensures, c.from-5.ensures)
