-- The number stands behind the word.
use Rattle.std.proofs.Common.{arith}
use Rattle.lines.proofs.Laid.{laid_then}
use Rattle.lines.proofs.put_counted.Goals as goal

pub returns : goal.returns
returns c = laid_then c.put_text-next.ensures c.put_number.ensures (omega arith)
