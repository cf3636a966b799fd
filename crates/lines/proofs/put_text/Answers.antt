-- The part that is copied over is the text.
use Rattle.std.proofs.Common.{arith, refl}
use Rattle.lines.proofs.Laid.{mid_put}
use Rattle.lines.proofs.put_text.Goals as goal

pub returns : goal.returns
returns c = record { place = refl; bytes = mid_put _ _ _ _ _ c.copy_from_slice.ensures.after (omega arith) }
