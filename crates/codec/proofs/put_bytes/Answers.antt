-- A part that was written over, by what it is laid with.
use Rattle.std.proofs.Common.{arith}
use Rattle.codec.proofs.Laws.{part_put}
use Rattle.codec.proofs.put_bytes.Goals as goal

pub returns : goal.returns
returns c = rw c.copy_from_slice.ensures.after (part_put c.args.s.now c.args.part.now c.args.at _ (omega arith))
