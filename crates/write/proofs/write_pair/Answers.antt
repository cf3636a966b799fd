-- By the test: the rows are empty and so are the bytes, or four parts, one after the other.
use Rattle.write.proofs.Tables.{unused_part}
use Rattle.write.proofs.write_pair.Goals as goal

pub returns-then-unused : goal.returns-then-unused
returns-then-unused c =
    unused_part _ _ _ _ _ _ c.unused.ensures c.if-unused.true c.clear.ensures
