-- A square read and transposed.
use Rattle.write.proofs.Squares.{columns_is}
use Rattle.write.proofs.transposed.Goals as goal

pub returns : goal.returns
returns c =
    columns_is _ _ _ _ _ _ c.requires.1 c.requires.2
    c.square_of-square.ensures c.transpose.ensures
