-- A transposed square, laid: the lowest byte of each word has the eight kinds.
use Rattle.write.proofs.Tables.{bytes_part}
use Rattle.write.proofs.pair_part.Goals as goal

pub returns : goal.returns
returns c =
    bytes_part _ _ _ _ _ _ _ _ c.requires.3 c.transposed-square.ensures
    c.lay_bytes.ensures
