-- Two words set: the pair, and no other.
use Rattle.transpose.proofs.Rounds.{pair_done}
use Rattle.transpose.proofs.pair_at.Goals as goal

pub returns : goal.returns
returns c =
    pair_done _ _ c.requires.0 _ _ _ c.requires.1 c.requires.2
    c.requires.3 c.exchange-r.ensures
