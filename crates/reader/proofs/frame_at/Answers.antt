-- From the end on nothing is left; before it, what is left is passed to `frames::frame`.
use Rattle.std.proofs.Common.{sym, ap}
use lib.ListN.{drop_of_length-le}
use Rattle.frames.specs.Framing.{framed}
use Rattle.reader.proofs.frame_at.Goals as goal

pub returns-then-at-src : goal.returns-then-at-src
unfolding framed
returns-then-at-src c = ap framed (sym (drop_of_length-le c.args.src.now c.if-at-src.true))
