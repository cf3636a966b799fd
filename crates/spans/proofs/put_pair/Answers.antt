-- Two elements are set, one behind the other.
use native.Mathlib.Omega.{arith}
use mir.Facts.{to_z-of_z}
use mir.Syntax.{w32}
use mir.Val.{SFits}
use Rattle.std.proofs.Common.{rules}
use Rattle.spans.proofs.Steps.{two_set}
use Rattle.spans.proofs.put_pair.Goals as goal

pub returns : goal.returns
returns c =
    let top : SFits w32 c.args.span.top = search rules in
    let bottom : SFits w32 c.args.span.bottom = search rules in
    rw (to_z-of_z top, to_z-of_z bottom) (two_set _ _ _ _ (omega arith))
