-- By the count of the distinct keys.
use mathlib.Core.Path.{ap, ◌∙◌}
use Prim.Native.Nat.{ℕ}
use lib.Dec.{eqb}
use lib.ListN.{length}
use Rattle.keys.proofs.Scan.{distinct_once}
use Rattle.keys.proofs.once_keys.Goals as goal

pub returns : goal.returns
returns c =
    let k = c.args.keys.now in
    ap (λ (n : ℕ). eqb n (length k)) c.distinct_keys.ensures ∙ distinct_once k
