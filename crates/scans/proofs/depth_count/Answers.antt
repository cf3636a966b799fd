-- The distinct keys of the ends of the first marks.
use mathlib.Core.Path.{◌∙◌}
use Rattle.scans.proofs.Keyed.{distinct_depths}
use Rattle.scans.proofs.depth_count.Goals as goal

pub returns : goal.returns
returns c =
    let k = c.depth_keys-keys.ensures in
    c.distinct_keys.ensures ∙ (rw k.are (distinct_depths _ k.fit))
