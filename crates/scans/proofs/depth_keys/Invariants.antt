-- The first keys are those of the ends of the first marks, two more with each turn.
use Rattle.std.proofs.Common.{◌≡◌, ◌*◌, length, take}
use Rattle.terms.specs.Held.{ends_of}
use Rattle.scans.specs.Keys.{depth_key, DepthFits, KeysOf}
use Rattle.scans.proofs.depth_keys.Given as goal

abbrev pub invariant-loop-i : goal.invariant-loop-i
invariant-loop-i l = (length l.keys ≡ 512) × KeysOf depth_key DepthFits (ends_of (take l.i l.marks)) (take (2 * l.i) l.keys)
