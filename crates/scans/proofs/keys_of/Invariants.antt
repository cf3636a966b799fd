-- The first keys are those of the first items, one more with each turn.
use Rattle.std.proofs.Common.{◌≡◌, length, take}
use Rattle.scans.specs.Keys.{Paired}
use Rattle.scans.proofs.keys_of.Given as goal

abbrev pub invariant-loop-i : goal.invariant-loop-i
invariant-loop-i g l = (length l.keys ≡ length l.initial.keys) × Paired (λ x k. goal.F-post g l.key x k) (take l.i l.items) (take l.i l.keys)
