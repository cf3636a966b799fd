-- Each step is behind the last one.
use Rattle.std.proofs.Common.{length, ◌-◌, ◌≤◌}
use Rattle.vectors.proofs.run.Given as goal

abbrev pub invariant-loop-place : goal.invariant-loop-place
invariant-loop-place g l = (l.place.number ≤ l.place.at) × (l.place.at ≤ length l.script)

abbrev pub decreases-loop-place : goal.decreases-loop-place
decreases-loop-place g l = length l.script - l.place.at
