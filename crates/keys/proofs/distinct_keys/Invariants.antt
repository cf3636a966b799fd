-- The count is that of the distinct keys from the place on, and the slots have those places.
use mathlib.Core.Path.{◌≡◌}
use Prim.Native.Nat.{◌≤◌}
use lib.ListN.{length, drop}
use Rattle.keys.specs.Search.{distinct}
use Rattle.keys.specs.Slots.{Slots}
use Rattle.keys.proofs.distinct_keys.Given as goal

abbrev pub invariant-loop-at : goal.invariant-loop-at
invariant-loop-at l = (l.at ≤ length l.keys) × (l.count ≡ distinct (drop l.at l.keys)) × Slots l.keys l.at l.slots
