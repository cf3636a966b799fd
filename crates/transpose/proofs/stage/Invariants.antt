-- Invariant: the runs before `base` are exchanged, and `base` stands where the next begins.
use Rattle.transpose.specs.Transposed.{Span}
use mathlib.Core.Path.{◌≡◌}
use Prim.Native.Nat.{◌+◌, ◌-◌, ◌%◌}
use Rattle.transpose.proofs.stage.Given as goal

abbrev pub invariant-loop-base : goal.invariant-loop-base
invariant-loop-base l = (l.base % (l.step + l.step) ≡ 0) × Span l.step l.initial.square 0 l.base l.square

abbrev pub decreases-loop-base : goal.decreases-loop-base
decreases-loop-base l = 64 - l.base
