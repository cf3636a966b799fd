-- The invariant is `Walked`: the intervals before `p` are passed, each by `step`'s contract.
use mathlib.Core.Path.{◌≡◌}
use Prim.Native.Nat.{◌+◌, ◌≤◌}
use lib.ListN.{length}
use Rattle.terms.specs.HoleLaws.{line_of}
use Rattle.line.specs.CutList.{cut_list}
use Rattle.spans.specs.Runs.{has_label}
use Rattle.spans.specs.Code.{Walked}
use Rattle.spans.proofs.write_spans.Given as goal

abbrev pub invariant-loop-p : goal.invariant-loop-p
invariant-loop-p l =
    (l.p ≤ l.n + 1) × (length l.spans ≡ length l.initial.spans)
    × Walked (line_of l.hole) (cut_list l.cuts) (has_label l.labels l.item l.label) l.initial.spans l.p l.state l.spans
