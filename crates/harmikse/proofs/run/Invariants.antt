-- Each turn is at a record; what is left to read falls, and nothing is left where the run stops.
use Rattle.std.proofs.Common.{◌≡◌, cond, suc, ◌-◌, length}
use Rattle.terms.specs.Limits.{LABEL_ENTRIES, LINK_ENTRIES, SPAN_NUMBERS}
use Rattle.places.specs.Layout.{SIZE}
use Rattle.commands.specs.Buffers.{lent}
use Rattle.harmikse.specs.Code.{Runs}
use Rattle.harmikse.proofs.run.Given as goal

abbrev pub invariant-loop-place : goal.invariant-loop-place
invariant-loop-place g l =
    (length l.block ≡ SIZE) × (length l.labels ≡ LABEL_ENTRIES) × (length l.links ≡ LINK_ENTRIES) × (length l.spans ≡ SPAN_NUMBERS)
    × Runs l.input (lent l.block l.labels l.links l.spans) l.place

abbrev pub decreases-loop-place : goal.decreases-loop-place
decreases-loop-place g l = cond l.place.going (suc (length l.input - l.place.at)) 0
