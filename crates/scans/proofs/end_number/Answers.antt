-- The depth fits its bits.
use mathlib.Core.Path.{ap, ◌∙◌}
use Prim.Native.Nat.{ℕ, ◌%◌}
use mir.Syntax.{w32}
use mir.Val.{of_z}
use mir.ValLaws.{to_z-of_z}
use Rattle.scans.specs.Keys.{END_ROOM, end_number}
use Rattle.scans.proofs.end_number.Goals as goal

pub returns : goal.returns
unfolding end_number
returns c =
    ap (λ (n : ℕ). n % END_ROOM) (c.from.ensures ∙ (c.bits32.ensures ∙ ap (of_z w32) (to_z-of_z w32 c.args.depth c.ranges.depth)))
