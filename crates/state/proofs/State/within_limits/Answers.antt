-- The ranges, and where all is in range each other test is that of a part.
use Rattle.state.specs.Holding.{marks_named}
use Rattle.state.proofs.Keeping.{out_of_range, in_range, marks_ranged}
use Rattle.std.proofs.Common.{not, ap}
use Rattle.state.proofs.State.within_limits.Goals as goal

pub returns-then-not-in_range : goal.returns-then-not-in_range
returns-then-not-in_range c =
    out_of_range c.args.self c.requires _ _ c.rules-rules.ensures c.marks-marks.ensures _ _ c.rules_in_range.ensures c.marks_in_range.ensures
    (ap not c.if-not-in_range.true)

pub marks_once-requires : goal.marks_once-requires
marks_once-requires c =
    let m = c.marks-marks.ensures in
    let t = marks_ranged c.args.self c.requires _ _ c.rules-rules.ensures m _ _ c.rules_in_range.ensures c.marks_in_range.ensures (ap not c.if-not-in_range.false) in
    rw m (marks_named c.args.self c.requires (rw m at t))

pub returns : goal.returns
returns c =
    rw (
      c.depth_count-few.ensures,
      c.rules_once.ensures,
      c.marks_once.ensures,
      c.marks_inside-inside.ensures,
      c.rules_admitted-admitted.ensures,
      c.in_range.ensures,
    )
    (in_range c.args.self c.requires _ _ c.rules-rules.ensures c.marks-marks.ensures _ _ c.rules_in_range.ensures c.marks_in_range.ensures
    (ap not c.if-not-in_range.false))
