-- The items concerned, as the marks join them.
use Rattle.std.proofs.Common.{◌∙◌}
use Rattle.verdicts.specs.Below.{clash_same}
use Rattle.questions.proofs.Given.{named}
use Rattle.questions.proofs.clash_of.Goals as goal

pub concerned-requires : goal.concerned-requires
concerned-requires c = rw c.marks.ensures (named c.args.state.now c.requires.0, c.requires.2)

pub returns : goal.returns
returns c = c.clash_in.ensures ∙ clash_same _ _ (rw c.marks.ensures at c.concerned.ensures.each) _
