-- The limits of what is held are what the derivation asks for.
use Rattle.questions.proofs.Given.{lists_in}
use Rattle.questions.proofs.derive.Goals as goal

pub derive-requires : goal.derive-requires
derive-requires c = rw (c.rules.ensures, c.marks.ensures) (lists_in c.args.state.now c.requires.0, c.requires.1, c.requires.2)
