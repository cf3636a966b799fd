-- The derived tables say whether there is a contradiction, and else what is read off them.
use Rattle.questions.proofs.Answering.{contradictory, plain}
use Rattle.questions.proofs.answer.Goals as goal

pub returns-in-Some : goal.returns-in-Some
returns-in-Some c =
    contradictory c.args.state.now c.requires.held_state _ _ _ _ c.derive-cuts.ensures.tables _ c.args.question c.requires.named
    c.clash_of.ensures _ c.in-Some.item c.in-Some.is

pub returns-in-None : goal.returns-in-None
returns-in-None c =
    plain c.args.state.now c.requires.held_state _ _ _ _ c.derive-cuts.ensures.tables _ c.args.question c.requires.named
    c.clash_of.ensures _ c.in-None.is _ c.derive-cuts.ensures.cuts _ _ c.read_off.ensures
