-- Lent memory first, then item and lines.
use Rattle.service.proofs.Lending.{none_refuses}
use Rattle.service.proofs.to_charge.Goals as goal

pub returns : goal.returns
returns c =
    let a = c.args in
    none_refuses a.block.now a.lines.now a.labels a.links a.item c.lent_state.result c.lent_state.ensures
    _ c.in_ok-state.was c.judged.result c.judged.ensures _ c.in_ok-judged.was
