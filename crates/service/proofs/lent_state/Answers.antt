-- The lengths, then the block.
use Rattle.std.proofs.Common.{sym, subst, ◌∙◌}
use Rattle.service.specs.Code.{LentAs}
use Rattle.service.proofs.Lending.{loaded_as}
use Rattle.service.proofs.lent_state.Goals as goal

pub returns : goal.returns
returns c =
    subst (LentAs c.args.other c.args.block.now c.args.labels c.args.links) (sym c.ok_or.ensures.value)
    (loaded_as c.args.other c.args.block.now c.args.labels c.args.links
    (sym c.is_short.ensures ∙ c.if-is_short.false) c.load.result c.load.ensures)
