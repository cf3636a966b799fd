-- All tests first; then the charge, on what the block holds.
use Rattle.std.proofs.Common.{ap, ◌∙◌}
use Rattle.charges.specs.declared.Charge.{Charge}
use Rattle.service.specs.Tables.{tables, after_charge}
use Rattle.service.proofs.Lending.{charge_refused, charge_billed}
use Rattle.service.proofs.charge.Goals as goal

pub returns-in-Ok : goal.returns-in-Ok
returns-in-Ok c =
    let a = c.args in
    charge_billed a.block.now a.labels.now a.links.now a.lines.now a.item c.to_charge.result c.to_charge.ensures _ c.in-Ok.is
    _ _ _ c.bill.ensures

pub returns-in-Err : goal.returns-in-Err
returns-in-Err c =
    let a = c.args in
    ap (λ (x : Charge). after_charge x (tables a.block.now a.labels.now a.links.now)) c.from.ensures
    ∙ charge_refused a.block.now a.labels.now a.links.now a.lines.now a.item c.to_charge.result c.to_charge.ensures _ c.in-Err.is
