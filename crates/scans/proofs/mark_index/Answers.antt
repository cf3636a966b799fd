-- As the library says of `position`; marks in range are told by their keys.
use Rattle.std.proofs.Common.{eqb, rules, ◌∙◌}
use Rattle.std.proofs.lemmas.Iterator.{YieldsList-from_slice}
use Rattle.std.proofs.lemmas.Iterator.Search.{position_from_yields_List}
use Rattle.terms.specs.declared.Mark.{Mark}
use Rattle.keys.proofs.Scan.{position_list}
use Rattle.scans.specs.Keys.{mark_key}
use Rattle.scans.proofs.Keyed.{marks_fit, position_keys}
use Rattle.scans.proofs.mark_index.Goals as goal

pub returns : goal.returns
returns c =
    let p = λ (m : Mark). eqb (mark_key c.args.mark) (mark_key m) in
    let l = c.args.marks.now in
    position_from_yields_List p _ _ _ c.position.ensures.ran (YieldsList-from_slice l cc) (λ x b q k. search rules)
    ∙ (position_list p l ∙ position_keys c.args.mark l c.requires.t (marks_fit l c.requires.marks_named.each))
