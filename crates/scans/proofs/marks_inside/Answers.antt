-- As the library says of `all`.
use Rattle.std.proofs.Common.{rules, ◌∙◌}
use Rattle.std.proofs.lemmas.Iterator.{YieldsList-from_slice}
use Rattle.std.proofs.lemmas.Iterator.Search.{all_from_yields_List}
use Rattle.terms.specs.Holes.{lies_in}
use Rattle.keys.proofs.Scan.{every_list}
use Rattle.scans.proofs.marks_inside.Goals as goal

pub returns : goal.returns
returns c =
    let p = lies_in c.args.hole in
    all_from_yields_List p _ _ _ c.all.ensures.ran (YieldsList-from_slice c.args.marks.now cc) (λ x b q k. search rules) ∙ every_list p c.args.marks.now
