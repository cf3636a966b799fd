-- As the library says of `all`.
use Rattle.std.proofs.Common.{rules, ◌∙◌}
use Rattle.std.proofs.lemmas.Iterator.{YieldsList-from_slice}
use Rattle.std.proofs.lemmas.Iterator.Search.{all_from_yields_List}
use Rattle.terms.specs.Held.{is_mark}
use Rattle.keys.proofs.Scan.{every_list}
use Rattle.scans.proofs.marks_in_range.Goals as goal

pub returns : goal.returns
returns c =
    all_from_yields_List is_mark _ _ _ c.all.ensures.ran (YieldsList-from_slice c.args.marks.now cc) (λ x b q k. search rules) ∙ every_list is_mark c.args.marks.now
