-- As the library says of `all`.
use Rattle.std.proofs.Common.{rules, ◌∙◌}
use Rattle.std.proofs.lemmas.Iterator.{YieldsList-from_slice}
use Rattle.std.proofs.lemmas.Iterator.Search.{all_from_yields_List}
use Rattle.terms.specs.Profiles.{admits}
use Rattle.keys.proofs.Scan.{every_list}
use Rattle.scans.proofs.rules_admitted.Goals as goal

pub returns : goal.returns
returns c =
    let p = admits c.args.profile in
    all_from_yields_List p _ _ _ c.all.ensures.ran (YieldsList-from_slice c.args.rules.now cc) (λ x b q k. search rules) ∙ every_list p c.args.rules.now
