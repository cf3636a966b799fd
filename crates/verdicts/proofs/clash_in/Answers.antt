-- The first item that passes is the lowest.
use mathlib.Core.Path.{refl, sym, ◌∙◌}
use Rattle.std.proofs.Common.{rules, of_calls}
use Rattle.std.proofs.lemmas.Iterator.{YieldsList-from_range}
use Rattle.std.proofs.lemmas.Iterator.Adapters.{option_map_id}
use Rattle.std.proofs.lemmas.Iterator.Search.{find_from_yields_List}
use Rattle.terms.specs.Limits.{ITEMS}
use Rattle.verdicts.specs.Reading.{listed, clashes_in, clash_in}
use Rattle.verdicts.proofs.Reading.{lowest_is}
use Rattle.verdicts.proofs.clash_in.Goals as goal

pub returns : goal.returns
unfolding clash_in
returns c =
    let r = find_from_yields_List (clashes_in (listed c.args.concerned) c.args.labels.now) _ _ c.find.result c.find.ensures.ran (YieldsList-from_range 0 ITEMS ITEMS refl refl)
    (λ x b q k. search (rules, of_calls)) in
    sym (option_map_id c.find.result) ∙ r ∙ lowest_is (clashes_in (listed c.args.concerned) c.args.labels.now) ITEMS 0
