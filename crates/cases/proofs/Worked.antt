-- The cases that 01 marks P are decided as it says, and so are the readings of its rules and 02's cases beside them: one theorem, about the definition
-- by interpretations of the items concerned, over the depths that exist. Assumes nothing.
use Rattle.std.specs.Prelude.{◌≡◌, refl, Bool, List, [], ◌∷◌, ◌++◌, map, T, length}
use Rattle.std.proofs.Common.{sym, subst, ⊎_elim}
use mathlib.Core.List.Memᴰ
use Rattle.terms.specs.Tests.{and_both, both_and}
use Rattle.terms.specs.Limits.{ITEMS}
use Rattle.terms.specs.Held.{◌∈◌}
use Rattle.terms.specs.Lists.{some, every, once, strike, depth_count, limits}
use Rattle.logic.specs.Classes.{joined_b}
use Rattle.tables.specs.Executed.{model}
use Rattle.spans.specs.Runs.{runs}
use Rattle.terms.proofs.Limited.{limited, in_range}
use Rattle.decide.proofs.Decide.{answer_decides}
use Rattle.decide.specs.Answer.{answer}
use Rattle.decide.specs.Decides.{Reply, Decides}
use Rattle.cases.specs.Cases.{Case, edges, nothing, readings, stretches, countings, holes, pads, cases}

-- ---- computed, and so decided

abbrev within : Case → Bool
within c = limits c.held

abbrev computed : Case → Reply
computed c = answer c.held c.question

abbrev expected : Case → Reply
expected c = c.reply

pub record Checked (cs : List Case) : Type 0 where
  pub kept : T (every within cs)
  pub same : map computed cs ≡ map expected cs

-- rows behind others
more_checked : (cs ds : List Case) → Checked cs → Checked ds → Checked (cs ++ ds)
unfolding every
more_checked [] ds C D = D
more_checked (c ∷ cs) ds C D =
    let w = and_both (within c) (every within cs) C.kept in
    let s = C.same in
    let e : computed c ≡ c.reply = cc in
    let f : map computed cs ≡ map expected cs = cc in
    let R = more_checked cs ds (record { kept = w.1; same = f }) D in
    record { kept = both_and (within c) (every within (cs ++ ds)) w.0 R.kept; same = λ i. e i ∷ R.same i }

edges_checked : Checked edges
unfolding limits every once some strike depth_count answer model runs joined_b
edges_checked = record { kept = tt; same = refl }

nothing_checked : Checked (nothing ITEMS)
unfolding limits every once some strike depth_count answer model runs joined_b
nothing_checked = record { kept = tt; same = refl }

readings_checked : Checked readings
unfolding limits every once some strike depth_count answer model runs joined_b
readings_checked = record { kept = tt; same = refl }

stretches_checked : Checked stretches
unfolding limits every once some strike depth_count answer model runs joined_b
stretches_checked = record { kept = tt; same = refl }

countings_checked : Checked countings
unfolding limits every once some strike depth_count answer model runs joined_b
countings_checked = record { kept = tt; same = refl }

holes_checked : Checked holes
unfolding limits every once some strike depth_count answer model runs joined_b
holes_checked = record { kept = tt; same = refl }

pads_checked : Checked pads
unfolding limits every once some strike depth_count answer model runs joined_b
pads_checked = record { kept = tt; same = refl }

checked : Checked cases
checked =
    more_checked edges (nothing ITEMS ++ (readings ++ (stretches ++ (countings ++ (holes ++ pads))))) edges_checked
    (more_checked (nothing ITEMS) (readings ++ (stretches ++ (countings ++ (holes ++ pads)))) nothing_checked
    (more_checked readings (stretches ++ (countings ++ (holes ++ pads))) readings_checked
    (more_checked stretches (countings ++ (holes ++ pads)) stretches_checked
    (more_checked countings (holes ++ pads) countings_checked (more_checked holes pads holes_checked pads_checked)))))

each : (cs : List Case) → Checked cs → (c : Case) → c ∈ cs → Decides c.held c.question c.reply
unfolding every
each [] t c m = absurd (Memᴰ.not-nil m)
each (k ∷ cs) t c m =
    let w = and_both (within k) (every within cs) t.kept in
    let s = t.same in
    let e : computed k ≡ k.reply = cc in
    let f : map computed cs ≡ map expected cs = cc in
    ⊎_elim
    (λ d. subst (λ (v : Case). Decides v.held v.question v.reply) (sym d)
    (subst (λ r. Decides k.held k.question r) e (answer_decides k.held (in_range k.held (limited k.held w.0)) k.question)))
    (λ n. each cs (record { kept = w.1; same = f }) c n)
    (Memᴰ.cases_cons m)

-- no row went missing
pub all_rows : length cases ≡ 234
all_rows = refl

pub worked_cases : (c : Case) → c ∈ cases → Decides c.held c.question c.reply
worked_cases = each cases checked
