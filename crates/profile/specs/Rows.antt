-- 02, Slip 10: rules in the print profile, and rules outside it, row by row.
use Rattle.std.specs.Prelude.{List, [], ◌∷◌}
use Rattle.terms.specs.declared.Operator.TheVariants.{Within, Between, Above, Below, Anywhere}
use Rattle.terms.specs.declared.Rule.{Rule}
use Rattle.terms.specs.declared.Rule.TheVariants.{Label, Both, Link, Via}
use Rattle.terms.specs.Limits.{EVERY, NEVER}

-- WITHIN and BETWEEN from another label, BOTH with EVERY once on either side or with another label twice, LINKRULE by these operators, VIA from any label
abbrev pub printed : List Rule
printed =
    Label (Within 1) 1 2
    ∷ Label (Within 300_000) 62 NEVER
    ∷ Label Between 1 1
    ∷ Both 1 2 3
    ∷ Both 1 1 2
    ∷ Both EVERY 1 2
    ∷ Both 1 EVERY 2
    ∷ Link (Within 1) 0 1
    ∷ Link Between 7 0
    ∷ Via 0 1 2
    ∷ Via 0 EVERY 1
    ∷ []

-- EVERY on the left of LABEL by any operator, WITHIN 1 too; ABOVE, BELOW and ANYWHERE, of LINKRULE too; BOTH with EVERY twice
abbrev pub unprinted : List Rule
unprinted =
    Label (Within 1) EVERY 1
    ∷ Label (Within 20) EVERY 1
    ∷ Label Between EVERY 1
    ∷ Label Above EVERY 1
    ∷ Label Below EVERY 1
    ∷ Label Anywhere EVERY 1
    ∷ Label Above 1 2
    ∷ Label Below 1 2
    ∷ Label Anywhere 1 NEVER
    ∷ Link Above 0 1
    ∷ Link Below 1 0
    ∷ Link Anywhere 0 0
    ∷ Both EVERY EVERY 1
    ∷ Both EVERY EVERY NEVER
    ∷ []
