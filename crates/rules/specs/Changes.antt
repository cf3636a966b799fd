-- 01's book on the rules: the tests of a rule to add, with 02's 20, and what an accepted record changes.
use Rattle.std.specs.Prelude.{not, List, [], ◌∷◌, ◌++◌, leb, length}
use Rattle.terms.specs.declared.Rule.{Rule}
use Rattle.terms.specs.Limits.{RULES}
use Rattle.terms.specs.Profiles.{admits}
use Rattle.terms.specs.Held.{Held, profile_in, with_rules}
use Rattle.refusals.specs.Refusals.{Test, test}
use Rattle.terms.specs.Same.{same_rule}
use Rattle.terms.specs.Lists.{some}

-- 01, Where a record is turned away, lists: a rule
abbrev pub list_tests : Held → Rule → List Test
list_tests h ρ = test (some (same_rule ρ) h.rules) 9 ∷ test (leb RULES (length h.rules)) 11 ∷ []

-- 02, Slip 10: before these, 20 for one that the profile does not admit
abbrev pub rule_tests : Held → Rule → List Test
rule_tests h ρ = test (not (admits (profile_in h) ρ)) 20 ∷ list_tests h ρ

-- 01, The book: kinds 2 to 5 add their rule at the end of its list
abbrev pub add_rule : Held → Rule → Held
add_rule h ρ = with_rules h (h.rules ++ (ρ ∷ []))
