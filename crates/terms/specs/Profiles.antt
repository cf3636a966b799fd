-- 02's print profile: which rules are in it, and which may be held.
use Rattle.std.specs.Prelude.{Bool, true, false, not, ◌&&◌, ℕ, eqb}
use Rattle.terms.specs.declared.Operator.{Operator}
use Rattle.terms.specs.declared.Operator.TheVariants.{Within, Between, Above, Below, Anywhere}
use Rattle.terms.specs.declared.Profile.{Profile}
use Rattle.terms.specs.declared.Profile.TheVariants.{Off, On}
use Rattle.terms.specs.declared.Rule.{Rule}
use Rattle.terms.specs.declared.Rule.TheVariants.{Label, Both, Link, Via}
use Rattle.terms.specs.Limits.{EVERY}

-- 02, Slip 10: the operator is not ABOVE, BELOW or ANYWHERE
abbrev pub is_printed : Operator → Bool
is_printed (Within n) = true
is_printed Between = true
is_printed Above = false
is_printed Below = false
is_printed Anywhere = false

abbrev pub is_every : ℕ → Bool
is_every A = eqb A EVERY

-- 02, Slip 10: the rule is in the profile: none of those operators, no LABEL rule with EVERY on its left, no BOTH rule with EVERY twice
abbrev pub in_profile : Rule → Bool
in_profile (Label o A B) = is_printed o && not (is_every A)
in_profile (Both A B C) = not (is_every A && is_every B)
in_profile (Link o r s) = is_printed o
in_profile (Via r A B) = true

-- 02, Slip 10: a rule may be held, any while the profile is off, and one that is in it while it is on
abbrev pub admits : Profile → Rule → Bool
admits Off ρ = true
admits On ρ = in_profile ρ
