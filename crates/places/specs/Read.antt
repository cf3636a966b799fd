-- What the bytes of a place hold, read.
use Rattle.std.specs.Prelude.{cond, List, ℕ, ◌+◌, eqb, ℤ, get_or}
use Rattle.codec.specs.Bytes.{little, signed32_at}
use Rattle.terms.specs.declared.Counting.{Counting}
use Rattle.terms.specs.declared.Counting.TheVariants.{Old, New}
use Rattle.terms.specs.declared.Hole.{Hole}
use Rattle.terms.specs.declared.Hole.TheVariants.{Whole, Part}
use Rattle.terms.specs.declared.Profile.{Profile}
use Rattle.terms.specs.declared.Profile.TheVariants.{Off, On}
use Rattle.terms.specs.declared.Rule.{Rule}
use Rattle.terms.specs.declared.Rule.TheVariants.{Label, Both, Link, Via}
use Rattle.terms.specs.declared.Atom.TheVariants.{Has, Linked}
use Rattle.terms.specs.declared.Mark.{Mark}
use Rattle.terms.specs.declared.Settings.{Settings}
use Rattle.terms.specs.Operators.{operator_of, or_identity}
use Rattle.places.specs.Layout.{SETTINGS_AT}

-- docs/STATE.md, a rule place, read
unfoldable pub rule_of : ℕ → ℕ → ℕ → ℕ → ℕ → Rule
rule_of k a b c n =
    cond (eqb k 2) (Label (or_identity (operator_of a n)) b c)
    (cond (eqb k 3) (Both a b c)
    (cond (eqb k 4) (Link (or_identity (operator_of a n)) b c) (Via a b c)))

-- the rule in the eight bytes from `at` on; what no rule is stored as is read as another
abbrev pub rule_read : List ℕ → ℕ → Rule
rule_read b at = rule_of (get_or b at 0) (get_or b (at + 1) 0) (get_or b (at + 2) 0) (get_or b (at + 3) 0) (little 4 b (at + 4))

-- a mark place, read
unfoldable pub mark_of : ℕ → ℕ → ℕ → ℕ → ℤ → ℤ → Mark
mark_of k a b c t d = cond (eqb k 6) (record { atom = Has a b; top = t; bottom = d }) (record { atom = Linked a b c; top = t; bottom = d })

-- the mark in the twelve bytes from `at` on
abbrev pub mark_read : List ℕ → ℕ → Mark
mark_read b at = mark_of (get_or b at 0) (get_or b (at + 1) 0) (get_or b (at + 2) 0) (get_or b (at + 3) 0) (signed32_at b (at + 4)) (signed32_at b (at + 8))

-- the settings, read; what no counting is stored as is read as the new one, what no hole is stored as as one, what no profile is stored as as one
-- that is on
abbrev pub counting_from : ℕ → Counting
counting_from x = cond (eqb x 0) Old New

abbrev pub hole_from : ℕ → ℤ → ℤ → Hole
hole_from x t d = cond (eqb x 0) Whole (Part t d)

abbrev pub profile_from : ℕ → Profile
profile_from x = cond (eqb x 0) Off On

abbrev pub settings_at : List ℕ → Settings
settings_at b = record {
  counting = counting_from (get_or b SETTINGS_AT 0);
  hole = hole_from (get_or b (SETTINGS_AT + 2) 0) (signed32_at b (SETTINGS_AT + 4)) (signed32_at b (SETTINGS_AT + 8));
  profile = profile_from (get_or b (SETTINGS_AT + 1) 0);
}
