-- 02's 15, 17 and 20: the tests of what is held, of a record that sets something until RESET.
use Rattle.std.specs.Prelude.{not, List, [], ◌∷◌, ltb, length}
use Rattle.terms.specs.Profiles.{in_profile}
use Rattle.terms.specs.Held.{Held}
use Rattle.refusals.specs.Refusals.{Test, test}
use Rattle.terms.specs.Lists.{every}

-- 02, Slip 4: kind 17 while a rule is held
abbrev pub count_tests : Held → List Test
count_tests h = test (ltb 0 (length h.rules)) 15 ∷ []

-- 02, Slip 5: kind 18 while a mark is held
abbrev pub confine_tests : Held → List Test
confine_tests h = test (ltb 0 (length h.marks)) 17 ∷ []

-- 02, Slip 10: kind 21 while a rule outside the profile is held
abbrev pub restrict_tests : Held → List Test
restrict_tests h = test (not (every in_profile h.rules)) 20 ∷ []
