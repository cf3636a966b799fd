-- 01's book on what is held: the test of 02's shift.
use Rattle.std.specs.Prelude.{not, List, [], ◌∷◌, ℤ}
use Rattle.terms.specs.Held.{Held}
use Rattle.refusals.specs.Refusals.{Test, test}
use Rattle.shift.specs.Shifted.{stays}

-- 02, Slip 9: kind 20 while a depth is held that would leave its range
abbrev pub shift_tests : Held → ℤ → List Test
shift_tests h c = test (not (stays c h)) 8 ∷ []
