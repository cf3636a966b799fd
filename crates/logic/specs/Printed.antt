-- 02, Slip 10: rule lists in the print profile, statements of EVERY, and depths within the marked ones.
use Rattle.std.specs.Prelude.{Bool, false, List, T, ℤ, ◌≤ℤ◌}
use Rattle.terms.specs.declared.Atom.{Atom}
use Rattle.terms.specs.declared.Atom.TheVariants.{Has, Linked}
use Rattle.terms.specs.declared.Mark.{Mark}
use Rattle.terms.specs.Profiles.{is_every, in_profile}
use Rattle.terms.specs.Held.{◌∈◌, Held, ends_of}
use Rattle.terms.specs.Lists.{every}

-- 02, Slip 10: the rule list is in the profile, whether that is on or off
abbrev pub Profiled : Held → Type 0
Profiled h = T (every in_profile h.rules)

-- 02, Slip 10: the statement is that an item has EVERY; one of another label, or of a link, is not
abbrev pub says_every : Atom → Bool
says_every (Has a A) = is_every A
says_every (Linked a r b) = false

-- 02, Slip 10: the depth is not above the shallowest nor below the deepest marked depth: one is at or above it, and one at or below. Without marks none is
pub record WithinMarks (ms : List Mark) (i : ℤ) : Type 0 where
  pub top : ℤ
  pub bottom : ℤ
  pub top_marked : top ∈ ends_of ms
  pub bottom_marked : bottom ∈ ends_of ms
  pub above : top ≤ℤ i
  pub below : i ≤ℤ bottom
