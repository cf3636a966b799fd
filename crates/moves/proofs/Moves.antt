-- The line moved, ahead as by a shift or reversed as by the mirror: depths, what is held and spans, one definition for both.
use Rattle.std.specs.Prelude.{◌≡◌, Bool, true, ◌&&◌, List, map, reverse, ◌+◌, ℤ, ◌≤ℤ◌}
use Rattle.terms.specs.declared.Hole.{Hole}
use Rattle.terms.specs.declared.Hole.TheVariants.{Whole, Part}
use Rattle.terms.specs.declared.Mark.{Mark}
use Rattle.terms.specs.declared.Operator.{Operator}
use Rattle.terms.specs.declared.Rule.{Rule}
use Rattle.terms.specs.Order.{up, dn}
use Rattle.terms.specs.Limits.{NO_TOP, NO_BOTTOM, is_depth}
use Rattle.terms.specs.Held.{Held, hole_in, with_rules, with_marks, with_hole, turn, is_placed}
use Rattle.terms.specs.Lists.{every}
use Rattle.terms.specs.Counted.{same}
use Rattle.terms.specs.Spans.{Run, run}
use Rattle.moves.specs.Mirrored.{exchanged}
use Rattle.moves.specs.Answers.{move_end}

-- ---- the two ends of a stretch

-- where depths are shallow, and where they are deep
pub data Side : Type 0 where
  upper lower : Side

-- of a top and a bottom, the one on this side
abbrev pub pick : Side → ℤ → ℤ → ℤ
pick upper t b = t
pick lower t b = b

-- the number that means no end on this side
abbrev pub gone : Side → ℤ
gone κ = pick κ NO_TOP NO_BOTTOM

-- the depth does not lie beyond an end on this side
abbrev pub Inward : Side → ℤ → ℤ → Type 0
Inward upper e i = e ≤ℤ i
Inward lower e i = i ≤ℤ e

-- ---- the two ways to move

-- shallow stays shallow, or becomes deep
pub data Sense : Type 0 where
  ahead reversed : Sense

-- the side that an end on this side comes from
abbrev pub origin : Sense → Side → Side
origin ahead κ = κ
origin reversed upper = lower
origin reversed lower = upper

-- what becomes of an operator; 02, Slip 9: reversed, ABOVE and BELOW are exchanged
abbrev pub turned : Sense → Operator → Operator
turned ahead = same
turned reversed = exchanged

-- and of the order of a list; 02, Slip 9: reversed, it comes in reverse order
abbrev pub in_sense : {X : Type 0} → Sense → List X → List X
in_sense ahead xs = xs
in_sense reversed xs = reverse xs

-- y less x is the same for the moved depths, or the opposite; an integer z is `up z` less `dn z`
abbrev pub Keeps : Sense → (ℤ → ℤ) → ℤ → ℤ → Type 0
Keeps ahead f x y = up (f y) + dn (f x) + up x + dn y ≡ up (f x) + dn (f y) + up y + dn x
Keeps reversed f x y = up (f y) + dn (f x) + up y + dn x ≡ up (f x) + dn (f y) + up x + dn y

-- a map of the depths that keeps all distances
pub record Rigid (s : Sense) (f : ℤ → ℤ) : Type 0 where
  pub keeps : (x y : ℤ) → Keeps s f x y

-- with one that undoes it
pub record Motion (s : Sense) (f g : ℤ → ℤ) : Type 0 where
  pub there : Rigid s f
  pub back : Rigid s g
  pub undone : (i : ℤ) → g (f i) ≡ i
  pub redone : (i : ℤ) → f (g i) ≡ i

-- ---- what is held, moved

-- the end on this side of the stretch from t to b, moved
abbrev pub end_of : Sense → (ℤ → ℤ) → Side → ℤ → ℤ → ℤ
end_of s f κ t b = f (pick (origin s κ) t b)

-- a mark
abbrev pub move_mark : Sense → (ℤ → ℤ) → Mark → Mark
move_mark s f m = record { atom = m.atom; top = end_of s f upper m.top m.bottom; bottom = end_of s f lower m.top m.bottom }

-- the hole, where there is one
abbrev pub move_hole : Sense → (ℤ → ℤ) → Hole → Hole
move_hole s f Whole = Whole
move_hole s f (Part t b) = Part (end_of s f upper t b) (end_of s f lower t b)

-- a rule list
abbrev pub move_rules : Sense → List Rule → List Rule
move_rules ahead ρs = ρs
move_rules reversed ρs = map (turn exchanged) ρs

-- all rules, all marks and the hole, each in its place; counting and profile stay
abbrev pub moved : Sense → (ℤ → ℤ) → Held → Held
moved s f h = with_hole (with_rules (with_marks h (map (move_mark s f) h.marks)) (move_rules s h.rules)) (move_hole s f (hole_in h))

-- k is h, moved
pub record Moves (s : Sense) (f g : ℤ → ℤ) (h k : Held) : Type 0 where
  pub motion : Motion s f g
  pub is : k ≡ moved s f h

-- the moved ends of the hole are in range
abbrev pub hole_fits : Sense → (ℤ → ℤ) → Hole → Bool
hole_fits s f Whole = true
hole_fits s f (Part t b) = is_depth (end_of s f upper t b) && is_depth (end_of s f lower t b)

-- and so are those of all marks
abbrev pub fits : Sense → (ℤ → ℤ) → Held → Bool
fits s f h = every (λ m. is_placed (move_mark s f m)) h.marks && hole_fits s f (hole_in h)

-- ---- spans, moved

-- the end of a span on this side
abbrev pub end_in : Run → Side → ℤ
end_in r κ = pick κ r.top r.bottom

-- and that of the moved span: still missing, or moved
abbrev pub end_moved : Sense → (ℤ → ℤ) → Run → Side → ℤ
end_moved s f r κ = move_end f (gone (origin s κ)) (gone κ) (end_in r (origin s κ))

-- a span
abbrev pub move_run : Sense → (ℤ → ℤ) → Run → Run
move_run s f r = run (end_moved s f r upper) (end_moved s f r lower)

-- all spans, in the order of the moved line
abbrev pub move_runs : Sense → (ℤ → ℤ) → List Run → List Run
move_runs s f rs = in_sense s (map (move_run s f) rs)
