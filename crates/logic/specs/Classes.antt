-- Which items are joined, computed from the held link marks.
use Rattle.std.specs.Prelude.{Bool, cond, ◌||◌, List, [], ◌∷◌, ℕ, eqb}
use Rattle.terms.specs.declared.Atom.{Atom}
use Rattle.terms.specs.declared.Atom.TheVariants.{Has, Linked}
use Rattle.terms.specs.declared.Mark.{Mark}
use Rattle.terms.specs.declared.Question.{Question}
use Rattle.terms.specs.Lists.{some}
use Rattle.logic.specs.Joined.{about}

-- where f says which are joined without a statement, which are with it: a link makes the classes of its two ends one
abbrev pub joined_by : Atom → (ℕ → ℕ → Bool) → ℕ → ℕ → Bool
joined_by (Has c A) f a b = f a b
joined_by (Linked c r d) f a b = cond (f c a || f d a) (f c b || f d b) (f a b)

unfoldable pub joined_b : List Mark → ℕ → ℕ → Bool
joined_b [] a b = eqb a b
joined_b (m ∷ ms) a b = joined_by m.atom (λ c d. joined_b ms c d) a b

-- a question concerns item b, by these marks
abbrev pub concerns_b : List Mark → Question → ℕ → Bool
concerns_b ms q b = some (λ a. joined_b ms a b) (about q)
