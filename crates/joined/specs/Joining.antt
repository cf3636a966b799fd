-- What the numbers of the items' classes say, and which items a question concerns.
use Rattle.std.specs.Prelude.{◌≡◌, Bool, false, cond, ◌||◌, List, ℕ, ◌<◌, eqb, length, get_or}
use Rattle.terms.specs.declared.Atom.{Atom}
use Rattle.terms.specs.declared.Mark.{Mark}
use Rattle.terms.specs.declared.Question.{Question}
use Rattle.terms.specs.Limits.{ITEMS}
use Rattle.logic.specs.Classes.{joined_by, joined_b, concerns_b}

-- the first i of ITEMS places hold what f says
pub record Filled {X : Type 0} (d : X) (f : ℕ → X) (i : ℕ) (l : List X) : Type 0 where
  pub size : length l ≡ ITEMS
  pub each : (a : ℕ) → a < i → get_or l a d ≡ f a

-- the number of an item's class
abbrev pub class_of : List ℕ → ℕ → ℕ
class_of cl a = get_or cl a 0

-- two items have the same
abbrev pub same_class : List ℕ → ℕ → ℕ → Bool
same_class cl a b = eqb (class_of cl a) (class_of cl b)

-- a class's number when `from` has gone into `into`
abbrev pub renamed_to : ℕ → ℕ → ℕ → ℕ
renamed_to from into class = cond (eqb class from) into class

-- the classes with a statement more
pub record WithStatement (cl : List ℕ) (x : Atom) (r : List ℕ) : Type 0 where
  pub size : length r ≡ ITEMS
  pub exact : (a b : ℕ) → a < ITEMS → b < ITEMS → same_class r a b ≡ joined_by x (same_class cl) a b

-- items have the same number exactly if the marks join them
pub record Classes (ms : List Mark) (cl : List ℕ) : Type 0 where
  pub size : length cl ≡ ITEMS
  pub exact : (a b : ℕ) → a < ITEMS → b < ITEMS → same_class cl a b ≡ joined_b ms a b

-- the items of one of two classes
abbrev pub Either : List ℕ → ℕ → ℕ → List Bool → Type 0
Either cl one other r = Filled false (λ a. same_class cl one a || same_class cl other a) ITEMS r

-- 02, Slip 7: the items that the question concerns, by these marks
abbrev pub Concerned : List Mark → Question → List Bool → Type 0
Concerned ms q r = Filled false (concerns_b ms q) ITEMS r
