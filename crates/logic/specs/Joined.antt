-- 02, Slip 7: which items are joined, and which of them a question concerns.
use Rattle.std.specs.Prelude.{List, [], ◌∷◌, ℕ, ℤ}
use Rattle.terms.specs.declared.Atom.{Atom}
use Rattle.terms.specs.declared.Atom.TheVariants.{Has, Linked}
use Rattle.terms.specs.declared.Question.{Question}
use Rattle.terms.specs.Held.{◌∈◌, Held}
use Rattle.logic.specs.Depths.{Derived}

-- a chain of steps from a, each followed either way
pub data Chain (R : ℕ → ℕ → Type 0) (a : ℕ) : ℕ → Type 0 where
  itself : Chain R a a
  along : {b c : ℕ} → Chain R a b → R b c → Chain R a c
  against : {b c : ℕ} → Chain R a b → R c b → Chain R a c

-- a link of some kind from a to b is in the least model, at some depth
pub record Linking (h : Held) (a b : ℕ) : Type 0 where
  pub kind : ℕ
  pub depth : ℤ
  pub link : Derived h (Linked a kind b) depth

-- 02, Slip 7: by a chain of links, held or derived, followed either way, at any depths; an item is joined to itself
abbrev pub Joined : Held → ℕ → ℕ → Type 0
Joined h a b = Chain (Linking h) a b

-- 02, Slip 7: the items that a question is about: its item, of a link both ends
abbrev pub about : Question → List ℕ
about (Question.Holds (Has a A) i) = a ∷ []
about (Question.Holds (Linked a r b) i) = a ∷ b ∷ []
about (Question.Spans a A) = a ∷ []

-- 02, Slip 7: the question concerns the item, which counts, in 02's word: it is joined to one that the question is about
pub record Concerns (h : Held) (q : Question) (b : ℕ) : Type 0 where
  pub item : ℕ
  pub asked : item ∈ about q
  pub joined : Joined h item b

-- a set of items, and the statements about those alone
abbrev pub Items : Type 1
Items = ℕ → Type 0

abbrev pub Of : Items → Atom → Type 0
Of J (Has a A) = J a
Of J (Linked a r b) = J a × J b
