-- 02, Slip 7: a change of marks that leaves alone the items that a question concerns.
use Rattle.std.specs.Prelude.{◌≡◌, ◌⊎◌, ◌↔◌, List, ℕ}
use Rattle.terms.specs.declared.Atom.{Atom}
use Rattle.terms.specs.declared.Atom.TheVariants.{Has, Linked}
use Rattle.terms.specs.declared.Mark.{Mark}
use Rattle.terms.specs.declared.Question.{Question}
use Rattle.terms.specs.Held.{◌∈◌, Held, with_marks}
use Rattle.logic.specs.Joined.{Concerns, Items}

-- the items that a statement is about
abbrev pub items_in : Atom → Items
items_in (Has a A) b = b ≡ a
items_in (Linked a r c) b = (b ≡ a) ⊎ (b ≡ c)

-- 02, Slip 7: with all but marks the same, each mark on an item concerned before or after is held before exactly if it is held after
pub record Untouched (h : Held) (ms : List Mark) (q : Question) : Type 0 where
  pub marks : (m : Mark) (b : ℕ) → items_in m.atom b → Concerns h q b ⊎ Concerns (with_marks h ms) q b → (m ∈ h.marks) ↔ (m ∈ ms)
