-- What marks and rules decide, by the interpretations that satisfy them, and the lowest item with NEVER, by the least model.
use Rattle.std.specs.Prelude.{◌≡◌, true, false, List, ℕ, ◌<◌, ℤ}
use Rattle.terms.specs.declared.Atom.{Atom}
use Rattle.terms.specs.declared.Atom.TheVariants.{Has}
use Rattle.terms.specs.declared.Question.{Question}
use Rattle.terms.specs.Limits.{ITEMS, NEVER}
use Rattle.terms.specs.Held.{Held}
use Rattle.logic.specs.Depths.{Derived}
use Rattle.logic.specs.Joined.{Concerns}
use Rattle.logic.specs.Interpretations.{Interpretation, Satisfies}
use Rattle.terms.specs.Spans.{Run, Longest}

-- 01, Records: yes, no, or spans
pub data Verdict : Type 0 where
  Yes No : Verdict
  Spans : List Run → Verdict

-- and contradiction with an item in their place
pub data Reply : Type 0 where
  Contradiction : ℕ → Reply
  Answered : Verdict → Reply

-- 01, Rules of derivation: an item that there is has NEVER at some depth; 02, Slip 7: one that the question concerns
pub record Never (h : Held) (q : Question) : Type 0 where
  pub item : ℕ
  pub depth : ℤ
  pub named : item < ITEMS
  pub concerned : Concerns h q item
  pub has : Derived h (Has item NEVER) depth

-- 01, Records: the lowest item that has NEVER; 02, Slip 7: of those that the question concerns
pub record Lowest (h : Held) (q : Question) (a : ℕ) : Type 0 where
  pub item : a < ITEMS
  pub concerned : Concerns h q a
  pub depth : ℤ
  pub never : Derived h (Has a NEVER) depth
  pub lower : (b : ℕ) (i : ℤ) → b < a → Concerns h q b → Derived h (Has b NEVER) i → ⊥

-- some interpretation satisfies the marks and rules; 02, Slip 7: of the items that the question concerns alone
abbrev pub Some : Held → Question → Type 0
Some h q = (D : Interpretation) × Satisfies h (Concerns h q) D

-- a statement is true in all that do
abbrev pub InAll : Held → Question → Atom → ℤ → Type 0
InAll h q x i = (D : Interpretation) → Satisfies h (Concerns h q) D → D x i ≡ true

-- false in one of them
abbrev pub InOneNot : Held → Question → Atom → ℤ → Type 0
InOneNot h q x i = (D : Interpretation) × Satisfies h (Concerns h q) D × (D x i ≡ false)

-- 01, Records: what a reply says, by which statements are so and which are not: yes, no, or the longest runs of the depths where the label is so
abbrev pub SaysBy : (Atom → ℤ → Type 0) → (Atom → ℤ → Type 0) → Question → Verdict → Type 0
SaysBy So Not (Question.Holds x i) Yes = So x i
SaysBy So Not (Question.Holds x i) No = Not x i
SaysBy So Not (Question.Holds x i) (Spans rs) = ⊥
SaysBy So Not (Question.Spans a A) Yes = ⊥
SaysBy So Not (Question.Spans a A) No = ⊥
SaysBy So Not (Question.Spans a A) (Spans rs) = Longest (So (Has a A)) rs

-- demand 3: what a question comes to where some interpretation satisfies them
abbrev pub Says : Held → Question → Verdict → Type 0
Says h q v = SaysBy (InAll h q) (InOneNot h q) q v

-- demand 3: contradiction where none does, with the lowest item that has NEVER; else what the question comes to
abbrev pub Decides : Held → Question → Reply → Type 0
Decides h q (Contradiction a) = (Some h q → ⊥) × Lowest h q a
Decides h q (Answered v) = Some h q × Says h q v
