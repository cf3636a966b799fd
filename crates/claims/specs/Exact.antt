-- Demand 2: what a call that asks must answer and leave, by the least model and by the interpretations.
use Rattle.std.specs.Prelude.{◌≡◌, ◌↔◌, List, ℕ, ◌≤◌, ◌*◌, T, ℤ, length, take}
use Rattle.terms.specs.declared.Answer.TheVariants as Answer
use Rattle.terms.specs.declared.Atom.{Atom}
use Rattle.terms.specs.declared.Atom.TheVariants.{Has}
use Rattle.terms.specs.declared.Question.{Question}
use Rattle.terms.specs.declared.Hole.{Hole}
use Rattle.terms.specs.declared.Mark.{Mark}
use Rattle.terms.specs.Limits.{INTERVALS}
use Rattle.terms.specs.Holes.{InHole}
use Rattle.terms.specs.Held.{◌∈◌, Held, hole_in}
use Rattle.terms.specs.Lists.{limits}
use Rattle.logic.specs.Depths.{Derived}
use Rattle.logic.specs.Printed.{WithinMarks}
use Rattle.terms.specs.Spans.{Run, Longest, flat}
use Rattle.line.specs.Pieces.{Pieces}
use Rattle.tables.specs.Shows.{Shows}
use Rattle.places.specs.Layout.{SIZE, encode}
use Rattle.decide.specs.Decides.{Never, Lowest, Some, InAll, InOneNot}
use Rattle.commands.specs.Buffers.{Buffers, After}
use Rattle.claims.specs.Table.{Asks}
use Rattle.claims.specs.Reference.{Fed, Accepted}

-- ---- which call it is

-- what the book would be fed of a call
abbrev pub feeding : Buffers → List ℕ → Fed
feeding m s = record { bytes = s; block = length m.block; labels = length m.labels; links = length m.links; spans = length m.spans }

-- a good block: h is within the limits, and the block begins with its encoding
pub record Holding (b : List ℕ) (h : Held) : Type 0 where
  pub within : T (limits h)
  pub encoded : take SIZE b ≡ encode h

-- a record call on such a block, with enough lent, whose record is read as a question
pub record Asking (m : Buffers) (s : List ℕ) (h : Held) (q : Question) : Type 0 where
  pub block : Holding m.block h
  pub accepted : Accepted h (feeding m s) (Asks q)

-- ---- what it must answer

-- the pairs in the span buffer are the longest runs of a set of depths
pub record RunsWritten (S : ℤ → Type 0) (n : ℕ) (spans : List ℤ) : Type 0 where
  pub runs : List Run
  pub longest : Longest S runs
  pub number : length runs ≡ n
  pub written : take (2 * n) spans ≡ flat runs

-- each number of the pairs in it has P
abbrev pub EndsIn : (ℤ → Type 0) → ℕ → List ℤ → Type 0
EndsIn P n spans = (i : ℤ) → i ∈ take (2 * n) spans → P i

-- 02, Slip 5: it lies in the hole
abbrev pub EndsInside : Hole → ℕ → List ℤ → Type 0
EndsInside H n spans = EndsIn (InHole H) n spans

-- 02, Slip 10: it is not above the shallowest nor below the deepest marked depth
abbrev pub EndsWithin : List Mark → ℕ → List ℤ → Type 0
EndsWithin ms n spans = EndsIn (WithinMarks ms) n spans

-- where it is clear that there is no contradiction: yes exactly if it is so, no exactly if it is not; spans cover exactly the depths where it is so
abbrev pub ToldBy : Type 0 → (Atom → ℤ → Type 0) → (Atom → ℤ → Type 0) → Question → After → Type 0
ToldBy Clear So Not (Question.Holds x i) r = ((r.answer ≡ Answer.Yes) ↔ (Clear × So x i)) × ((r.answer ≡ Answer.No) ↔ (Clear × Not x i))
ToldBy Clear So Not (Question.Spans a A) r =
    (((n : ℕ) × (r.answer ≡ Answer.Spans n)) ↔ Clear)
    × ((n : ℕ) → r.answer ≡ Answer.Spans n → RunsWritten (So (Has a A)) n r.buffers.spans)

-- contradiction with some item
abbrev pub Contradicts : After → Type 0
Contradicts r = (a : ℕ) × (r.answer ≡ Answer.Contradiction a)

pub record Exact (h : Held) (q : Question) (r : After) : Type 0 where
  -- of the items that are joined to the question's: contradiction with a exactly if a is the lowest with NEVER; exactly if some item has it; exactly if
  -- no interpretation of them satisfies marks and rules
  pub lowest : (a : ℕ) → (r.answer ≡ Answer.Contradiction a) ↔ Lowest h q a
  pub some_never : Contradicts r ↔ Never h q
  pub none_satisfies : Contradicts r ↔ (Some h q → ⊥)
  -- demand 2: none of them has NEVER, and the statement is in the least model or is not
  pub by_model : ToldBy (Never h q → ⊥) (Derived h) (λ x i. Derived h x i → ⊥) q r
  -- demand 3's words: an interpretation of them satisfies marks and rules, and all that do make the statement true or one of them makes it false
  pub by_interpretations : ToldBy (Some h q) (InAll h q) (InOneNot h q) q r
  -- each bit of both tables, by 01's numbering of the pieces, in a hole of its pieces alone, 193 at most
  pub number : ℤ → ℕ
  pub count : ℕ
  pub few : count ≤ INTERVALS
  pub pieces : Pieces (hole_in h) h.marks number count
  pub tables : Shows h number count r.buffers.labels r.buffers.links
