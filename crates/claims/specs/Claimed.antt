-- All that is claimed of a reply to a record call, together.
use Rattle.std.specs.Prelude.{◌≡◌, ◌↔◌, List, ℕ, Err}
use Rattle.terms.specs.declared.Answer.TheVariants as Answer
use Rattle.terms.specs.declared.Question.{Question}
use Rattle.terms.specs.Held.{Held}
use Rattle.refusals.specs.Refusals.{tested}
use Rattle.frames.specs.Frames.{used_for}
use Rattle.commands.specs.Buffers.{Buffers, After}
use Rattle.claims.specs.Table.{rows}
use Rattle.claims.specs.Reference.{Book}
use Rattle.claims.specs.Lives.{result_of}
use Rattle.claims.specs.Memory.{Keeps, LentKept}
use Rattle.claims.specs.Exact.{feeding, Holding, Asking, Exact}

-- demands 1 to 3 of one record call, of any reply to it: refused exactly where the rows come to a number, and using the bytes that 01 says then; what
-- lent memory keeps; on a good block a step of the book, whose lists and settings the block then has; and exact where it is a question
pub record Claimed (m : Buffers) (s : List ℕ) (r : After) : Type 0 where
  pub refuses : (n : ℕ) → (r.answer ≡ Answer.Refused n) ↔ (tested (rows m s) ≡ Err n)
  pub uses : (n : ℕ) → r.answer ≡ Answer.Refused n → r.used ≡ used_for n s
  pub keeps : Keeps r.answer m r.buffers
  pub lends : LentKept r.answer m r.buffers
  pub steps : (h : Held) → Holding m.block h → (k : Held) × Book h (feeding m s) (result_of r) k × Holding r.buffers.block k
  pub exact : (h : Held) (q : Question) → Asking m s h q → Exact h q r
