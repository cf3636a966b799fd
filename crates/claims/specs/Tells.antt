-- 02, Slip 7: when two calls give the same answer; Slip 9: when one gives the other's, moved.
use Rattle.std.specs.Prelude.{◌≡◌, List, ℕ, ◌*◌, ℤ, length, take}
use Rattle.terms.specs.declared.Answer.TheVariants as Answer
use Rattle.terms.specs.Spans.{Run, flat}
use Rattle.commands.specs.Buffers.{After}

-- two calls tell the same: the answer with its item or its count, and each span that is written
pub record Tells_same (r k : After) : Type 0 where
  pub answer : r.answer ≡ k.answer
  pub spans : (n : ℕ) → r.answer ≡ Answer.Spans n → take (2 * n) r.buffers.spans ≡ take (2 * n) k.buffers.spans

-- the first n pairs of one span buffer are some runs, and those of another the moved ones
pub record RunsMoved (g : List Run → List Run) (n : ℕ) (before after : List ℤ) : Type 0 where
  pub runs : List Run
  pub number : length runs ≡ n
  pub written : take (2 * n) before ≡ flat runs
  pub moved : take (2 * n) after ≡ flat (g runs)

-- 02, Slip 9: the answer with its item or its count is the same, and each span that is written is moved
pub record TellsMoved (g : List Run → List Run) (r k : After) : Type 0 where
  pub answer : r.answer ≡ k.answer
  pub spans : (n : ℕ) → r.answer ≡ Answer.Spans n → RunsMoved g n r.buffers.spans k.buffers.spans
