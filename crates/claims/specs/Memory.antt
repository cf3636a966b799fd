-- What a call keeps of lent memory.
use Rattle.std.specs.Prelude.{◌≡◌, List, ℕ, ◌+◌, ◌*◌, ◌≤◌, length, drop}
use Rattle.terms.specs.declared.Answer.{Answer}
use Rattle.terms.specs.Pairs.{pair_count}
use Rattle.terms.specs.Limits.{DEPTHS, LABEL_ENTRIES, LINK_ENTRIES}
use Rattle.places.specs.Layout.{SIZE}
use Rattle.commands.specs.Buffers.{Buffers}

-- 01, State and tables: only done changes the block, and done leaves the tables; only spans write the span buffer; end changes nothing, nor does a
-- refusal
pub record Keeps (a : Answer) (m after : Buffers) : Type 0 where
  pub block : (a ≡ Answer.Done → ⊥) → after.block ≡ m.block
  pub tables : a ≡ Answer.Done → (after.labels ≡ m.labels) × (after.links ≡ m.links)
  pub spans : ((n : ℕ) → a ≡ Answer.Spans n → ⊥) → after.spans ≡ m.spans
  pub ended : a ≡ Answer.End → after ≡ m
  pub refused : (n : ℕ) → a ≡ Answer.Refused n → after ≡ m

-- what was written lies in the first n, and the length is the old one
pub record WrittenIn {A : Type 0} (n : ℕ) (old new : List A) : Type 0 where
  pub same_length : length new ≡ length old
  pub same_tail : drop n new ≡ drop n old

-- 01, State and tables: lent memory longer than this, the block included, keeps its tail; the pairs fit the span buffer, and behind them it is unchanged
pub record LentKept (a : Answer) (m after : Buffers) : Type 0 where
  pub block : WrittenIn SIZE m.block after.block
  pub labels : WrittenIn LABEL_ENTRIES m.labels after.labels
  pub links : WrittenIn LINK_ENTRIES m.links after.links
  pub spans : WrittenIn (2 * pair_count a) m.spans after.spans
  pub pairs : pair_count a ≤ DEPTHS + 1
