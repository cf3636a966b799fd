-- The calls beside the records: which there are, their rows, and the record that the span call stands for.
use Rattle.std.specs.Prelude.{not, List, [], ◌∷◌, ℕ}
use Rattle.terms.specs.declared.Question.TheVariants as Question
use Rattle.terms.specs.Held.{is_question}
use Rattle.refusals.specs.Refusals.{Test, test}
use Rattle.block.specs.Block.{good}
use Rattle.commands.specs.Buffers.{Buffers, After, after, short}
use Rattle.commands.specs.Call.{span_call}
use Rattle.charges.specs.Lines.{lines_of, line_tests}
use Rattle.service.specs.Tables.{Tables, tables, charge_short}
use Rattle.service.specs.Charging.{charge_call}

-- 01, The book: the calls beside the records, each with what it is asked; 02, Slip 1: a charge with its lines
pub data BesideCall : Type 0 where
  spans_of_lem : ℕ → ℕ → BesideCall
  charge_of_lem : ℕ → List ℕ → BesideCall

-- 02, Slip 1: a charge is lent no span buffer
abbrev pub tables_of : Buffers → Tables
tables_of m = tables m.block m.labels m.links

-- the block after a call beside the records
abbrev pub block_after : BesideCall → Buffers → List ℕ
block_after (spans_of_lem a A) m = (span_call m a A).buffers.block
block_after (charge_of_lem a ns) m = (charge_call (tables_of m) a ns).lent.block

-- 01, Records: the record SPANS of an item and a label
abbrev pub spans_record : ℕ → ℕ → List ℕ
spans_record a A = 4 ∷ 0 ∷ 12 ∷ 0 ∷ a ∷ A ∷ []

-- a call's reply with no bytes used
abbrev pub unused : After → After
unused r = after r.answer 0 r.buffers

-- 01, Where a record is turned away: the rows of the span call
abbrev pub span_rows : Buffers → ℕ → ℕ → List Test
span_rows m a A = test (short m) 1 ∷ test (not (good m.block)) 2 ∷ test (not (is_question (Question.Spans a A))) 6 ∷ []

-- 02, Slip 1: the rows of a charge: lent memory, the block, then item and lines
abbrev pub charge_rows : Tables → ℕ → List ℕ → List Test
charge_rows m a ns = test (charge_short m ns) 1 ∷ test (not (good m.block)) 2 ∷ line_tests a (lines_of ns)
