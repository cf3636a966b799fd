-- 02, Slip 1: which charge it is, what it must answer, and what it keeps.
use Rattle.std.specs.Prelude.{◌≡◌, false, List, ℕ, ◌≤◌, ℤ, Ok}
use Rattle.terms.specs.Limits.{INTERVALS, LABEL_ENTRIES, LINK_ENTRIES}
use Rattle.terms.specs.Held.{Held, hole_in}
use Rattle.refusals.specs.Refusals.{tested}
use Rattle.line.specs.Pieces.{Pieces}
use Rattle.tables.specs.Shows.{Shows}
use Rattle.charges.specs.declared.PriceLine.{PriceLine}
use Rattle.charges.specs.Lines.{lines_of, line_tests}
use Rattle.bills.specs.Billed.{Charged}
use Rattle.service.specs.Tables.{Tables, AfterCharge, charge_short}
use Rattle.claims.specs.Exact.{Holding}
use Rattle.claims.specs.Memory.{WrittenIn}

-- a charge on a block that holds h, with enough lent, whose item and lines are in order
pub record Charging (m : Tables) (a : ℕ) (ns : List ℕ) (h : Held) : Type 0 where
  pub block : Holding m.block h
  pub lent : charge_short m ns ≡ false
  pub in_order : tested (line_tests a (lines_of ns)) ≡ Ok tt

-- 02, Slip 1: its answer, and both tables as after SPANS: each bit, by 01's numbering of the pieces, in a hole of its pieces alone, 193 at most
pub record ExactCharge (h : Held) (a : ℕ) (ls : List PriceLine) (r : AfterCharge) : Type 0 where
  pub charge : Charged h a ls r.answer
  pub number : ℤ → ℕ
  pub count : ℕ
  pub few : count ≤ INTERVALS
  pub pieces : Pieces (hole_in h) h.marks number count
  pub tables : Shows h number count r.lent.labels r.lent.links

-- 02, Slip 1: the block is as lent, and so is everything behind the tables
pub record TablesKept (m after : Tables) : Type 0 where
  pub block : after.block ≡ m.block
  pub labels : WrittenIn LABEL_ENTRIES m.labels after.labels
  pub links : WrittenIn LINK_ENTRIES m.links after.links
