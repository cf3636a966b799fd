-- 02, Slip 1: the charge call beside the records, whole: from what is lent, an item and price lines to the answer and what is lent afterwards.
use Rattle.std.specs.Prelude.{not, List, [], ◌∷◌, ◌++◌, ℕ, drop}
use Rattle.terms.specs.Limits.{LABEL_ENTRIES, LINK_ENTRIES}
use Rattle.terms.specs.Held.{Held}
use Rattle.terms.specs.Otherwise.{on_tested}
use Rattle.refusals.specs.Refusals.{Test, test, tested}
use Rattle.block.specs.Block.{read_held, good}
use Rattle.tables.specs.Tables.{label_table, link_table}
use Rattle.charges.specs.declared.Charge.{Charge}
use Rattle.charges.specs.Lines.{lines_of, line_tests}
use Rattle.bills.specs.Bill.{bill}
use Rattle.service.specs.Tables.{Tables, tables, AfterCharge, after_charge, charge_short}

-- ---- its refusals

abbrev pub lent_tests : Tables → List ℕ → List Test
lent_tests m ns = test (charge_short m ns) 1 ∷ test (not (good m.block)) 2 ∷ []

-- ---- what it leaves

-- 02, Slip 1: the tables end as after SPANS; tails and the block are kept
abbrev pub shown : Held → Tables → Tables
shown h m = tables m.block (label_table h ++ drop LABEL_ENTRIES m.labels) (link_table h ++ drop LINK_ENTRIES m.links)

-- 02, Slip 1: lent memory first, then item and lines, then the charge
unfoldable pub charge_call : Tables → ℕ → List ℕ → AfterCharge
charge_call m a ns =
    let h = read_held m.block in
    on_tested (after_charge (bill h a (lines_of ns)) (shown h m)) (λ n. after_charge (Charge.Refused n) m) (tested (lent_tests m ns ++ line_tests a (lines_of ns)))
