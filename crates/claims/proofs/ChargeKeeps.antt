-- 02, Slip 1: a charge by its rows: when it is refused, and that it leaves the block, and refused everything. Assumes nothing.
use Rattle.std.specs.Prelude.{◌≡◌, refl, ◌↔◌, List, ℕ, ◌≤◌, Ok, Err}
use Rattle.std.proofs.Common.{sym, ap, ◌∙◌}
use Rattle.terms.specs.Otherwise.{on_tested}
use Rattle.refusals.specs.Refusals.{rank, Tested, tested}
use Rattle.block.specs.Block.{read_held}
use Rattle.charges.specs.declared.Charge.{Charge}
use Rattle.charges.specs.Lines.{lines_of}
use Rattle.bills.specs.Bill.{bill}
use Rattle.bills.proofs.Exact.{bill_unrefused}
use Rattle.service.specs.Tables.{Tables, AfterCharge, after_charge}
use Rattle.service.specs.Charging.{shown, charge_call}
use Rattle.claims.specs.Table.{Ascends}
use Rattle.claims.proofs.Ascending.{ascends, tested_in}
use Rattle.claims.specs.Beside.{charge_rows}

-- what its rows come to decides
abbrev pub by_rows : Tables → ℕ → List ℕ → Tested → AfterCharge
by_rows m a ns t = let h = read_held m.block in on_tested (after_charge (bill h a (lines_of ns)) (shown h m)) (λ n. after_charge (Charge.Refused n) m) t

pub charge_by_rows : (m : Tables) (a : ℕ) (ns : List ℕ) → charge_call m a ns ≡ by_rows m a ns (tested (charge_rows m a ns))
unfolding charge_call
charge_by_rows m a ns = refl

-- 02, Slip 1: the block is left
pub charge_block : (m : Tables) (a : ℕ) (ns : List ℕ) → (charge_call m a ns).lent.block ≡ m.block
charge_block m a ns = ap (λ (r : AfterCharge). r.lent.block) (charge_by_rows m a ns) ∙ go (tested (charge_rows m a ns))
  where
    go : (t : Tested) → (by_rows m a ns t).lent.block ≡ m.block
    go (Ok passed) = refl
    go (Err n) = refl

-- 02, Slip 1: it is refused with n exactly if that is what its rows come to
pub charge_refused : (m : Tables) (a : ℕ) (ns : List ℕ) (n : ℕ) → ((charge_call m a ns).answer ≡ Charge.Refused n) ↔ (tested (charge_rows m a ns) ≡ Err n)
charge_refused m a ns n = (
  λ e. there (tested (charge_rows m a ns)) (ap (λ (r : AfterCharge). r.answer) (sym (charge_by_rows m a ns)) ∙ e),
  λ e. ap (λ (r : AfterCharge). r.answer) (charge_by_rows m a ns ∙ ap (by_rows m a ns) e),
)
  where
    there : (t : Tested) → (by_rows m a ns t).answer ≡ Charge.Refused n → t ≡ Err n
    there (Ok passed) e = absurd (bill_unrefused (read_held m.block) a (lines_of ns) n e)
    there (Err k) e = let f : k ≡ n = cc in ap Err f

-- the rows ascend by rank: 1, 2, 6, 13
pub charge_rows_ascend : (m : Tables) (a : ℕ) (ns : List ℕ) → Ascends (rank 1) (rank 13) (charge_rows m a ns)
unfolding rank
charge_rows_ascend m a ns = ascends (rank 1) (rank 13) (charge_rows m a ns) tt

-- so what is given has a rank up to that of 13
pub charge_ranked : (m : Tables) (a : ℕ) (ns : List ℕ) (n : ℕ) → (charge_call m a ns).answer ≡ Charge.Refused n → rank n ≤ rank 13
charge_ranked m a ns n e = (tested_in (rank 1) (rank 13) (charge_rows m a ns) (charge_rows_ascend m a ns) n ((charge_refused m a ns n).0 e)).1

-- 02, Slip 1: refused it leaves everything as it was lent
pub charge_refused_keeps : (m : Tables) (a : ℕ) (ns : List ℕ) (n : ℕ) → (charge_call m a ns).answer ≡ Charge.Refused n → (charge_call m a ns).lent ≡ m
charge_refused_keeps m a ns n e =
    ap (λ (r : AfterCharge). r.lent) (charge_by_rows m a ns ∙ ap (by_rows m a ns) ((charge_refused m a ns n).0 e))
