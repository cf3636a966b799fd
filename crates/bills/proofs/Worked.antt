-- The rows are as the definitions have them: the computed charges by computing, and so the charges that must hold. Assumes nothing.
use Rattle.std.specs.Prelude.{◌≡◌, refl, List, [], ◌∷◌, map, T, Ok}
use Rattle.std.proofs.Common.{sym, subst, ⊎_elim}
use mathlib.Core.List.Memᴰ
use Rattle.terms.specs.Held.{◌∈◌}
use Rattle.terms.specs.Lists.{some, every, once, depth_count, limits}
use Rattle.terms.proofs.Limited.{every_in, limited, in_range}
use Rattle.logic.specs.Classes.{joined_b}
use Rattle.refusals.specs.Refusals.{tested}
use Rattle.tables.specs.Executed.{model}
use Rattle.spans.specs.Runs.{runs}
use Rattle.decide.specs.Answer.{answer}
use Rattle.charges.specs.Lines.{line_tests}
use Rattle.charges.specs.Sums.{with_lines}
use Rattle.bills.specs.Billed.{Charged}
use Rattle.bills.specs.Bill.{bill}
use Rattle.bills.proofs.Exact.{bill_charged}
use Rattle.bills.specs.Rows.{Row, rows}

-- 02, Slip 1: the charges are those of the rows
pub worked : map (λ r. bill r.held r.item r.lines) rows ≡ map (λ r. r.charge) rows
unfolding bill with_lines some answer model runs joined_b
worked = refl

-- what is held keeps the limits
pub within : T (every (λ r. limits r.held) rows)
unfolding limits every once some depth_count
within = tt

-- and no item or line is refused
pub accepted : map (λ r. tested (line_tests r.item r.lines)) rows ≡ map (λ r. Ok tt) rows
unfolding every
accepted = refl

-- two functions that map a list alike are alike on its elements
map_same : {X Y : Type 0} (f g : X → Y) (xs : List X) → map f xs ≡ map g xs → (x : X) → x ∈ xs → f x ≡ g x
map_same f g [] e x m = absurd (Memᴰ.not-nil m)
map_same f g (y ∷ ys) e x m =
    let a : f y ≡ g y = cc in
    let b : map f ys ≡ map g ys = cc in
    ⊎_elim (λ d. subst (λ z. f z ≡ g z) (sym d) a) (λ n. map_same f g ys b x n) (Memᴰ.cases_cons m)

-- so each is the charge that must hold
pub rows_charged : (r : Row) → r ∈ rows → Charged r.held r.item r.lines r.charge
rows_charged r m =
    let R = in_range r.held (limited r.held (every_in (λ (r : Row). limits r.held) rows within r m)) in
    subst (Charged r.held r.item r.lines) (map_same (λ (r : Row). bill r.held r.item r.lines) (λ (r : Row). r.charge) rows worked r m)
    (bill_charged r.held R r.item r.lines)
