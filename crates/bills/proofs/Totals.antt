-- What running sums come to: what was there, and what spans and lines add; and which spans the sums take to have no end. Assumes nothing.
use Rattle.std.specs.Prelude.{◌≡◌, refl, ◌⊎◌, Bool, true, false, cond, ◌||◌, List, [], ◌∷◌, ℕ, ◌+◌, T, ◌≤ℤ◌}
use Rattle.std.proofs.Common.{sym, ap, ◌∙◌, inl, inr, arith}
use Rattle.std.specs.Int.Signed.{le_z, le_z_yes}
use Rattle.terms.specs.Order.{ints}
use Rattle.terms.specs.Tests.{or_one, or_left, or_right}
use Rattle.terms.specs.Limits.{NO_TOP, NO_BOTTOM}
use Rattle.terms.specs.Lists.{some}
use Rattle.terms.specs.Spans.{Run, Ordered}
use Rattle.charges.specs.declared.PriceLine.{PriceLine}
use Rattle.charges.specs.declared.Sum.{Sum}
use Rattle.charges.specs.declared.Charge.TheVariants as Charge
use Rattle.charges.specs.Costs.{cost, costs, Open}
use Rattle.charges.specs.Sums.{nothing, is_open, with_span, with_spans, with_lines, charge_of}

-- ---- spans without an end

-- the test passes them
pub open_passes : (r : Run) → Open r → T (is_open r)
open_passes r (inl e) = let l : r.top ≤ℤ NO_TOP = omega ints in or_left (le_z r.top NO_TOP) (le_z NO_BOTTOM r.bottom) l.le
open_passes r (inr e) = let l : NO_BOTTOM ≤ℤ r.bottom = omega ints in or_right (le_z r.top NO_TOP) (le_z NO_BOTTOM r.bottom) l.le

-- and of ordered runs no other
pub passes_open : (r : Run) → Ordered r → T (is_open r) → Open r
passes_open r o t = go (or_one (le_z r.top NO_TOP) (le_z NO_BOTTOM r.bottom) t)
  where
    go : T (le_z r.top NO_TOP) ⊎ T (le_z NO_BOTTOM r.bottom) → Open r
    go (inl u) = let l : r.top ≤ℤ NO_TOP = le_z_yes u in inl (omega (ints, o.low))
    go (inr u) = let l : NO_BOTTOM ≤ℤ r.bottom = le_z_yes u in inr (omega (ints, o.high))

-- ---- sums

-- so much more, and open where it was or this is
abbrev pub plus : Sum → ℕ → Bool → Sum
plus s n o = record { total = s.total + n; endless = s.endless || o }

-- laws of "or"
or_none : (a : Bool) → (a || false) ≡ a
or_none true = refl
or_none false = refl

or_assoc : (a b c : Bool) → ((a || b) || c) ≡ (a || (b || c))
or_assoc true b c = refl
or_assoc false b c = refl

pub or_comm : (a b : Bool) → (a || b) ≡ (b || a)
or_comm true true = refl
or_comm true false = refl
or_comm false true = refl
or_comm false false = refl

-- nothing more
plus_none : (s : Sum) → s ≡ plus s 0 false
plus_none s =
    let e : s.total ≡ s.total + 0 = omega arith in
    let f = sym (or_none s.endless) in
    λ i. record { total = e i; endless = f i }

-- more, twice
plus_plus : (s : Sum) (m n : ℕ) (o p : Bool) → plus (plus s m o) n p ≡ plus s (m + n) (o || p)
plus_plus s m n o p =
    let e : s.total + m + n ≡ s.total + (m + n) = omega arith in
    let f = or_assoc s.endless o p in
    λ i. record { total = e i; endless = f i }

-- in either order
pub plus_swap : (s : Sum) (m n : ℕ) (o p : Bool) → plus (plus s m o) n p ≡ plus (plus s n p) m o
plus_swap s m n o p =
    let e : s.total + m + n ≡ s.total + n + m = omega arith in
    let f = or_assoc s.endless o p ∙ (ap (λ b. s.endless || b) (or_comm o p) ∙ sym (or_assoc s.endless p o)) in
    λ i. record { total = e i; endless = f i }

-- the spans of a line add what they cost, and are open where one of them has no end
pub spans_sum : (l : PriceLine) (s : Sum) (rs : List Run) → with_spans l s rs ≡ plus s (costs l rs) (some is_open rs)
unfolding some
spans_sum l s [] = plus_none s
spans_sum l s (r ∷ rs) = spans_sum l (with_span l s r) rs ∙ plus_plus s (cost l r) (costs l rs) (is_open r) (some is_open rs)

-- what lines cost by the spans of each
unfoldable pub costs_of : (PriceLine → List Run) → List PriceLine → ℕ
costs_of spans [] = 0
costs_of spans (l ∷ ls) = costs l (spans l) + costs_of spans ls

-- a line has a span without an end
abbrev pub some_open : (PriceLine → List Run) → List PriceLine → Bool
some_open spans ls = some (λ l. some is_open (spans l)) ls

-- so do lines, of which each adds its spans
pub lines_sum : (spans : PriceLine → List Run) (s : Sum) (ls : List PriceLine) → with_lines spans s ls ≡ plus s (costs_of spans ls) (some_open spans ls)
unfolding with_lines costs_of some
lines_sum spans s [] = plus_none s
lines_sum spans s (l ∷ ls) =
    lines_sum spans (with_spans l s (spans l)) ls
    ∙ (ap (λ (t : Sum). plus t (costs_of spans ls) (some_open spans ls)) (spans_sum l s (spans l))
    ∙ plus_plus s (costs l (spans l)) (costs_of spans ls) (some is_open (spans l)) (some_open spans ls))

-- so the charge by lines from nothing on is open where one of them is, else what they cost
pub lines_charge : (spans : PriceLine → List Run) (ls : List PriceLine) →
    charge_of (with_lines spans nothing ls) ≡ cond (some_open spans ls) Charge.Open (Charge.Total (costs_of spans ls))
lines_charge spans ls =
    let e : 0 + costs_of spans ls ≡ costs_of spans ls = omega arith in
    ap charge_of (lines_sum spans nothing ls) ∙ ap (λ n. cond (some_open spans ls) Charge.Open (Charge.Total n)) e
