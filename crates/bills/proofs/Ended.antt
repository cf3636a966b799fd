-- When a bill is open: exactly if a listed label is so at all depths above some depth, or at all below some. So it is not in a hole (02, Slip 5), nor by
-- rules in the print profile for labels other than EVERY (02, Slip 10). Assumes nothing.
use Rattle.std.specs.Prelude.{◌≡◌, ◌⊎◌, ◌↔◌, not, List, ℕ, T, ℤ, ◌≤ℤ◌, ◌<ℤ◌}
use Rattle.std.proofs.Common.{subst, inl, inr, ⊎_elim}
use Rattle.std.proofs.Math.IntN.{suc_ℤ, pred_ℤ}
use Rattle.std.specs.Int.Signed.{le_z, le_z_yes}
use Rattle.terms.specs.declared.Atom.TheVariants.{Has}
use Rattle.terms.specs.declared.Hole.TheVariants.{Part}
use Rattle.terms.specs.declared.Question.TheVariants as Question
use Rattle.terms.specs.Order.{ints, suc_is, pred_is, le_or_gt}
use Rattle.terms.specs.Tests.{and_both}
use Rattle.terms.specs.Limits.{SHALLOWEST, DEEPEST, NO_TOP, NO_BOTTOM}
use Rattle.terms.specs.Profiles.{is_every}
use Rattle.terms.specs.Holes.{InHole, is_hole}
use Rattle.terms.specs.HoleLaws.{part_ends, good_part}
use Rattle.terms.specs.Held.{◌∈◌, Held, hole_in}
use Rattle.terms.proofs.Ends.{ends_placed}
use Rattle.terms.proofs.Limited.{InRange}
use Rattle.terms.specs.Spans.{Run, Longest}
use Rattle.logic.specs.Depths.{Derived}
use Rattle.logic.proofs.Inside.{derived_inside}
use Rattle.logic.specs.Printed.{Profiled}
use Rattle.logic.proofs.PrintedLaws.{derived_within}
use Rattle.spans.proofs.Longest.{ordered_in}
use Rattle.decide.specs.Decides.{Never}
use Rattle.decide.specs.Answer.{answer}
use Rattle.decide.proofs.Decide.{spans_exactly}
use Rattle.moves.proofs.Steady.{Finite}
use Rattle.charges.specs.declared.PriceLine.{PriceLine}
use Rattle.charges.specs.declared.Charge.TheVariants as Charge
use Rattle.charges.specs.Costs.{Open}
use Rattle.bills.specs.Billed.{asked}
use Rattle.bills.specs.Bill.{spans_in, bill}
use Rattle.bills.proofs.Exact.{told, bill_charged}

-- ---- open, by depths

-- the set has all depths above some depth, or all below some
abbrev pub Endless : (ℤ → Type 0) → Type 0
Endless S = (i : ℤ) × (((j : ℤ) → j ≤ℤ i → S j) ⊎ ((j : ℤ) → i ≤ℤ j → S j))

-- above and below each depth there is one beyond the numbers that mean no end
above : (i : ℤ) → (j : ℤ) × (j ≤ℤ i) × (j <ℤ NO_TOP)
above i =
    ⊎_elim (λ l. (pred_ℤ i, omega (ints, pred_is i), omega (ints, pred_is i)))
    (λ l. (pred_ℤ NO_TOP, omega (ints, pred_is NO_TOP), omega (ints, pred_is NO_TOP))) (le_or_gt i NO_TOP)

below : (i : ℤ) → (j : ℤ) × (i ≤ℤ j) × (NO_BOTTOM <ℤ j)
below i =
    ⊎_elim (λ l. (suc_ℤ i, omega (ints, suc_is i), omega (ints, suc_is i)))
    (λ l. (suc_ℤ NO_BOTTOM, omega (ints, suc_is NO_BOTTOM), omega (ints, suc_is NO_BOTTOM))) (le_or_gt NO_BOTTOM i)

-- so such a set has one
far : {S : ℤ → Type 0} → Endless S → (j : ℤ) × S j × ((j <ℤ NO_TOP) ⊎ (NO_BOTTOM <ℤ j))
far (i, w) = ⊎_elim (λ k. let (j, l, o) = above i in (j, k j l, inl o)) (λ k. let (j, l, o) = below i in (j, k j l, inr o)) w

-- 01, Records: a longest run has no end exactly if the set has none
pub open_exactly : (S : ℤ → Type 0) (rs : List Run) → Longest S rs → ((r : Run) × (r ∈ rs) × Open r) ↔ Endless S
open_exactly S rs L = (
  λ w.
      let (r, m, o) = w in
      let v = ordered_in rs L.apart r m in
      ⊎_elim
      (λ e. (r.top, inl (λ j l. (L.exact j).0 (r, m, record { above = inl e; below = inr (omega (ints, v.order)) }))))
      (λ e. (r.bottom, inr (λ j l. (L.exact j).0 (r, m, record { above = inr (omega (ints, v.order)); below = inl e })))) o,
  λ w.
      let (j, s, o) = far w in
      let (r, m, c) = (L.exact j).1 s in
      let v = ordered_in rs L.apart r m in (
        r,
        m,
        ⊎_elim
            (λ l. inl (⊎_elim (λ e. e) (λ g. let z : ⊥ = omega (ints, v.low) in absurd z) c.above))
            (λ l. inr (⊎_elim (λ e. e) (λ g. let z : ⊥ = omega (ints, v.high) in absurd z) c.below)) o,
      ),
)

-- 02, Slip 1: the bill is open exactly if no item concerned has NEVER and a listed label has no end
pub bill_open : (h : Held) → InRange h → (a : ℕ) (ls : List PriceLine) →
    (bill h a ls ≡ Charge.Open) ↔ ((Never h (asked a) → ⊥) × ((l : PriceLine) × (l ∈ ls) × Endless (Derived h (Has a l.label))))
bill_open h R a ls = let u = (bill_charged h R a ls).by_model.unended in (
  λ e.
      let (N, w) = u.0 e in
      (N, (w.line, w.listed, (open_exactly (Derived h (Has a w.line.label)) w.spans w.longest).0 (w.span, w.among, w.endless))),
  λ v.
      let (N, (l, m, E)) = v in
      let rs = spans_in (answer h (Question.Spans a l.label)) in
      let L : Longest (Derived h (Has a l.label)) rs = ((spans_exactly h R a l.label rs).0 (told h R a N l.label)).1 in
      let (r, n, o) = (open_exactly (Derived h (Has a l.label)) rs L).1 E in
      u.1 (N, record { line = l; listed = m; spans = rs; longest = L; span = r; among = n; endless = o }),
)

-- ---- where no bill is open

-- nor is it where each listed label is so at finite depths alone
bill_ended : (h : Held) → InRange h → (a : ℕ) (ls : List PriceLine) → ((l : PriceLine) → l ∈ ls → (i : ℤ) → Derived h (Has a l.label) i → Finite i) →
    bill h a ls ≡ Charge.Open → ⊥
bill_ended h R a ls f e =
    let (N, (l, m, E)) = (bill_open h R a ls).0 e in
    let (j, d, o) = far E in
    let w = f l m j d in
    ⊎_elim (λ k. omega (ints, w.low)) (λ k. omega (ints, w.high)) o

-- 02, Slip 5: as in a hole, where nothing is derived outside
pub bill_in_hole : (h : Held) → InRange h → (t b : ℤ) → hole_in h ≡ Part t b → (a : ℕ) (ls : List PriceLine) → bill h a ls ≡ Charge.Open → ⊥
bill_in_hole h R t b e a ls = bill_ended h R a ls (λ l m i d. finite i (subst (λ H. InHole H i) e (derived_inside h d)))
  where
    finite : (i : ℤ) → InHole (Part t b) i → Finite i
    finite i o =
        let w = part_ends t b i o in
        let g = good_part t b (subst (λ H. T (is_hole H)) e R.hole) in
        record { low = omega (ints, w.0, g.top_low); high = omega (ints, w.1, g.bottom_high) }

-- 02, Slip 10: and where all held rules are in the print profile and no line names EVERY, since nothing else is derived beyond the marked depths
pub bill_in_profile : (h : Held) → InRange h → Profiled h → (a : ℕ) (ls : List PriceLine) → ((l : PriceLine) → l ∈ ls → T (not (is_every l.label))) →
    bill h a ls ≡ Charge.Open → ⊥
bill_in_profile h R p a ls n = bill_ended h R a ls (λ l m i d.
    let w = derived_within h p d (n l m) in
    let top = and_both (le_z SHALLOWEST w.top) (le_z w.top DEEPEST) (ends_placed h.marks R.marks w.top w.top_marked) in
    let bottom = and_both (le_z SHALLOWEST w.bottom) (le_z w.bottom DEEPEST) (ends_placed h.marks R.marks w.bottom w.bottom_marked) in
    let low : SHALLOWEST ≤ℤ w.top = le_z_yes top.0 in
    let high : w.bottom ≤ℤ DEEPEST = le_z_yes bottom.1 in
    record { low = omega (ints, w.above); high = omega (ints, w.below) })
