-- What is derived holds at all depths beyond those where marks lie or at none, so that it changes at finite depths only. Assumes nothing.
use Rattle.std.specs.Prelude.{◌≡◌, T, ℤ, ◌≤ℤ◌, ◌<ℤ◌}
use Rattle.std.proofs.Common.{sym, subst, inr, ⊎_elim}
use Rattle.std.specs.Int.Signed.{le_z}
use Rattle.terms.specs.declared.Atom.{Atom}
use Rattle.terms.specs.declared.Hole.{Hole}
use Rattle.terms.specs.declared.Hole.TheVariants.{Whole, Part}
use Rattle.terms.specs.Order.{ints, tests, suc_is, le_or_gt}
use Rattle.terms.specs.Tests.{and_both}
use Rattle.terms.specs.Limits.{SHALLOWEST, DEEPEST, NO_TOP, NO_BOTTOM}
use Rattle.terms.specs.Holes.{InHole, is_hole}
use Rattle.terms.specs.Held.{Held, hole_in}
use Rattle.terms.specs.HoleLaws.{part_ends, good_part}
use Rattle.terms.proofs.Ends.{ends_placed}
use Rattle.terms.proofs.Limited.{InRange}
use Rattle.logic.specs.Model.{Least}
use Rattle.logic.specs.Depths.{Derived}
use Rattle.logic.proofs.Inside.{derived_inside}
use Rattle.line.specs.Pieces.{Unmarked}
use Rattle.line.specs.Intervals.{interval, intervals}
use Rattle.line.proofs.IntervalLaws.{by_intervals, one_interval}
use Rattle.moves.proofs.Moves.{Side, upper, lower, gone}
use Rattle.moves.proofs.Motions.{Beside}

-- a depth beyond those where marks lie, on this side
abbrev pub Far : Side → ℤ → Type 0
Far upper i = i <ℤ SHALLOWEST
Far lower i = DEEPEST <ℤ i

-- a set of depths that has all of those or none
pub record Steady (S : ℤ → Type 0) : Type 0 where
  pub far : (κ : Side) (i j : ℤ) → Far κ i → Far κ j → S i → S j

-- a number that means an end, and not that there is none
pub record Finite (e : ℤ) : Type 0 where
  pub low : NO_TOP <ℤ e
  pub high : e <ℤ NO_BOTTOM

-- so it is neither of the numbers that say that
pub not_gone : (κ : Side) (e : ℤ) → Finite e → e ≡ gone κ → ⊥
not_gone upper e w d = omega (ints, w.low)
not_gone lower e w d = omega (ints, w.high)

-- where a steady set changes from a depth to the next, the depth is finite
pub change_finite : {S : ℤ → Type 0} → Steady S → (x y : ℤ) → Beside x y → S x → (S y → ⊥) → Finite x
change_finite {S} W x y b s n = record {
  low = ⊎_elim (λ l. absurd (n (W.far upper x y (omega ints) (omega (ints, suc_is x, b.high)) s))) (λ l. l) (le_or_gt x NO_TOP);
  high = ⊎_elim (λ l. absurd (n (W.far lower x y (omega ints) (omega (ints, suc_is y, b.low)) s))) (λ l. l) (le_or_gt NO_BOTTOM x);
}

-- ---- the least model

-- a hole ends where marks may lie: where there is one, no depth beyond exists
far_inside : (κ : Side) (H : Hole) (i j : ℤ) → T (is_hole H) → Far κ i → InHole H i → InHole H j
far_inside κ Whole i j g a e = tt
far_inside upper (Part t b) i j g a e = let z : ⊥ = omega (ints, (good_part t b g).top_low, (part_ends t b i e).0) in absurd z
far_inside lower (Part t b) i j g a e = let z : ⊥ = omega (ints, (good_part t b g).bottom_high, (part_ends t b i e).1) in absurd z

module _ (h : Held) (R : InRange h) where
  -- no mark ends there
  far_unmarked : (κ : Side) (i j : ℤ) → Far κ i → Far κ j → Unmarked h.marks i j
  far_unmarked κ i j a b = record {
    none = λ d m l k. let w = and_both (le_z SHALLOWEST d) (le_z d DEEPEST) (ends_placed h.marks R.marks d m) in go κ d a b l k w.0 w.1;
  }
    where
      go : (κ : Side) (d : ℤ) → Far κ i → Far κ j → i ≤ℤ d → d ≤ℤ j → T (le_z SHALLOWEST d) → T (le_z d DEEPEST) → ⊥
      go upper d a b l k u v = omega (ints, tests)
      go lower d a b l k u v = omega (ints, tests)

  -- so those depths are in one interval
  far_one : (κ : Side) (i j : ℤ) → InHole (hole_in h) i → InHole (hole_in h) j → Far κ i → Far κ j → interval h i ≡ interval h j
  far_one κ i j o p a b =
      ⊎_elim
      (λ l. (one_interval h i j o p l).1 (inr (far_unmarked κ i j a b)))
      (λ l. sym ((one_interval h j i p o (omega ints)).1 (inr (far_unmarked κ j i b a))))
      (le_or_gt i j)

  -- 01, Pieces of the line: and what is derived is the same at each
  pub derived_steady : (x : Atom) → Steady (Derived h x)
  derived_steady x = record {
    far = λ κ i j a b d.
        let o = derived_inside h d in
        let p = far_inside κ (hole_in h) i j R.hole a o in
        (by_intervals h x j p).0 (subst (Least (intervals h) h.rules x) (far_one κ i j o p a b) ((by_intervals h x i o).1 d));
  }
