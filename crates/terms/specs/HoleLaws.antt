-- The laws of the hole: a depth in it, what lies between two of its depths, the line's two ends, and what parts two of its depths. Assumes nothing.
use Rattle.std.specs.Prelude.{◌≡◌, refl, ◌↔◌, Bool, ◌&&◌, T, ℤ, pos, ◌≤ℤ◌, ◌<ℤ◌}
use Rattle.std.proofs.Common.{inl, inr, ⊎_elim}
use Rattle.std.proofs.Math.IntN.{pred_ℤ}
use Rattle.std.specs.Int.Signed.{le_z, lt_z, le_z_yes, lt_z_yes}
use Rattle.terms.specs.declared.Hole.{Hole}
use Rattle.terms.specs.declared.Hole.TheVariants.{Whole, Part}
use Rattle.terms.specs.Order.{ints, pred_is, ≤-refl}
use Rattle.terms.specs.Tests.{and_both, both_and, same_test}
use Rattle.terms.specs.Limits.{SHALLOWEST, DEEPEST, NO_TOP, NO_BOTTOM, is_depth}
use Rattle.terms.specs.Holes.{is_inside, InHole, is_hole}
use Rattle.terms.specs.Spans.{Run, run, Covers, Ordered}

-- the ends of a hole, as facts
pub part_ends : (t b i : ℤ) → InHole (Part t b) i → (t ≤ℤ i) × (i ≤ℤ b)
part_ends t b i e = let w = and_both (le_z t i) (le_z i b) e in (le_z_yes w.0, le_z_yes w.1)

pub ends_part : (t b i : ℤ) → t ≤ℤ i → i ≤ℤ b → InHole (Part t b) i
ends_part t b i l k = both_and (le_z t i) (le_z i b) l.le k.le

-- what lies between two depths that exist exists
pub between_inside : (H : Hole) (i j k : ℤ) → InHole H i → InHole H k → i ≤ℤ j → j ≤ℤ k → InHole H j
between_inside Whole i j k e f l m = tt
between_inside (Part t b) i j k e f l m =
    let u = part_ends t b i e in
    let v = part_ends t b k f in
    ends_part t b j (omega (ints, u.0)) (omega (ints, v.1))

-- 02, Slip 5: a hole has a depth: its top may be its bottom
abbrev pub point : Hole → ℤ
point Whole = pos 0
point (Part t b) = t

pub record GoodPart (t b : ℤ) : Type 0 where
  pub top_low : SHALLOWEST ≤ℤ t
  pub order : t ≤ℤ b
  pub bottom_high : b ≤ℤ DEEPEST

pub good_part : (t b : ℤ) → T (is_hole (Part t b)) → GoodPart t b
good_part t b g =
    let u = and_both (is_depth t && is_depth b) (le_z t b) g in
    let v = and_both (is_depth t) (is_depth b) u.0 in
    record {
      top_low = le_z_yes (and_both (le_z SHALLOWEST t) (le_z t DEEPEST) v.0).0;
      order = le_z_yes u.1;
      bottom_high = le_z_yes (and_both (le_z SHALLOWEST b) (le_z b DEEPEST) v.1).1;
    }

pub point_inside : (H : Hole) → T (is_hole H) → InHole H (point H)
point_inside Whole g = tt
point_inside (Part t b) g = ends_part t b t (≤-refl t) (good_part t b g).order

-- ---- the line's two ends: the numbers that mean no end without a hole, else the hole's

abbrev pub line_of : Hole → Run
line_of Whole = run NO_TOP NO_BOTTOM
line_of (Part t b) = run t b

pub line_ordered : (H : Hole) → T (is_hole H) → Ordered (line_of H)
line_ordered Whole g = record { low = omega ints; order = omega ints; high = omega ints }
line_ordered (Part t b) g = let w = good_part t b g in record { low = omega (ints, w.top_low); order = w.order; high = omega (ints, w.bottom_high) }

-- a depth exists exactly if the line's ends, read as a span's, cover it
pub line_covers : (H : Hole) → T (is_hole H) → (i : ℤ) → Covers (line_of H) i ↔ InHole H i
line_covers Whole g i = (λ c. tt, λ e. record { above = inl refl; below = inl refl })
line_covers (Part t b) g i =
    let w = good_part t b g in (
      λ c. ends_part t b i
          (⊎_elim (λ e. let z : ⊥ = omega (ints, w.top_low) in absurd z) (λ l. l) c.above)
          (⊎_elim (λ e. let z : ⊥ = omega (ints, w.bottom_high) in absurd z) (λ l. l) c.below),
      λ e. let v = part_ends t b i e in record { above = inr v.0; below = inr v.1 },
    )

-- ---- cuts

-- a cut parts two depths that exist
abbrev pub is_cut : Hole → ℤ → Bool
is_cut H c = is_inside H (pred_ℤ c) && is_inside H c

pub cut_inside : (H : Hole) (c : ℤ) → T (is_cut H c) → InHole H (pred_ℤ c) × InHole H c
cut_inside H c g = and_both (is_inside H (pred_ℤ c)) (is_inside H c) g

-- so what lies below one depth that exists, down to another, is a cut
pub inside_cut : (H : Hole) (i c j : ℤ) → InHole H i → InHole H j → i <ℤ c → c ≤ℤ j → T (is_cut H c)
inside_cut H i c j e f l m =
    both_and (is_inside H (pred_ℤ c)) (is_inside H c)
    (between_inside H i (pred_ℤ c) j e f (omega (ints, pred_is c)) (omega (ints, pred_is c)))
    (between_inside H i c j e f (omega ints) m)

-- strictly inside the line's ends
pub cut_within : (H : Hole) (c : ℤ) → T (is_hole H) → NO_TOP <ℤ c → c ≤ℤ NO_BOTTOM → T (is_cut H c) → ((line_of H).top <ℤ c) × (c ≤ℤ (line_of H).bottom)
cut_within Whole c g l m t = (l, m)
cut_within (Part t b) c g l m s =
    let w = cut_inside (Part t b) c s in
    let u = part_ends t b (pred_ℤ c) w.0 in
    let v = part_ends t b c w.1 in
    (omega (ints, u.0, pred_is c), v.1)

-- ---- the test that code makes

-- a cut of a hole, by its ends
pub part_cut : (t b c : ℤ) → (lt_z t c && le_z c b) ≡ is_cut (Part t b) c
part_cut t b c = same_test (lt_z t c && le_z c b) (is_cut (Part t b) c)
    (λ e.
    let w = and_both (lt_z t c) (le_z c b) e in
    let x : t <ℤ c = lt_z_yes w.0 in
    let y : c ≤ℤ b = le_z_yes w.1 in
    both_and (is_inside (Part t b) (pred_ℤ c)) (is_inside (Part t b) c)
    (ends_part t b (pred_ℤ c) (omega (ints, pred_is c)) (omega (ints, pred_is c)))
    (ends_part t b c (omega ints) y))
    (λ e.
    let w = cut_inside (Part t b) c e in
    let u = part_ends t b (pred_ℤ c) w.0 in
    let v = part_ends t b c w.1 in
    let x : t <ℤ c = omega (ints, u.0, pred_is c) in
    both_and (lt_z t c) (le_z c b) x.lt v.1.le)
