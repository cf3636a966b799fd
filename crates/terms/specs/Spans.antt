-- Runs of consecutive depths.
use Rattle.std.specs.Prelude.{◌≡◌, ◌⊎◌, ◌↔◌, List, [], ◌∷◌, ℤ, ◌≤ℤ◌, ◌<ℤ◌}
use Rattle.std.proofs.Math.IntN.{suc_ℤ}
use Rattle.terms.specs.Limits.{NO_TOP, NO_BOTTOM}
use Rattle.terms.specs.Held.{◌∈◌}

-- 01, Records: a span, from its top to its bottom
pub record Run : Type 0 where
  pub top : ℤ
  pub bottom : ℤ

abbrev pub run : ℤ → ℤ → Run
run t b = record { top = t; bottom = b }

-- 01, Records: the depth lies in the span; the two numbers that mean no end leave that side open
pub record Covers (r : Run) (i : ℤ) : Type 0 where
  pub above : (r.top ≡ NO_TOP) ⊎ (r.top ≤ℤ i)
  pub below : (r.bottom ≡ NO_BOTTOM) ⊎ (i ≤ℤ r.bottom)

-- it lies in one of them
abbrev pub Covered : List Run → ℤ → Type 0
Covered rs i = (r : Run) × (r ∈ rs) × Covers r i

-- the top is not deeper than the bottom, and neither lies beyond its number for no end
pub record Ordered (r : Run) : Type 0 where
  pub low : NO_TOP ≤ℤ r.top
  pub order : r.top ≤ℤ r.bottom
  pub high : r.bottom ≤ℤ NO_BOTTOM

-- 01, Records: shallow to deep, and longest: a depth lies between each two
abbrev pub Apart : List Run → Type 0
Apart [] = Unit {0}
Apart (r ∷ rs) = Ordered r × ((s : Run) → s ∈ rs → suc_ℤ r.bottom <ℤ s.top) × Apart rs

-- 01, Records: the longest runs of a set of depths
pub record Longest (S : ℤ → Type 0) (rs : List Run) : Type 0 where
  pub apart : Apart rs
  pub exact : (i : ℤ) → Covered rs i ↔ S i

-- 01, Records: the pairs as they are written
unfoldable pub flat : List Run → List ℤ
flat [] = []
flat (r ∷ rs) = r.top ∷ r.bottom ∷ flat rs
