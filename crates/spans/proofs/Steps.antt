-- A pair laid into the buffer, and what a step makes of each case. Assumes nothing.
use mathlib.Core.Path.{◌≡◌, sym, ap, ◌∙◌}
use mathlib.Core.Bool.{Bool}
use mathlib.Core.List.{List, [], ◌∷◌, ◌++◌, append-nil}
use Prim.Native.Nat.{ℕ, ◌+◌, ◌*◌, ◌≤◌}
use native.Mathlib.Omega.{arith}
use native.Mathlib.Numerals.{add-one}
use lib.IntN.{ℤ}
use lib.ListN.{length, take, drop, set, take-append-drop}
use lib.Seq.{sets-eq}
use Rattle.terms.specs.Spans.{Run, run, flat}
use Rattle.spans.specs.declared.Progress.{Progress}
use Rattle.spans.specs.Code.{laid, begun_after, ended_at, Stepped}

-- ---- values laid into a list

pub two_set : (l : List ℤ) (k : ℕ) (t b : ℤ) → k + 2 ≤ length l → set (set l k t) (k + 1) b ≡ laid l k (t ∷ b ∷ [])
unfolding laid
two_set l k t b h = ap (λ j. set (set l k t) j b) (add-one k) ∙ sets-eq (t ∷ b ∷ []) l k h

none_laid : (l : List ℤ) (k : ℕ) → l ≡ laid l k []
unfolding laid
none_laid l k =
    let e : k + 0 ≡ k = omega arith in
    sym (ap (λ j. (take k l ++ []) ++ drop j l) e ∙ ap (λ x. x ++ drop k l) (append-nil (take k l)) ∙ take-append-drop k l)

-- ---- a step, by what the pass gave

module _ (line : Run) (cs : List ℤ) (p : ℕ) (has : Bool) (g r : Progress) (before : List ℤ) (b : r.since ≡ begun_after p has g.since) where
  pub no_more : [] ≡ ended_at line cs p has g.since → r.count ≡ g.count → Stepped line cs p has g before before r
  unfolding flat
  no_more e k = record {
    begun = b;
    count = omega (arith, k, ap length e);
    buffer = none_laid before (2 * g.count) ∙ ap (λ rs. laid before (2 * g.count) (flat rs)) e;
  }

  pub one_more : (t u : ℤ) (after : List ℤ) → run t u ∷ [] ≡ ended_at line cs p has g.since → r.count ≡ g.count + 1 →
      after ≡ laid before (2 * g.count) (t ∷ u ∷ []) → Stepped line cs p has g before after r
  unfolding flat
  one_more t u after e k q = record {
    begun = b;
    count = omega (arith, k, ap length e);
    buffer = q ∙ ap (λ rs. laid before (2 * g.count) (flat rs)) e;
  }
