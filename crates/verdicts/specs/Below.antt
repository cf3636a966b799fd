-- Laws of a search among the numbers below a bound, and of the lowest that passes. Assumes nothing.
use Rattle.std.specs.Prelude.{Option, Some, ◌≡◌, refl, ◌⊎◌, Bool, true, false, ◌&&◌, List, ℕ, zero, suc, ◌+◌, ◌<◌, ◌≤◌, T}
use Rattle.std.proofs.Common.{sym, ap, subst, inl, inr, ⊎_elim, true≢false, eq-or-lt_of_le, arith}
use Rattle.terms.specs.Tests.{or_one, or_left, or_right}
use Rattle.terms.specs.Limits.{ITEMS}
use Rattle.verdicts.specs.Reading.{any_below, lowest_of, never_in, clashes_in, clash_in}

pub one_below : (n : ℕ) (f : ℕ → Bool) (p : ℕ) → p < n → T (f p) → T (any_below n f)
one_below zero f p l t = let z : ⊥ = omega arith in absurd z
one_below (suc n) f p l t =
    let h : p ≤ n = omega arith in
    ⊎_elim (λ e. or_left (f n) (any_below n f) (subst (λ q. T (f q)) e t)) (λ k. or_right (f n) (any_below n f) (one_below n f p k t)) (eq-or-lt_of_le h)

pub below_one : (n : ℕ) (f : ℕ → Bool) → T (any_below n f) → (p : ℕ) × (p < n) × T (f p)
below_one zero f t = absurd t
below_one (suc n) f t = go (or_one (f n) (any_below n f) t) (λ k. below_one n f k)
  where
    go : T (f n) ⊎ T (any_below n f) → (T (any_below n f) → (p : ℕ) × (p < n) × T (f p)) → (p : ℕ) × (p < suc n) × T (f p)
    go (inl t) k = (n, omega arith, t)
    go (inr t) k = let w = k t in (w.0, omega (arith, w.1), w.2)

-- the lowest that passes goes by the tests of those that are looked at
pub lowest_same : (n a : ℕ) (f g : ℕ → Bool) → ((b : ℕ) → b < a + n → f b ≡ g b) → lowest_of f n a ≡ lowest_of g n a
lowest_same zero a f g e = refl
lowest_same (suc n) a f g e = go (f a) (g a) (e a (omega arith)) (lowest_same n (suc a) f g (λ b l. e b (omega arith)))
  where
    go : (s t : Bool) → s ≡ t → lowest_of f n (suc a) ≡ lowest_of g n (suc a) →
        ◌≡◌ {A = Option ℕ} (elim s [ true ↦ Some a | false ↦ lowest_of f n (suc a) ])
        (elim t [ true ↦ Some a | false ↦ lowest_of g n (suc a) ])
    go true true d k = refl
    go true false d k = absurd (true≢false d)
    go false true d k = absurd (true≢false (sym d))
    go false false d k = k

pub clash_same : (J K : ℕ → Bool) → ((a : ℕ) → a < ITEMS → J a ≡ K a) → (labels : List ℕ) → clash_in J labels ≡ clash_in K labels
unfolding clash_in
clash_same J K e labels =
    lowest_same ITEMS 0 (clashes_in J labels) (clashes_in K labels) (λ a l. ap (λ b. b && never_in labels a) (e a (omega arith)))
