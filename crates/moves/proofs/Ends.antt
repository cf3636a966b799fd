-- Where longest runs end: an end lies in the set, and the next depth beyond it does not unless the end is missing. Assumes nothing.
use Rattle.std.specs.Prelude.{◌≡◌, ◌⊎◌, List, [], ◌∷◌, ℤ, ◌<ℤ◌}
use Rattle.std.proofs.Common.{sym, ◌∙◌, subst, inl, inr, ⊎_elim}
use mathlib.Core.List.Memᴰ
use Rattle.std.proofs.Math.IntN.{suc_ℤ, pred_ℤ}
use Rattle.terms.specs.Order.{ints, suc_is, pred_is, ≤-refl}
use Rattle.terms.specs.Held.{◌∈◌}
use Rattle.terms.specs.Spans.{Run, Covers, Ordered, Apart, Longest}
use Rattle.spans.proofs.Longest.{ordered_in}
use Rattle.moves.proofs.Moves.{Side, upper, lower, gone, Inward, end_in}
use Rattle.moves.proofs.Motions.{Beside}

-- ---- one end

-- the end on this side is missing, or the depth does not lie beyond it
abbrev pub Allows : Run → Side → ℤ → Type 0
Allows r κ i = (end_in r κ ≡ gone κ) ⊎ Inward κ (end_in r κ) i

-- so it is on each side of a depth that the run covers
pub covers_allows : {r : Run} {i : ℤ} → Covers r i → (κ : Side) → Allows r κ i
covers_allows c upper = c.above
covers_allows c lower = c.below

-- a run covers its ends
own_end : (r : Run) → Ordered r → (κ : Side) → Covers r (end_in r κ)
own_end r o upper = record { above = inr (≤-refl r.top); below = inr o.order }
own_end r o lower = record { above = inr o.order; below = inr (≤-refl r.bottom) }

-- the next depth beyond an end
abbrev pub beyond : Side → ℤ → ℤ
beyond upper e = pred_ℤ e
beyond lower e = suc_ℤ e

-- no depth lies between
pub beyond_beside : (κ : Side) (e : ℤ) → Beside e (beyond κ e)
beyond_beside upper e = record { low = omega (ints, pred_is e, suc_is (pred_ℤ e)); high = omega (ints, pred_is e, suc_is e) }
beyond_beside lower e = record { low = omega (ints, suc_is e, suc_is (suc_ℤ e)); high = omega (ints, suc_is e) }

not_inward : (κ : Side) (e : ℤ) → Inward κ e (beyond κ e) → ⊥
not_inward upper e l = omega (ints, pred_is e)
not_inward lower e l = omega (ints, suc_is e)

-- ---- two runs

-- the first ends above the second, with a depth between
abbrev pub Before : Run → Run → Type 0
Before r t = suc_ℤ r.bottom <ℤ t.top

-- so one lies between each two depths that they cover
before_clear : (r t : Run) (i j : ℤ) → Ordered r → Ordered t → Before r t → Covers r i → Covers t j → suc_ℤ i <ℤ j
before_clear r t i j o p g c d =
    ⊎_elim (λ e. let z : ⊥ = omega (ints, suc_is r.bottom, p.order, p.high) in absurd z)
    (λ l. ⊎_elim (λ e. let z : ⊥ = omega (ints, suc_is r.bottom, o.low, o.order) in absurd z)
    (λ k. omega (ints, suc_is r.bottom, suc_is i)) d.above) c.below

-- two runs of a list are one, or lie so
apart_two : (rs : List Run) → Apart rs → (r t : Run) → r ∈ rs → t ∈ rs → (r ≡ t) ⊎ (Before r t ⊎ Before t r)
apart_two [] a r t m n = absurd (Memᴰ.not-nil m)
apart_two (u ∷ rs) a r t m n = go (Memᴰ.cases_cons m) (Memᴰ.cases_cons n) (λ m n. apart_two rs a.2 r t m n)
  where
    go : (r ≡ u) ⊎ (r ∈ rs) → (t ≡ u) ⊎ (t ∈ rs) → (r ∈ rs → t ∈ rs → (r ≡ t) ⊎ (Before r t ⊎ Before t r)) → (r ≡ t) ⊎ (Before r t ⊎ Before t r)
    go (inl d) (inl e) k = inl (d ∙ sym e)
    go (inl d) (inr n) k = inr (inl (subst (λ v. Before v t) (sym d) (a.1 t n)))
    go (inr m) (inl e) k = inr (inr (subst (λ v. Before v r) (sym e) (a.1 r m)))
    go (inr m) (inr n) k = k m n

-- ---- longest runs

module _ {S : ℤ → Type 0} (rs : List Run) (L : Longest S rs) where
  ordered : (r : Run) → r ∈ rs → Ordered r
  ordered r m = ordered_in rs L.apart r m

  -- two depths with none between are covered by one run
  one_run : (r t : Run) (i j : ℤ) → r ∈ rs → t ∈ rs → Beside i j → Covers r i → Covers t j → r ≡ t
  one_run r t i j m n b c d =
      ⊎_elim (λ e. e)
      (λ o. ⊎_elim
      (λ g. let z : ⊥ = omega (ints, before_clear r t i j (ordered r m) (ordered t n) g c d, b.high) in absurd z)
      (λ g. let z : ⊥ = omega (ints, before_clear t r j i (ordered t n) (ordered r m) g d c, b.low) in absurd z) o)
      (apart_two rs L.apart r t m n)

  -- an end lies in the set
  pub end_in_lem : (r : Run) → r ∈ rs → (κ : Side) → S (end_in r κ)
  end_in_lem r m κ = (L.exact (end_in r κ)).0 (r, m, own_end r (ordered r m) κ)

  -- where the next depth beyond it does too, it is missing
  pub beyond_out : (r : Run) → r ∈ rs → (κ : Side) → S (beyond κ (end_in r κ)) → end_in r κ ≡ gone κ
  beyond_out r m κ d =
      let e = end_in r κ in
      let (t, n, c) = (L.exact (beyond κ e)).1 d in
      let q = one_run r t e (beyond κ e) m n (beyond_beside κ e) (own_end r (ordered r m) κ) c in
      ⊎_elim (λ g. g) (λ l. absurd (not_inward κ e l)) (covers_allows (subst (λ u. Covers u (beyond κ e)) (sym q) c) κ)
