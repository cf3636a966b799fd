-- There is one list of longest runs at most, and `runs` is it; and how many runs there are at most. Assumes nothing.
use Rattle.std.specs.Prelude.{Option, None, Some, ◌≡◌, refl, ◌⊎◌, ◌↔◌, Bool, true, false, List, [], ◌∷◌, ℕ, zero, suc, pred, ◌≤◌, ◌<◌, ◌+◌, ◌*◌, ◌/◌, T, ℤ, ◌≤ℤ◌, ◌<ℤ◌, length}
use Rattle.std.proofs.Common.{sym, ap, ◌∙◌, subst, inl, inr, ⊎_elim}
use mathlib.Core.List.Memᴰ
use native.Mathlib.Omega.{arith}
use Rattle.std.proofs.Math.Decide.{dec_lt, ℕ_discrete}
use Rattle.std.proofs.Math.IntN.{suc_ℤ, pred_ℤ}
use Rattle.terms.specs.Order.{ints, suc_is, pred_is, le_or_gt, ≤-refl}
use Rattle.terms.specs.Limits.{CUTS, SPAN_NUMBERS, NO_TOP, NO_BOTTOM}
use Rattle.terms.specs.Held.{◌∈◌}
use Rattle.terms.specs.Spans.{Run, run, Covers, Covered, Ordered, Apart, Longest, flat}
use Rattle.line.specs.Cuts.{Asc, upto, nth, top_from, bottom_to}
use Rattle.line.specs.CutLaws.{upto_length, nth_le, nth_gt, nth_in, nth_asc, top_own, inner_bottom, last_bottom}
use Rattle.spans.specs.Runs.{runs_from, runs}
use Rattle.spans.specs.Code.{Earlier}

-- ---- at most one list

-- the first of a list is in it
head : {r : Run} {rs : List Run} → r ∈ (r ∷ rs)
head = Memᴰ.head refl

-- a run covers its top
pub own : (r : Run) → Ordered r → Covers r r.top
own r f = record { above = inr (≤-refl r.top); below = inr f.order }

-- each run of the list is ordered
pub ordered_in : (rs : List Run) → Apart rs → (r : Run) → r ∈ rs → Ordered r
ordered_in [] a r m = absurd (Memᴰ.not-nil m)
ordered_in (s ∷ rs) a r m = ⊎_elim (λ e. subst Ordered (sym e) a.0) (λ n. ordered_in rs a.2 r n) (Memᴰ.cases_cons m)

-- the ends of a longest run lie in the set
pub run_ends : (S : ℤ → Type 0) (rs : List Run) → Longest S rs → (r : Run) → r ∈ rs → S r.top × S r.bottom
run_ends S rs L r m =
    let o = ordered_in rs L.apart r m in (
      (L.exact r.top).0 (r, m, own r o),
      (L.exact r.bottom).0 (r, m, record { above = inr o.order; below = inr (≤-refl r.bottom) }),
    )

-- the first run's top is the least
tops : (s : Run) (ss : List Run) → Apart (s ∷ ss) → (t : Run) → t ∈ (s ∷ ss) → s.top ≤ℤ t.top
tops s ss a t m =
    ⊎_elim (λ e. subst (λ w. s.top ≤ℤ w.top) (sym e) (≤-refl s.top)) (λ n. omega (ints, suc_is s.bottom, a.1 t n, a.0.order))
    (Memᴰ.cases_cons m)

-- so what lies above it is not covered
not_above : (s : Run) (ss : List Run) (i : ℤ) → Apart (s ∷ ss) → NO_TOP ≤ℤ i → i <ℤ s.top → Covered (s ∷ ss) i → ⊥
not_above s ss i a l h c = ⊎_elim (λ e. omega (ints, tops s ss a c.0 c.1)) (λ k. omega (ints, tops s ss a c.0 c.1)) c.2.above

-- a list that covers more begins no deeper
top_le : (r s : Run) (rs ss : List Run) → Apart (r ∷ rs) → Apart (s ∷ ss) → ((i : ℤ) → Covered (r ∷ rs) i → Covered (s ∷ ss) i) → s.top ≤ℤ r.top
top_le r s rs ss a b f =
    ⊎_elim (λ h. h) (λ h. absurd (not_above s ss r.top b a.0.low h (f r.top (r, head, own r a.0))))
    (le_or_gt s.top r.top)

-- where both begin at one depth, a first run that covers more ends no shallower
bottom_le : (r s : Run) (rs ss : List Run) → Apart (r ∷ rs) → Apart (s ∷ ss) → r.top ≡ s.top →
    ((i : ℤ) → Covered (s ∷ ss) i → Covered (r ∷ rs) i) → s.bottom ≤ℤ r.bottom
bottom_le r s rs ss a b e f = ⊎_elim (λ h. h) (λ h. absurd (bad h)) (le_or_gt s.bottom r.bottom)
  where
    bad : r.bottom <ℤ s.bottom → ⊥
    bad h =
        let i = suc_ℤ r.bottom in
        let x = a.0.order in
        let y = b.0.high in
        let v = a.0.low in
        let c = f i (s, head, record { above = inr (omega (ints, suc_is r.bottom)); below = inr (omega (ints, suc_is r.bottom)) }) in
        ⊎_elim
        (λ d.
        ⊎_elim (λ k. let q : r.bottom ≡ NO_BOTTOM = subst (λ w. w.bottom ≡ NO_BOTTOM) d k in omega ints)
        (λ k. let q : i ≤ℤ r.bottom = subst (λ w. i ≤ℤ w.bottom) d k in omega (ints, suc_is r.bottom)) c.2.below)
        (λ n. let g = a.1 c.0 n in ⊎_elim (λ k. omega (ints, suc_is r.bottom)) (λ k. omega ints) c.2.above)
        (Memᴰ.cases_cons c.1)

-- without the common first run, the rest covers what the other rest does
tail_in : (r : Run) (rs ss : List Run) → Apart (r ∷ rs) → ((i : ℤ) → Covered (r ∷ rs) i → Covered (r ∷ ss) i) → (i : ℤ) → Covered rs i → Covered ss i
tail_in r rs ss a f i c =
    let d = f i (c.0, Memᴰ.tail c.1, c.2) in
    let g = a.1 c.0 c.1 in
    let u = ordered_in rs a.2 c.0 c.1 in
    let v = a.0 in
    let l : c.0.top ≤ℤ i = ⊎_elim (λ k. let z : ⊥ = omega (ints, suc_is r.bottom, v.low, v.order) in absurd z) (λ k. k) c.2.above in
    ⊎_elim
    (λ e. ⊎_elim
    (λ k. let q : r.bottom ≡ NO_BOTTOM = subst (λ w. w.bottom ≡ NO_BOTTOM) e k in let z : ⊥ = omega (ints, suc_is r.bottom, u.order, u.high) in absurd z)
    (λ k. let q : i ≤ℤ r.bottom = subst (λ w. i ≤ℤ w.bottom) e k in let z : ⊥ = omega (ints, suc_is r.bottom) in absurd z)
    d.2.below)
    (λ n. (d.0, n, d.2))
    (Memᴰ.cases_cons d.1)

-- two lists that cover the same are one
same_runs : (rs ss : List Run) → Apart rs → Apart ss → ((i : ℤ) → Covered rs i → Covered ss i) → ((i : ℤ) → Covered ss i → Covered rs i) → rs ≡ ss
same_runs [] [] a b f g = refl
same_runs [] (s ∷ ss) a b f g = absurd (Memᴰ.not-nil (g s.top (s, head, own s b.0)).1)
same_runs (r ∷ rs) [] a b f g = absurd (Memᴰ.not-nil (f r.top (r, head, own r a.0)).1)
same_runs (r ∷ rs) (s ∷ ss) a b f g =
    let x = top_le r s rs ss a b f in
    let y = top_le s r ss rs b a g in
    let t : r.top ≡ s.top = omega ints in
    let x' = bottom_le r s rs ss a b t g in
    let y' = bottom_le s r ss rs b a (sym t) f in
    let u : r.bottom ≡ s.bottom = omega ints in
    let e : r ≡ s = λ i. run (t i) (u i) in
    go e (same_runs rs ss a.2 b.2)
  where
    go : r ≡ s → (((i : ℤ) → Covered rs i → Covered ss i) → ((i : ℤ) → Covered ss i → Covered rs i) → rs ≡ ss) → (r ∷ rs) ≡ (s ∷ ss)
    go e k =
        let f' : (i : ℤ) → Covered (r ∷ rs) i → Covered (r ∷ ss) i = subst (λ w. (i : ℤ) → Covered (r ∷ rs) i → Covered (w ∷ ss) i) (sym e) f in
        let g' : (i : ℤ) → Covered (r ∷ ss) i → Covered (r ∷ rs) i = subst (λ w. (i : ℤ) → Covered (w ∷ ss) i → Covered (r ∷ rs) i) (sym e) g in
        let b' : Apart (r ∷ ss) = subst (λ w. Apart (w ∷ ss)) (sym e) b in
        let d = k (tail_in r rs ss a f') (tail_in r ss rs b' g') in
        cc

-- 01, Records: at most one list is that of the longest runs
pub longest_one : (S : ℤ → Type 0) (rs ss : List Run) → Longest S rs → Longest S ss → rs ≡ ss
longest_one S rs ss a b = same_runs rs ss a.apart b.apart (λ i c. (b.exact i).1 ((a.exact i).0 c)) (λ i c. (a.exact i).1 ((b.exact i).0 c))

-- ---- the runs are the longest

-- the first interval that is to be covered
abbrev first : Option ℕ → ℕ → ℕ
first None p = p
first (Some a) p = a

-- the interval q is to be covered, with p the next: where a span has begun, all from its first up to p are
abbrev Due : (ℕ → Bool) → Option ℕ → ℕ → ℕ → Type 0
Due has None p q = (p ≤ q) × T (has q)
Due has (Some a) p q = (a ≤ q) × (p ≤ q → T (has q))

-- p itself, or one behind it
at_or_after : (p q : ℕ) → p ≤ q → (q ≡ p) ⊎ (suc p ≤ q)
at_or_after p q h = go (ℕ_discrete q p)
  where
    go : Dec (q ≡ p) → (q ≡ p) ⊎ (suc p ≤ q)
    go (yes e) = inl e
    go (no e) = inr (omega arith)

-- a line with these two ends, and cuts strictly inside them
module _ (line : Run) (proper : Ordered line) (cs : List ℤ) (rising : Asc cs) (ranged : (x : ℤ) → x ∈ cs → (line.top <ℤ x) × (x ≤ℤ line.bottom)) where
  abbrev top : ℕ → ℤ
  top p = top_from line.top cs p

  abbrev bottom : ℕ → ℤ
  bottom p = bottom_to line.bottom cs p

  -- a cut is in range
  cut : (p : ℕ) → p < length cs → (line.top <ℤ nth cs p) × (nth cs p ≤ℤ line.bottom)
  cut p h = ranged (nth cs p) (nth_in cs p h)

  -- before a cut an interval ends
  pub at_cut : (p : ℕ) → p < length cs → bottom p ≡ pred_ℤ (nth cs p)
  at_cut p h = inner_bottom line.bottom NO_BOTTOM cs p h

  -- behind the last cut the line ends
  no_cut : (p : ℕ) → length cs ≤ p → bottom p ≡ line.bottom
  no_cut p h = last_bottom line.bottom cs p h

  -- a top covers exactly the intervals from its own on
  above_of : (p : ℕ) (i : ℤ) → p ≤ length cs → (top p ≡ NO_TOP) ⊎ (top p ≤ℤ i) → ((line.top ≡ NO_TOP) ⊎ (line.top ≤ℤ i)) × (p ≤ upto cs i)
  above_of zero i h a = (a, omega arith)
  above_of (suc p) i h a = go (dec_lt p (upto cs i))
    where
      at : nth cs p ≤ℤ i
      at = let w = cut p (omega arith) in ⊎_elim (λ d. let z : ⊥ = omega (ints, w.0, proper.low) in absurd z) (λ d. d) a

      go : Dec (p < upto cs i) → ((line.top ≡ NO_TOP) ⊎ (line.top ≤ℤ i)) × (suc p ≤ upto cs i)
      go (yes k) = (inr (omega (ints, at, (cut p (omega arith)).0)), k)
      go (no k) = let z : ⊥ = omega (ints, at, nth_gt cs i p rising (omega arith) (omega arith)) in absurd z

  pub of_above : (p : ℕ) (i : ℤ) → (line.top ≡ NO_TOP) ⊎ (line.top ≤ℤ i) → p ≤ upto cs i → (top p ≡ NO_TOP) ⊎ (top p ≤ℤ i)
  of_above zero i a h = a
  of_above (suc p) i a h = inr (nth_le cs i p h)

  -- and a bottom those up to its own
  below_of : (q : ℕ) (i : ℤ) → (bottom q ≡ NO_BOTTOM) ⊎ (i ≤ℤ bottom q) → ((line.bottom ≡ NO_BOTTOM) ⊎ (i ≤ℤ line.bottom)) × (upto cs i ≤ q)
  below_of q i a = go (dec_lt q (length cs)) (dec_lt q (upto cs i))
    where
      at : q < length cs → i <ℤ nth cs q
      at k =
          let w = cut q k in
          let u = at_cut q k in
          ⊎_elim (λ d. let z : ⊥ = omega (ints, w.1, proper.high, pred_is (nth cs q)) in absurd z) (λ d. omega (ints, pred_is (nth cs q))) a

      go : Dec (q < length cs) → Dec (q < upto cs i) → ((line.bottom ≡ NO_BOTTOM) ⊎ (i ≤ℤ line.bottom)) × (upto cs i ≤ q)
      go (yes k) (no l) = (inr (omega (ints, at k, (cut q k).1)), omega arith)
      go (yes k) (yes l) = let z : ⊥ = omega (ints, at k, nth_le cs i q l) in absurd z
      go (no k) d = (subst (λ z. (z ≡ NO_BOTTOM) ⊎ (i ≤ℤ z)) (no_cut q (omega arith)) a, omega (arith, upto_length cs i))

  of_below : (q : ℕ) (i : ℤ) → (line.bottom ≡ NO_BOTTOM) ⊎ (i ≤ℤ line.bottom) → upto cs i ≤ q → (bottom q ≡ NO_BOTTOM) ⊎ (i ≤ℤ bottom q)
  of_below q i a h = go (dec_lt q (length cs))
    where
      go : Dec (q < length cs) → (bottom q ≡ NO_BOTTOM) ⊎ (i ≤ℤ bottom q)
      go (yes k) = inr (omega (ints, at_cut q k, nth_gt cs i q rising h k, pred_is (nth cs q)))
      go (no k) = subst (λ z. (z ≡ NO_BOTTOM) ⊎ (i ≤ℤ z)) (sym (no_cut q (omega arith))) a

  -- the run of the intervals from a to q
  abbrev block : ℕ → ℕ → Run
  block a q = run (top a) (bottom q)

  -- it covers exactly those
  pub block_covers : (a q : ℕ) (i : ℤ) → a ≤ length cs → Covers (block a q) i ↔ (Covers line i × (a ≤ upto cs i) × (upto cs i ≤ q))
  block_covers a q i h = (
    λ c. let u = above_of a i h c.above in let v = below_of q i c.below in (record { above = u.0; below = v.0 }, u.1, v.1),
    λ w. record { above = of_above a i w.0.above w.1; below = of_below q i w.0.below w.2 },
  )

  -- tops are on the line
  top_range : (a : ℕ) → a ≤ length cs → (line.top ≤ℤ top a) × (top a ≤ℤ line.bottom)
  top_range zero h = (≤-refl line.top, proper.order)
  top_range (suc a) h = let w = cut a h in (omega (ints, w.0), w.1)

  -- bottoms are on the line
  bottom_range : (q : ℕ) → (line.top ≤ℤ bottom q) × (bottom q ≤ℤ line.bottom)
  bottom_range q = go (dec_lt q (length cs))
    where
      go : Dec (q < length cs) → (line.top ≤ℤ bottom q) × (bottom q ≤ℤ line.bottom)
      go (yes k) = let w = cut q k in let u = at_cut q k in (omega (ints, w.0, pred_is (nth cs q)), omega (ints, w.1, pred_is (nth cs q)))
      go (no k) = let u = no_cut q (omega arith) in (omega (ints, proper.order), omega ints)

  -- its top is not below its bottom
  pub block_order : (a q : ℕ) → a ≤ q → q ≤ length cs → top a ≤ℤ bottom q
  block_order zero q h l = (bottom_range q).0
  block_order (suc a) q h l = go (dec_lt q (length cs))
    where
      go : Dec (q < length cs) → nth cs a ≤ℤ bottom q
      go (yes k) =
          let u = top_own cs rising (suc a) (omega arith) (omega arith) in
          omega (ints, at_cut q k, nth_gt cs (nth cs a) q rising (omega arith) k, pred_is (nth cs q))
      go (no k) = let u = no_cut q (omega arith) in omega (ints, (cut a (omega arith)).1)

  -- so it is a run
  pub block_ordered : (a q : ℕ) → a ≤ q → q ≤ length cs → Ordered (block a q)
  block_ordered a q h l = record {
    low = omega (ints, proper.low, (top_range a (omega arith)).0);
    order = block_order a q h l;
    high = omega (ints, proper.high, (bottom_range q).1);
  }

  -- each interval begins below the one before
  pub tops_rise : (p : ℕ) → p < length cs → top p <ℤ top (suc p)
  tops_rise zero h = (cut 0 h).0
  tops_rise (suc p) h = nth_asc cs p rising h

  module _ (has : ℕ → Bool) where
    -- what the list of the spans that end at or behind interval p is
    record From (p : ℕ) (g : Option ℕ) (rs : List Run) : Type 0 where
      apart : Apart rs
      low : (r : Run) → r ∈ rs → top (first g p) ≤ℤ r.top
      exact : (i : ℤ) → Covered rs i ↔ (Covers line i × Due has g p (upto cs i))

    -- where runs are left behind p, p is not the last interval
    later : (p : ℕ) (rs : List Run) → From (suc p) None rs → (r : Run) → r ∈ rs → top p <ℤ r.top
    later p rs F r m =
        let c = (F.exact r.top).0 (r, m, own r (ordered_in rs F.apart r m)) in
        let w = tops_rise p (omega (arith, c.1.0, upto_length cs r.top)) in
        omega (ints, F.low r m)

    -- interval p ends no span
    kept : (p : ℕ) (g h : Option ℕ) (rs : List Run) → From (suc p) h rs → ((r : Run) → r ∈ rs → top (first g p) ≤ℤ r.top) →
        ((q : ℕ) → Due has h (suc p) q → Due has g p q) → ((q : ℕ) → Due has g p q → Due has h (suc p) q) → From p g rs
    kept p g h rs F l f k = record {
      apart = F.apart;
      low = l;
      exact = λ i. (λ c. let w = (F.exact i).0 c in (w.0, f (upto cs i) w.1), λ w. (F.exact i).1 (w.0, k (upto cs i) w.1));
    }

    -- the spans are the open one and those that begin behind p
    ended : (a p : ℕ) (rs : List Run) → a < p → p ≤ suc (length cs) → Apart rs → ((r : Run) → r ∈ rs → top p <ℤ r.top) →
        ((i : ℤ) → Covered rs i ↔ (Covers line i × ((suc p ≤ upto cs i) × T (has (upto cs i))))) → (T (has p) → p ≤ length cs → ⊥) →
        From p (Some a) (block a (pred p) ∷ rs)
    ended a p rs h l apart low exact none = record {
      apart = (
        block_ordered a (pred p) (omega arith) (omega arith),
        (λ r m. let e = next p (omega arith) (inner r m) in omega (ints, low r m)),
        apart,
      );
      low = λ r m.
          ⊎_elim (λ d. subst (λ w. top a ≤ℤ w.top) (sym d) (≤-refl (top a)))
          (λ n. let e = next p (omega arith) (inner r n) in
          let o = block_order a (pred p) (omega arith) (omega arith) in
          omega (ints, low r n, suc_is (bottom (pred p)))) (Memᴰ.cases_cons m);
      exact = λ i. (
        λ c. ⊎_elim
            (λ d. let w = (block_covers a (pred p) i (omega arith)).0 (subst (λ r. Covers r i) d c.2) in
            (w.0, (w.1, λ k. let z : ⊥ = omega (arith, w.2) in absurd z)))
            (λ n. let w = (exact i).0 (c.0, n, c.2) in (w.0, (omega (arith, w.1.0), λ k. w.1.1)))
            (Memᴰ.cases_cons c.1),
        λ w. go i w.0 w.1 (dec_lt (upto cs i) p),
      );
    }
      where
        -- where runs are left behind p, p is not the last interval
        inner : (r : Run) → r ∈ rs → p ≤ length cs
        inner r m = omega (arith, upto_length cs r.top, ((exact r.top).0 (r, m, own r (ordered_in rs apart r m))).1.0)

        next : (p : ℕ) → 0 < p → p ≤ length cs → top p ≡ suc_ℤ (bottom (pred p))
        next zero h l = let z : ⊥ = omega arith in absurd z
        next (suc p) h l = omega (ints, at_cut p l, pred_is (nth cs p), suc_is (bottom p))

        go : (i : ℤ) → Covers line i → Due has (Some a) p (upto cs i) → Dec (upto cs i < p) → Covered (block a (pred p) ∷ rs) i
        go i v w (yes k) = (block a (pred p), head, (block_covers a (pred p) i (omega arith)).1 (v, w.0, omega arith))
        go i v w (no k) = ⊎_elim
            (λ e. absurd (none (subst (λ q. T (has q)) e (w.1 (omega arith))) (omega (arith, upto_length cs i))))
            (λ l. let c = (exact i).1 (v, (l, w.1 (omega arith))) in (c.0, Memᴰ.tail c.1, c.2))
            (at_or_after p (upto cs i) (omega arith))

    -- behind the last interval nothing is to be covered
    none_left : (q : ℕ) → length cs < q → (i : ℤ) → Covered [] i ↔ (Covers line i × ((q ≤ upto cs i) × T (has (upto cs i))))
    none_left q h i = (λ c. absurd (Memᴰ.not-nil c.1), λ w. let z : ⊥ = omega (arith, w.1.0, upto_length cs i) in absurd z)

    -- by the number of intervals left
    from : (n p : ℕ) (g : Option ℕ) → p + n ≡ suc (length cs) → Earlier g p → From p g (runs_from line cs has n p g)
    from zero p None h s = record { apart = tt; low = λ r m. absurd (Memᴰ.not-nil m); exact = none_left p (omega arith) }
    from zero p (Some a) h s = ended a p [] s (omega arith) tt (λ r m. absurd (Memᴰ.not-nil m)) (none_left (suc p) (omega arith)) (λ t k. omega arith)
    from (suc n) p None h s = go (has p) refl (from n (suc p) (Some p) (omega arith) (omega arith)) (from n (suc p) None (omega arith) tt)
      where
        go : (t : Bool) → has p ≡ t → From (suc p) (Some p) (runs_from line cs has n (suc p) (Some p)) →
            From (suc p) None (runs_from line cs has n (suc p) None) →
            From p None (elim t [ true ↦ runs_from line cs has n (suc p) (Some p) | false ↦ runs_from line cs has n (suc p) None ])
        go true e F G = kept p None (Some p) _ F F.low
            (λ q w. (w.0, ⊎_elim (λ d. subst T (sym (ap has d ∙ e)) tt) (λ k. w.1 k) (at_or_after p q w.0)))
            (λ q w. (w.0, λ k. w.1))
        go false e F G = kept p None None _ G (λ r m. omega (ints, later p _ G r m))
            (λ q w. (omega (arith, w.0), w.1))
            (λ q w. ⊎_elim (λ d. absurd (subst T (ap has d ∙ e) w.1)) (λ k. (k, w.1)) (at_or_after p q w.0))
    from (suc n) p (Some a) h s = go (has p) refl (from n (suc p) (Some a) (omega arith) (omega arith)) (from n (suc p) None (omega arith) tt)
      where
        go : (t : Bool) → has p ≡ t → From (suc p) (Some a) (runs_from line cs has n (suc p) (Some a)) →
            From (suc p) None (runs_from line cs has n (suc p) None) →
            From p (Some a) (elim t [ true ↦ runs_from line cs has n (suc p) (Some a) | false ↦ block a (pred p) ∷ runs_from line cs has n (suc p) None ])
        go true e F G = kept p (Some a) (Some a) _ F F.low
            (λ q w. (w.0, λ k. ⊎_elim (λ d. subst T (sym (ap has d ∙ e)) tt) (λ l. w.1 l) (at_or_after p q k)))
            (λ q w. (w.0, λ k. w.1 (omega arith)))
        go false e F G = ended a p _ s (omega arith) G.apart (later p _ G) G.exact (λ t k. subst T e t)

  -- 01, Records, and 02, Slip 5: the spans are the longest runs of the line's depths whose interval has the label
  pub runs_longest : (has : ℕ → Bool) → Longest (λ i. Covers line i × T (has (upto cs i))) (runs line cs has)
  unfolding runs
  runs_longest has =
      let F = from has (suc (length cs)) 0 None (omega arith) tt in
      record { apart = F.apart; exact = λ i. (λ c. let w = (F.exact i).0 c in (w.0, w.1.1), λ w. (F.exact i).1 (w.0, (omega arith, w.1))) }

-- ---- how many there are

-- the span that has begun
abbrev open_too : Option ℕ → ℕ
open_too None = 0
open_too (Some a) = 1

-- one of two lists is as short as both
either : (t : Bool) (xs ys : List Run) (m : ℕ) → 2 * length xs ≤ m → 2 * length ys ≤ m → 2 * length {A = Run} (elim t [ true ↦ xs | false ↦ ys ]) ≤ m
either true xs ys m h k = h
either false xs ys m h k = k

-- each span but the last takes an interval without the label too
few : (e : Run) (cs : List ℤ) (has : ℕ → Bool) (n p : ℕ) (g : Option ℕ) → 2 * length (runs_from e cs has n p g) ≤ n + 1 + open_too g
few e cs has zero p None = omega arith
few e cs has zero p (Some a) = omega arith
few e cs has (suc n) p None = either (has p) _ _ _ (omega (arith, few e cs has n (suc p) (Some p))) (omega (arith, few e cs has n (suc p) None))
few e cs has (suc n) p (Some a) = either (has p) _ _ _ (omega (arith, few e cs has n (suc p) (Some a))) (omega (arith, few e cs has n (suc p) None))

-- 01, Records: at most every second interval begins a span
pub runs_few : (e : Run) (cs : List ℤ) (has : ℕ → Bool) → length (runs e cs has) ≤ (length cs + 2) / 2
unfolding runs
runs_few e cs has = omega (arith, few e cs has (suc (length cs)) 0 None)

-- two numbers a pair
pub flat_length : (rs : List Run) → length (flat rs) ≡ 2 * length rs
unfolding flat
flat_length [] = omega arith
flat_length (r ∷ rs) = omega (arith, flat_length rs)

-- 01, Records: with at most CUTS cuts, the pairs fit the lent buffer
pub runs_fit : (e : Run) (cs : List ℤ) (has : ℕ → Bool) → length cs ≤ CUTS → (length (runs e cs has) ≤ 97) × (length (flat (runs e cs has)) ≤ SPAN_NUMBERS)
runs_fit e cs has h = (omega (arith, runs_few e cs has), omega (arith, runs_few e cs has, flat_length (runs e cs has)))
