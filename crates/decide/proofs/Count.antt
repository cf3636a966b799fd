-- How many depths are marked, and that the cuts of held marks fit. Assumes nothing.
use Rattle.std.specs.Prelude.{◌≡◌, refl, ◌⊎◌, Bool, true, false, cond, List, [], ◌∷◌, ◌≤◌, ◌+◌, T, ℤ, length}
use Rattle.std.proofs.Common.{sym, ap, subst, inl, inr, ⊎_elim, arith}
use mathlib.Core.List.Memᴰ
use Rattle.terms.specs.Order.{ints}
use Rattle.terms.specs.Limits.{CUTS}
use Rattle.terms.specs.declared.Mark.{Mark}
use Rattle.terms.specs.Held.{◌∈◌, Held, hole_in, ends_of}
use Rattle.terms.proofs.Ends.{EndOf, top_in, bottom_in, ends_only}
use Rattle.terms.specs.Same.{same_depth}
use Rattle.terms.proofs.SameLaws.{same_depth_lem, depth_same}
use Rattle.terms.specs.Lists.{some, depth_count}
use Rattle.line.specs.Cuts.{Asc, insert, distinct}
use Rattle.line.specs.CutLaws.{
  insert_has,
  insert_keeps,
  insert_asc,
  insert_again,
  Inserted,
  was_there,
  one_more,
  inserted,
  distinct_only,
  cuts_few,
}
use Rattle.line.specs.Intervals.{cuts_of}
use Rattle.terms.proofs.Limited.{some_in, in_some, Limited}

-- ---- the number of distinct depths

pub distinct_asc : (ds : List ℤ) → Asc (distinct ds)
distinct_asc [] = tt
distinct_asc (d ∷ ds) = insert_asc d (distinct ds) (distinct_asc ds)

pub distinct_in : (ds : List ℤ) (x : ℤ) → x ∈ ds → x ∈ distinct ds
distinct_in [] x n = absurd (Memᴰ.not-nil n)
distinct_in (d ∷ ds) x n =
    ⊎_elim (λ e. subst (λ v. v ∈ insert d (distinct ds)) (sym e) (insert_has d (distinct ds)))
    (λ o. insert_keeps d x (distinct ds) (distinct_in ds x o)) (Memᴰ.cases_cons n)

-- an ascending list within another is no longer
pub within_length : (xs ys : List ℤ) → Asc xs → Asc ys → ((x : ℤ) → x ∈ xs → x ∈ ys) → length xs ≤ length ys
within_length [] ys a b f = omega arith
within_length (x ∷ xs) [] a b f = absurd (Memᴰ.not-nil (f x (Memᴰ.head refl)))
within_length (x ∷ xs) (y ∷ ys) a b f = omega (arith, within_length xs ys a.1 b.1 rest)
  where
    rest : (z : ℤ) → z ∈ xs → z ∈ ys
    rest z n = ⊎_elim (λ e. first z n e (Memᴰ.cases_cons (f x (Memᴰ.head refl)))) (λ o. o) (Memᴰ.cases_cons (f z (Memᴰ.tail n)))
      where
        first : (z : ℤ) → z ∈ xs → z ≡ y → (x ≡ y) ⊎ (x ∈ ys) → z ∈ ys
        first z n e (inl d) = let w = a.0 z n in let q : ⊥ = omega ints in absurd q
        first z n e (inr o) = let w = a.0 z n in let v = b.0 x o in let q : ⊥ = omega ints in absurd q

pub depth_count_lem : (ds : List ℤ) → depth_count ds ≡ length (distinct ds)
unfolding depth_count
depth_count_lem [] = refl
depth_count_lem (d ∷ ds) = go (some (same_depth d) ds) there met (depth_count_lem ds)
  where
    there : T (some (same_depth d) ds) → d ∈ distinct ds
    there t = let w = some_in (same_depth d) ds t in distinct_in ds d (subst (λ v. v ∈ ds) (sym (same_depth_lem d w.0 w.2)) w.1)

    met : d ∈ distinct ds → T (some (same_depth d) ds)
    met m = in_some (same_depth d) ds d (distinct_only ds d m) (depth_same d)

    go : (b : Bool) → (T b → d ∈ distinct ds) → (d ∈ distinct ds → T b) → depth_count ds ≡ length (distinct ds) →
        cond b 0 1 + depth_count ds ≡ length (insert d (distinct ds))
    go true f g e = omega (arith, ap length (insert_again d (distinct ds) (distinct_asc ds) (f tt)), e)
    go false f g e = fresh (inserted d (distinct ds))
      where
        fresh : {ys : List ℤ} → Inserted d (distinct ds) ys → 1 + depth_count ds ≡ length ys
        fresh (was_there n) = absurd (g n)
        fresh (one_more d) = omega (arith, d, e)

-- fewer depths have no more distinct ones among them
pub fewer_depths : (ds es : List ℤ) → ((d : ℤ) → d ∈ ds → d ∈ es) → depth_count ds ≤ depth_count es
fewer_depths ds es f =
    let l = within_length (distinct ds) (distinct es) (distinct_asc ds) (distinct_asc es) (λ x m. distinct_in es x (f x (distinct_only ds x m))) in
    omega (arith, depth_count_lem ds, depth_count_lem es)

-- nor have fewer marks among their ends
pub fewer_ends : (ms ns : List Mark) → ((m : Mark) → m ∈ ms → m ∈ ns) → depth_count (ends_of ms) ≤ depth_count (ends_of ns)
fewer_ends ms ns f = fewer_depths (ends_of ms) (ends_of ns) (λ d n. go d (ends_only ms d n))
  where
    go : (d : ℤ) → EndOf ms d → d ∈ ends_of ns
    go d w = ⊎_elim
        (λ e. subst (λ z. z ∈ ends_of ns) (sym e) (top_in ns w.mark (f w.mark w.held)))
        (λ e. subst (λ z. z ∈ ends_of ns) (sym e) (bottom_in ns w.mark (f w.mark w.held)))
        w.end

-- 01, Pieces of the line: two cuts for each marked depth at most
pub few_cuts : (h : Held) → Limited h → length (cuts_of h) ≤ CUTS
few_cuts h w = omega (arith, cuts_few (hole_in h) (ends_of h.marks), depth_count_lem (ends_of h.marks), w.few_depths)
