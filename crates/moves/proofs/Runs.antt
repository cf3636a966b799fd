-- 02, Slip 9: the longest runs of a set of depths go along with a move of the line. Assumes nothing.
use Rattle.std.specs.Prelude.{◌≡◌, refl, ◌⊎◌, ◌↔◌, Bool, true, false, cond, T, ℤ, ◌≤ℤ◌}
use Rattle.std.proofs.Common.{sym, subst, inl, inr, ⊎_elim}
use mathlib.Core.List.Memᴰ
use mathlib.Core.List.{List, [], ◌∷◌, map, reverse, reverse_aux, reverse-reverse}
use Rattle.terms.specs.Order.{ints, suc_is}
use Rattle.terms.specs.Tests.{of_true}
use Rattle.terms.specs.Limits.{NO_TOP, NO_BOTTOM}
use Rattle.terms.specs.Held.{◌∈◌}
use Rattle.terms.specs.Same.{same_depth}
use Rattle.terms.proofs.SameLaws.{same_depth_lem, depth_same}
use Rattle.terms.specs.Spans.{Run, Covers, Covered, Ordered, Apart, Longest}
use Rattle.spans.proofs.Longest.{own, ordered_in}
use Rattle.moves.proofs.Moves.{
  Side,
  upper,
  lower,
  gone,
  Inward,
  Sense,
  ahead,
  reversed,
  origin,
  in_sense,
  Rigid,
  Motion,
  end_in,
  end_moved,
  move_run,
  move_runs,
}
use Rattle.moves.proofs.Motions.{order, Clear, clear, beside}
use Rattle.moves.proofs.Steady.{Steady, Finite, not_gone, change_finite}
use Rattle.moves.proofs.Ends.{Allows, covers_allows, beyond, beyond_beside, Before, end_in_lem, beyond_out}

-- ---- an end, moved: still missing, or not missing before and finite after

data EndMoved (f : ℤ → ℤ) (τ κ : Side) (e : ℤ) : ℤ → Type 0 where
  missing : e ≡ gone τ → EndMoved f τ κ e (gone κ)
  finite : (e ≡ gone τ → ⊥) → Finite (f e) → EndMoved f τ κ e (f e)

-- it lies from the one number that means no end to the other
on_line : {f : ℤ → ℤ} {τ : Side} (κ : Side) {e u : ℤ} → EndMoved f τ κ e u → (NO_TOP ≤ℤ u) × (u ≤ℤ NO_BOTTOM)
on_line upper (missing d) = (omega ints, omega ints)
on_line lower (missing d) = (omega ints, omega ints)
on_line κ (finite n w) = (omega (ints, w.low), omega (ints, w.high))

-- both ends of a run
record RunMoved (s : Sense) (f : ℤ → ℤ) (r : Run) : Type 0 where
  ends : (κ : Side) → EndMoved f (origin s κ) κ (end_in r (origin s κ)) (end_moved s f r κ)

-- of a longest run they are so: where an end is not missing the set changes, and so the moved set does at the moved end
longest_ends : (s : Sense) {f : ℤ → ℤ} → Rigid s f → {S S' : ℤ → Type 0} → ((i : ℤ) → S i ↔ S' (f i)) → Steady S' → (rs : List Run) → Longest S rs →
    (r : Run) → r ∈ rs → RunMoved s f r
longest_ends s {f} R E W rs L r m = record { ends = λ κ. go (origin s κ) κ (same_depth (end_in r (origin s κ)) (gone (origin s κ))) refl }
  where
    go : (τ κ : Side) (b : Bool) → same_depth (end_in r τ) (gone τ) ≡ b → EndMoved f τ κ (end_in r τ) (cond b (gone κ) (f (end_in r τ)))
    go τ κ true d = missing (same_depth_lem (end_in r τ) (gone τ) (of_true d))
    go τ κ false d =
        let e = end_in r τ in
        let n : e ≡ gone τ → ⊥ = λ g. subst T d (subst (λ x. T (same_depth e x)) g (depth_same e)) in
        finite n
        (change_finite W (f e) (f (beyond τ e)) (beside s R e (beyond τ e) (beyond_beside τ e)) ((E e).0 (end_in_lem rs L r m τ))
        (λ q. n (beyond_out rs L r m τ ((E (beyond τ e)).1 q))))

-- ---- a run, moved

-- it covers what both its ends allow, whichever is taken first
allows_cover : (s : Sense) (r : Run) (i : ℤ) → Allows r (origin s upper) i → Allows r (origin s lower) i → Covers r i
allows_cover ahead r i a b = record { above = a; below = b }
allows_cover reversed r i a b = record { above = b; below = a }

module _ (s : Sense) {f : ℤ → ℤ} (R : Rigid s f) where
  -- a moved end allows the moved depths, and no other
  end_allows : (κ : Side) (i : ℤ) {e u : ℤ} → EndMoved f (origin s κ) κ e u →
      ((e ≡ gone (origin s κ)) ⊎ Inward (origin s κ) e i) ↔ ((u ≡ gone κ) ⊎ Inward κ u (f i))
  end_allows κ i (missing d) = (λ w. inl refl, λ w. inl d)
  end_allows κ i {e} (finite n w) = (
    λ o. ⊎_elim (λ d. absurd (n d)) (λ l. inr ((order s R κ e i).0 l)) o,
    λ o. ⊎_elim (λ d. absurd (not_gone κ (f e) w d)) (λ l. inr ((order s R κ e i).1 l)) o,
  )

  -- so the moved run covers a moved depth exactly if the run covers the depth
  run_covers : (r : Run) → RunMoved s f r → (i : ℤ) → Covers r i ↔ Covers (move_run s f r) (f i)
  run_covers r v i = (
    λ c. record {
      above = (end_allows upper i (v.ends upper)).0 (covers_allows c (origin s upper));
      below = (end_allows lower i (v.ends lower)).0 (covers_allows c (origin s lower));
    },
    λ c. allows_cover s r i ((end_allows upper i (v.ends upper)).1 c.above) ((end_allows lower i (v.ends lower)).1 c.below),
  )

  ordered_moved : (r : Run) → RunMoved s f r → Ordered r → Ordered (move_run s f r)
  ordered_moved r v o =
      let c = (run_covers r v r.top).0 (own r o) in
      let a = on_line upper (v.ends upper) in
      let b = on_line lower (v.ends lower) in
      record {
        low = a.0;
        order = ⊎_elim (λ e. omega (ints, b.0)) (λ l. ⊎_elim (λ e. omega (ints, a.1)) (λ k. omega ints) c.below) c.above;
        high = b.1;
      }

  -- of two runs, neither of the ends that face each other is missing, and a depth lies between them after the move
  gap_moved : (r t : Run) {κ μ : Side} {u w : ℤ} → Ordered r → Ordered t → Before r t → EndMoved f lower κ r.bottom u →
      EndMoved f upper μ t.top w → Clear s u w
  gap_moved r t o p g (missing d) v = let z : ⊥ = omega (ints, suc_is r.bottom, p.order, p.high) in absurd z
  gap_moved r t o p g (finite n x) (missing d) = let z : ⊥ = omega (ints, suc_is r.bottom, o.low, o.order) in absurd z
  gap_moved r t o p g (finite n x) (finite k y) = clear s R r.bottom t.top g

-- ---- a list of runs, moved

-- the second of two moved runs lies deeper, or reversed shallower
abbrev Follows : Sense → Run → Run → Type 0
Follows ahead r t = Before r t
Follows reversed r t = Before t r

-- as it does of a list of longest runs
follows : (s : Sense) {f : ℤ → ℤ} → Rigid s f → (r t : Run) → RunMoved s f r → RunMoved s f t → Ordered r → Ordered t → Before r t →
    Follows s (move_run s f r) (move_run s f t)
follows ahead R r t v w o p g = gap_moved ahead R r t o p g (v.ends lower) (w.ends upper)
follows reversed R r t v w o p g = gap_moved reversed R r t o p g (v.ends upper) (w.ends lower)

-- runs with a depth between each two, from the shallowest on, or reversed from the deepest
abbrev Spaced : Sense → List Run → Type 0
Spaced s [] = Unit {0}
Spaced s (r ∷ rs) = Ordered r × ((t : Run) → t ∈ rs → Follows s r t) × Spaced s rs

spaced_moved : (s : Sense) {f : ℤ → ℤ} → Rigid s f → (rs : List Run) → ((r : Run) → r ∈ rs → RunMoved s f r) → Apart rs → Spaced s (map (move_run s f) rs)
spaced_moved s R [] v a = tt
spaced_moved s {f} R (r ∷ rs) v a =
    let x = v r (Memᴰ.head refl) in (
      ordered_moved s R r x a.0,
      (λ t m.
          let (u, n, e) = Memᴰ.of_map (move_run s f) rs m in
          subst (Follows s (move_run s f r)) e (follows s R r u x (v u (Memᴰ.tail n)) a.0 (ordered_in rs a.2 u n) (a.1 u n))),
      spaced_moved s R rs (λ t m. v t (Memᴰ.tail m)) a.2,
    )

spaced_ahead : (rs : List Run) → Spaced ahead rs → Apart rs
spaced_ahead [] w = tt
spaced_ahead (r ∷ rs) w = (w.0, w.1, spaced_ahead rs w.2)

-- from the deepest on: they are put before others that are deeper still, one by one
spaced_reversed : (rs ts : List Run) → Spaced reversed rs → Apart ts → ((r t : Run) → r ∈ rs → t ∈ ts → Before r t) → Apart (reverse_aux rs ts)
spaced_reversed [] ts w a g = a
spaced_reversed (r ∷ rs) ts w a g =
    spaced_reversed rs (r ∷ ts) w.2 (w.0, (λ t m. g r t (Memᴰ.head refl) m), a)
    (λ u t m n. ⊎_elim (λ e. subst (λ v. Before u v) (sym e) (w.1 u m)) (λ k. g u t (Memᴰ.tail m) k) (Memᴰ.cases_cons n))

spaced_apart : (s : Sense) (rs : List Run) → Spaced s rs → Apart (in_sense s rs)
spaced_apart ahead rs w = spaced_ahead rs w
spaced_apart reversed rs w = spaced_reversed rs [] w tt (λ r t m n. absurd (Memᴰ.not-nil n))

-- a list in reverse order has the same elements
in_reverse : {X : Type 0} (xs ys : List X) (x : X) → (x ∈ xs) ⊎ (x ∈ ys) → x ∈ reverse_aux xs ys
in_reverse [] ys x o = ⊎_elim (λ m. absurd (Memᴰ.not-nil m)) (λ m. m) o
in_reverse (y ∷ xs) ys x o =
    in_reverse xs (y ∷ ys) x
    (⊎_elim (λ m. ⊎_elim (λ e. inr (Memᴰ.head e)) (λ n. inl n) (Memᴰ.cases_cons m)) (λ m. inr (Memᴰ.tail m)) o)

sense_in : {X : Type 0} (s : Sense) (xs : List X) (x : X) → (x ∈ xs) ↔ (x ∈ in_sense s xs)
sense_in ahead xs x = (λ m. m, λ m. m)
sense_in reversed xs x =
    (λ m. in_reverse xs [] x (inl m), λ m. subst (λ ys. x ∈ ys) (reverse-reverse xs) (in_reverse (reverse xs) [] x (inl m)))

-- ---- the longest runs

-- 02, Slip 9: those of the moved set are those of the set, moved, where the moved set is steady beyond the depths where marks lie
pub longest_moved : (s : Sense) {f g : ℤ → ℤ} → Motion s f g → {S S' : ℤ → Type 0} → ((i : ℤ) → S i ↔ S' (f i)) → Steady S' → (rs : List Run) →
    Longest S rs → Longest S' (move_runs s f rs)
longest_moved s {f} {g} M {S} {S'} E W rs L = record {
  apart = spaced_apart s (map (move_run s f) rs) (spaced_moved s R rs ends L.apart);
  exact = λ j. subst (λ k. Covered (move_runs s f rs) k ↔ S' k) (M.redone j) (at (g j));
}
  where
    R : Rigid s f
    R = M.there

    ends : (r : Run) → r ∈ rs → RunMoved s f r
    ends r m = longest_ends s R E W rs L r m

    at : (i : ℤ) → Covered (move_runs s f rs) (f i) ↔ S' (f i)
    at i = (
      λ c.
          let (r, m, e) = Memᴰ.of_map (move_run s f) rs ((sense_in s (map (move_run s f) rs) c.0).1 c.1) in
          (E i).0 ((L.exact i).0 (r, m, (run_covers s R r (ends r m) i).1 (subst (λ t. Covers t (f i)) (sym e) c.2))),
      λ d.
          let (r, m, c) = (L.exact i).1 ((E i).1 d) in
          (move_run s f r, (sense_in s (map (move_run s f) rs) (move_run s f r)).0 (Memᴰ.map (move_run s f) m), (run_covers s R r (ends r m) i).0 c),
    )
