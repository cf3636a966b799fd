-- The limits of what is held, one by one, and the laws of the list functions. Assumes nothing.
use Rattle.std.specs.Prelude.{◌≡◌, refl, ◌⊎◌, Bool, not, cond, suc, ◌≤◌, leb, length}
use Rattle.std.proofs.Common.{sym, ◌∙◌, subst, inl, inr, arith, leb→le, le→leb}
use Rattle.std.proofs.Math.Logic.{⊎_elim}
use Rattle.std.proofs.Math.Bool.{true, false}
use mathlib.Core.List.Memᴰ
use mathlib.Core.List.{List, [], ◌∷◌, ◌++◌}
use Rattle.std.proofs.Math.Dec.{T}
use Rattle.terms.specs.declared.Rule.{Rule}
use Rattle.terms.specs.declared.Mark.{Mark}
use Rattle.terms.specs.Tests.{and_both, both_and, or_one, or_left, or_right}
use Rattle.terms.specs.Limits.{RULES, MARKS, DEPTHS}
use Rattle.terms.specs.Holes.{is_hole, lies_in}
use Rattle.terms.specs.Profiles.{admits}
use Rattle.terms.specs.Held.{◌∈◌, Held, hole_in, profile_in, ends_of, is_rule, is_mark, is_settings}
use Rattle.terms.specs.Same.{same_rule, same_mark}
use Rattle.terms.specs.Lists.{some, every, strike, once, depth_count, limits}

-- what is held is in range
pub record InRange (h : Held) : Type 0 where
  pub rules : (ρ : Rule) → ρ ∈ h.rules → T (is_rule ρ)
  pub marks : (m : Mark) → m ∈ h.marks → T (is_mark m)
  pub hole : T (is_hole (hole_in h))
  pub inside : (m : Mark) → m ∈ h.marks → T (lies_in (hole_in h) m)

-- ---- lists

pub some_in : {X : Type 0} (f : X → Bool) (xs : List X) → T (some f xs) → (x : X) × (x ∈ xs) × T (f x)
unfolding some
some_in f [] t = absurd t
some_in f (x ∷ xs) t = go (or_one (f x) (some f xs) t) (λ u. some_in f xs u)
  where
    go : T (f x) ⊎ T (some f xs) → (T (some f xs) → (y : _) × (y ∈ xs) × T (f y)) → (y : _) × (y ∈ (x ∷ xs)) × T (f y)
    go (inl u) k = (x, Memᴰ.head refl, u)
    go (inr u) k = let w = k u in (w.0, Memᴰ.tail w.1, w.2)

pub in_some : {X : Type 0} (f : X → Bool) (xs : List X) (x : X) → x ∈ xs → T (f x) → T (some f xs)
unfolding some
in_some f [] x m t = absurd (Memᴰ.not-nil m)
in_some f (y ∷ ys) x m t =
    ⊎_elim (λ e. or_left (f y) (some f ys) (subst (λ v. T (f v)) e t)) (λ n. or_right (f y) (some f ys) (in_some f ys x n t))
    (Memᴰ.cases_cons m)

pub every_in : {X : Type 0} (f : X → Bool) (xs : List X) → T (every f xs) → (x : X) → x ∈ xs → T (f x)
unfolding every
every_in f [] t x m = absurd (Memᴰ.not-nil m)
every_in f (y ∷ ys) t x m =
    let w = and_both (f y) (every f ys) t in
    ⊎_elim (λ e. subst (λ v. T (f v)) (sym e) w.0) (λ n. every_in f ys w.1 x n) (Memᴰ.cases_cons m)

pub in_every : {X : Type 0} (f : X → Bool) (xs : List X) → ((x : X) → x ∈ xs → T (f x)) → T (every f xs)
unfolding every
in_every f [] k = tt
in_every f (x ∷ xs) k = both_and (f x) (every f xs) (k x (Memᴰ.head refl)) (in_every f xs (λ y m. k y (Memᴰ.tail m)))

pub strike_in : {X : Type 0} (f : X → Bool) (xs : List X) {x : X} → x ∈ strike f xs → x ∈ xs
unfolding strike
strike_in f [] m = m
strike_in f (y ∷ ys) {x} m = go (f y) m (λ n. strike_in f ys n)
  where
    go : (b : Bool) → x ∈ cond b ys (y ∷ strike f ys) → (x ∈ strike f ys → x ∈ ys) → x ∈ (y ∷ ys)
    go true m k = Memᴰ.tail m
    go false m k = ⊎_elim (λ e. Memᴰ.head e) (λ n. Memᴰ.tail (k n)) (Memᴰ.cases_cons m)

pub strike_short : {X : Type 0} (f : X → Bool) (xs : List X) → length (strike f xs) ≤ length xs
unfolding strike
strike_short f [] = omega arith
strike_short f (y ∷ ys) = go (f y) (strike_short f ys)
  where
    go : (b : Bool) → length (strike f ys) ≤ length ys → length (cond b ys (y ∷ strike f ys)) ≤ suc (length ys)
    go true h = omega arith
    go false h = omega arith

pub not_T : (b : Bool) → T (not b) → T b → ⊥
not_T true t u = t
not_T false t u = u

pub T_not : (b : Bool) → (T b → ⊥) → T (not b)
T_not true f = f tt
T_not false f = tt

module _ {X : Type 0} (alike : X → X → Bool) (alike-eq : (x y : X) → T (alike x y) → x ≡ y) (eq-alike : (x : X) → T (alike x x)) where
  -- once: no element is alike to one behind it
  pub once_snoc : (xs : List X) (x : X) → T (once alike xs) → T (not (some (alike x) xs)) → T (once alike (xs ++ (x ∷ [])))
  unfolding once some
  once_snoc [] x t u = tt
  once_snoc (y ∷ ys) x t u =
      let w = and_both (not (some (alike y) ys)) (once alike ys) t in
      both_and (not (some (alike y) (ys ++ (x ∷ [])))) (once alike (ys ++ (x ∷ [])))
      (T_not (some (alike y) (ys ++ (x ∷ []))) (λ s. fresh w s (some_in (alike y) (ys ++ (x ∷ [])) s)))
      (once_snoc ys x w.1 (T_not (some (alike x) ys) (λ s. not_T (some (alike x) (y ∷ ys)) u (or_right (alike x y) (some (alike x) ys) s))))
    where
      fresh : T (not (some (alike y) ys)) × T (once alike ys) → T (some (alike y) (ys ++ (x ∷ []))) → (z : X) × (z ∈ (ys ++ (x ∷ []))) × T (alike y z) → ⊥
      fresh w s (z, m, a) = ⊎_elim
          (λ n. not_T (some (alike y) ys) w.0 (in_some (alike y) ys z n a))
          (λ n. let e = alike-eq y z a ∙ Memᴰ.eq_of_singleton n in
          not_T (some (alike x) (y ∷ ys)) u (or_left (alike x y) (some (alike x) ys) (subst (λ v. T (alike x v)) (sym e) (eq-alike x))))
          (Memᴰ.append_cases ys m)

  pub once_strike : (f : X → Bool) (xs : List X) → T (once alike xs) → T (once alike (strike f xs))
  unfolding once strike
  once_strike f [] t = tt
  once_strike f (y ∷ ys) t = go (f y) (and_both (not (some (alike y) ys)) (once alike ys) t) (λ u. once_strike f ys u)
    where
      go : (b : Bool) → T (not (some (alike y) ys)) × T (once alike ys) → (T (once alike ys) → T (once alike (strike f ys))) →
          T (once alike (cond b ys (y ∷ strike f ys)))
      go true w k = w.1
      go false w k = both_and (not (some (alike y) (strike f ys))) (once alike (strike f ys))
          (T_not (some (alike y) (strike f ys)) (λ s. let v = some_in (alike y) (strike f ys) s in
          not_T (some (alike y) ys) w.0 (in_some (alike y) ys v.0 (strike_in f ys v.1) v.2)))
          (k w.1)

-- ---- the limits, one by one

pub record Limited (h : Held) : Type 0 where
  pub few_rules : length h.rules ≤ RULES
  pub few_marks : length h.marks ≤ MARKS
  pub few_depths : depth_count (ends_of h.marks) ≤ DEPTHS
  pub rules : T (every is_rule h.rules)
  pub marks : T (every is_mark h.marks)
  pub once_rules : T (once same_rule h.rules)
  pub once_marks : T (once same_mark h.marks)
  pub settings : T (is_settings h.settings)
  pub inside : T (every (lies_in (hole_in h)) h.marks)
  pub admitted : T (every (admits (profile_in h)) h.rules)

pub limited : (h : Held) → T (limits h) → Limited h
unfolding limits
limited h t =
    let a = and_both (leb (length h.rules) RULES) _ t in
    let b = and_both (leb (length h.marks) MARKS) _ a.1 in
    let c = and_both (leb (depth_count (ends_of h.marks)) DEPTHS) _ b.1 in
    let d = and_both (every is_rule h.rules) _ c.1 in
    let e = and_both (every is_mark h.marks) _ d.1 in
    let f = and_both (once same_rule h.rules) _ e.1 in
    let g = and_both (once same_mark h.marks) _ f.1 in
    let i = and_both (is_settings h.settings) _ g.1 in
    let j = and_both (every (lies_in (hole_in h)) h.marks) (every (admits (profile_in h)) h.rules) i.1 in
    record {
      few_rules = leb→le (length h.rules) RULES a.0;
      few_marks = leb→le (length h.marks) MARKS b.0;
      few_depths = leb→le (depth_count (ends_of h.marks)) DEPTHS c.0;
      rules = d.0;
      marks = e.0;
      once_rules = f.0;
      once_marks = g.0;
      settings = i.0;
      inside = j.0;
      admitted = j.1;
    }

pub of_limited : (h : Held) → Limited h → T (limits h)
unfolding limits
of_limited h w =
    both_and (leb (length h.rules) RULES) _ (le→leb (length h.rules) RULES w.few_rules)
    (both_and (leb (length h.marks) MARKS) _ (le→leb (length h.marks) MARKS w.few_marks)
    (both_and (leb (depth_count (ends_of h.marks)) DEPTHS) _ (le→leb (depth_count (ends_of h.marks)) DEPTHS w.few_depths)
    (both_and (every is_rule h.rules) _ w.rules
    (both_and (every is_mark h.marks) _ w.marks
    (both_and (once same_rule h.rules) _ w.once_rules
    (both_and (once same_mark h.marks) _ w.once_marks
    (both_and (is_settings h.settings) _ w.settings
    (both_and (every (lies_in (hole_in h)) h.marks) (every (admits (profile_in h)) h.rules) w.inside w.admitted))))))))

pub in_range : (h : Held) → Limited h → InRange h
in_range h w = record {
  rules = λ ρ m. every_in is_rule h.rules w.rules ρ m;
  marks = λ k m. every_in is_mark h.marks w.marks k m;
  hole = w.settings;
  inside = λ k m. every_in (lies_in (hole_in h)) h.marks w.inside k m;
}
