-- Laws of mapped lists: which tests their elements pass, that none is there twice, and how many distinct depths they have. Assumes nothing.
use Rattle.std.specs.Prelude.{◌≡◌, refl, Bool, true, false, not, cond, List, [], ◌∷◌, map, ◌≤◌, ◌+◌, T, ℤ}
use Rattle.std.proofs.Common.{sym, ap, ◌∙◌, subst, arith}
use mathlib.Core.List.Memᴰ
use Rattle.std.proofs.lemmas.Simd.{map-map}
use Rattle.terms.specs.Tests.{and_both, both_and}
use Rattle.terms.specs.Held.{◌∈◌}
use Rattle.terms.specs.Same.{same_depth}
use Rattle.terms.proofs.SameLaws.{same_depth_lem, depth_same}
use Rattle.terms.specs.Lists.{some, every, once, depth_count}
use Rattle.terms.proofs.Limited.{some_in, in_some, in_every, not_T, T_not}

-- a map that changes no element changes nothing
pub map_same : {X : Type 0} (f : X → X) → ((x : X) → f x ≡ x) → (xs : List X) → map f xs ≡ xs
map_same f e [] = refl
map_same f e (x ∷ xs) = λ i. e x i ∷ map_same f e xs i

-- and one that is undone
pub map_back : {X : Type 0} (f g : X → X) → ((x : X) → g (f x) ≡ x) → (xs : List X) → map g (map f xs) ≡ xs
map_back f g e xs = map-map g f xs ∙ map_same (λ x. g (f x)) e xs

-- each mapped element passes
pub every_mapped : {X Y : Type 0} (test : Y → Bool) (f : X → Y) (xs : List X) → ((x : X) → x ∈ xs → T (test (f x))) → T (every test (map f xs))
every_mapped test f xs k = in_every test (map f xs) (λ y m. let (x, n, e) = Memᴰ.of_map f xs m in subst (λ z. T (test z)) e (k x n))

-- a map that can be undone leaves no two alike
pub once_mapped : {X : Type 0} (alike : X → X → Bool) → ((x y : X) → T (alike x y) → x ≡ y) → ((x : X) → T (alike x x)) →
    (f g : X → X) → ((x : X) → g (f x) ≡ x) → (xs : List X) → T (once alike xs) → T (once alike (map f xs))
unfolding once
once_mapped alike exact self f g back [] t = tt
once_mapped alike exact self f g back (x ∷ xs) t =
    let w = and_both (not (some (alike x) xs)) (once alike xs) t in
    both_and (not (some (alike (f x)) (map f xs))) (once alike (map f xs))
    (T_not (some (alike (f x)) (map f xs)) (λ s. not_T (some (alike x) xs) w.0 (found (some_in (alike (f x)) (map f xs) s))))
    (once_mapped alike exact self f g back xs w.1)
  where
    found : (y : _) × (y ∈ map f xs) × T (alike (f x) y) → T (some (alike x) xs)
    found (y, m, a) =
        let (z, n, e) = Memᴰ.of_map f xs m in
        in_some (alike x) xs z n (subst (λ v. T (alike x v)) (sym (back x) ∙ ap g (exact (f x) y a ∙ sym e) ∙ back z) (self x))

-- mapped depths have no more distinct ones among them
pub mapped_few : (f : ℤ → ℤ) (ds : List ℤ) → depth_count (map f ds) ≤ depth_count ds
unfolding depth_count
mapped_few f [] = omega arith
mapped_few f (d ∷ ds) = go (some (same_depth d) ds) (some (same_depth (f d)) (map f ds)) again (mapped_few f ds)
  where
    again : T (some (same_depth d) ds) → T (some (same_depth (f d)) (map f ds))
    again t =
        let (e, m, a) = some_in (same_depth d) ds t in
        in_some (same_depth (f d)) (map f ds) (f e) (Memᴰ.map f m) (subst (λ x. T (same_depth (f d) (f x))) (same_depth_lem d e a) (depth_same (f d)))

    go : (a b : Bool) → (T a → T b) → depth_count (map f ds) ≤ depth_count ds → cond b 0 1 + depth_count (map f ds) ≤ cond a 0 1 + depth_count ds
    go true true k l = omega arith
    go true false k l = absurd (k tt)
    go false true k l = omega arith
    go false false k l = omega arith
