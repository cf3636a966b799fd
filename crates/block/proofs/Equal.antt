-- The test `same_bytes` is equality of lists, by induction over both. Assumes nothing.
use mathlib.Core.Path.{◌≡◌, refl, ap, ◌∙◌}
use mathlib.Core.Bool.{true, ◌&&◌}
use mathlib.Core.List.{List, [], ◌∷◌}
use Prim.Native.Nat.{ℕ, zero, suc, ◌<◌}
use native.Mathlib.Omega.{arith}
use borrow.Author.Tests.{eq-eqb}
use lib.Dec.{T, eqb, eqb→eq}
use lib.ListN.{length, get_or, take}
use Rattle.terms.specs.Tests.{and_both, and_true, and_assoc}
use Rattle.block.specs.Block.{same_bytes}

pub same_bytes_refl : (xs : List ℕ) → same_bytes xs xs ≡ true
unfolding same_bytes
same_bytes_refl [] = refl
same_bytes_refl (x ∷ xs) = rw (eq-eqb x x refl) (same_bytes_refl xs)

pub same_bytes_true : (xs ys : List ℕ) → T (same_bytes xs ys) → xs ≡ ys
unfolding same_bytes
same_bytes_true [] [] t = refl
same_bytes_true [] (y ∷ ys) t = absurd t
same_bytes_true (x ∷ xs) [] t = absurd t
same_bytes_true (x ∷ xs) (y ∷ ys) t =
    let w = and_both (eqb x y) (same_bytes xs ys) t in
    let p : x ≡ y = eqb→eq x y w.0 in
    let q : xs ≡ ys = same_bytes_true xs ys w.1 in
    cc

-- one byte more
pub same_more : (xs ys : List ℕ) (i : ℕ) → i < length xs → i < length ys →
    same_bytes (take (suc i) xs) (take (suc i) ys) ≡ (same_bytes (take i xs) (take i ys) && eqb (get_or xs i 0) (get_or ys i 0))
unfolding same_bytes
same_more [] ys i h l = let z : ⊥ = omega arith in absurd z
same_more (x ∷ xs) [] i h l = let z : ⊥ = omega arith in absurd z
same_more (x ∷ xs) (y ∷ ys) zero h l = and_true (eqb x y)
same_more (x ∷ xs) (y ∷ ys) (suc i) h l =
    ap (λ b. eqb x y && b) (same_more xs ys i (omega arith) (omega arith))
    ∙ and_assoc (eqb x y) (same_bytes (take i xs) (take i ys)) (eqb (get_or xs i 0) (get_or ys i 0))
