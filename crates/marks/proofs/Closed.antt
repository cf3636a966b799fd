-- A list in the first places of an array, when those behind a place have moved up by one. Assumes nothing.
use Rattle.std.specs.Prelude.{◌≡◌, List, [], ◌∷◌, ◌++◌, ℕ, zero, suc, ◌+◌, ◌-◌, ◌<◌, ◌≤◌, refl, length, take, drop}
use Rattle.std.specs.List.{copy_within}
use Rattle.std.proofs.Common.{sym, ap, ◌∙◌, arith}
use Rattle.std.proofs.lemmas.List.{drop-take, length-drop}
use Rattle.std.proofs.lemmas.List.Edits.{take-paste}

take_of_take : {X : Type 0} (xs : List X) (i n : ℕ) → i ≤ n → take i (take n xs) ≡ take i xs
take_of_take xs zero n h = refl
take_of_take xs (suc i) zero h = let z : ⊥ = omega arith in absurd z
take_of_take [] (suc i) (suc n) h = refl
take_of_take (x ∷ xs) (suc i) (suc n) h = ap (λ l. x ∷ l) (take_of_take xs i n (omega arith))

pub closed :
    {X : Type 0} (xs : List X) (at n : ℕ) → at < n → n ≤ length xs →
    take (n - 1) (copy_within xs (at + 1) n at) ≡ take at (take n xs) ++ drop (at + 1) (take n xs)
closed xs at n h l =
    let k = n - (at + 1) in
    let e : at + k ≡ n - 1 = omega arith in
    let f : (at + 1) + k ≡ n = omega arith in
    let g = take-paste xs at (drop (at + 1) xs) k (omega arith) (omega (arith, length-drop (at + 1) xs)) in
    ap (λ j. take j (copy_within xs (at + 1) n at)) (sym e)
    ∙ (g ∙ (ap (λ l. l ++ take k (drop (at + 1) xs)) (sym (take_of_take xs at n (omega arith)))
    ∙ ap (λ l. take at (take n xs) ++ l) (sym (ap (λ j. drop (at + 1) (take j xs)) (sym f) ∙ drop-take (at + 1) k xs))))
