-- Searches in a list, from some place on. Assumes nothing.
use mathlib.Core.Path.{◌≡◌, refl, sym, ap, ◌∙◌}
use Rattle.std.proofs.Common.{Some, None, position}
use Rattle.std.proofs.Math.Facts.{eqb_yes, yes_eqb}
use Rattle.std.specs.List.{list_any, list_all, position_or_len}
use mathlib.Core.Bool.{Bool, true, false, not, cond, ◌&&◌, ◌||◌}
use mathlib.Core.List.{List, [], ◌∷◌, ◌++◌, map, append_assoc}
use Prim.Native.Nat.{ℕ, zero, suc, ◌+◌, ◌-◌, ◌≤◌, ◌<◌}
use native.Mathlib.Omega.{arith}
use native.Mathlib.Numerals.{add-one}
use borrow.Author.Tests.{lt-ltb, ne_eqb}
use lib.Dec.{eqb, ltb, leb-suc-suc, eqb-suc-suc}
use lib.ListN.{length, get_or, take, drop, set, length-take, length-drop, length-map}
use lib.Seq.{drop-cons, drop-length, take-suc, take-suc-set}
use Rattle.std.proofs.lemmas.List.{take_all}
use Rattle.terms.specs.Tests.{and_true, and_assoc, same_test}
use Rattle.terms.specs.Lists.{some, every, strike, once}
use Rattle.keys.specs.Search.{index_of, position_of, distinct}

-- an array of structs is owned as the list of its elements' values
pub length_of_map : (A B : Type 0) (f : A → B) (l : List A) (n : ℕ) → length (map f l) ≡ n → length l ≡ n
length_of_map A B f l n e = sym (length-map l f) ∙ e

pub take_few : {X : Type 0} (xs : List X) (n most : ℕ) → n ≤ most → length (take n xs) ≤ most
take_few xs n most h = omega (arith, length-take n xs)

-- one element more
pub take_more : {X : Type 0} (xs : List X) (i : ℕ) (d : X) → i < length xs → take (i + 1) xs ≡ take i xs ++ (get_or xs i d ∷ [])
take_more xs i d h = rw (add-one i) (take-suc xs i d h)

pub take_more_set : {X : Type 0} (xs : List X) (i : ℕ) (x : X) → i < length xs → take (i + 1) (set xs i x) ≡ take i xs ++ (x ∷ [])
take_more_set xs i x h = rw (add-one i) (take-suc-set xs i x h)

or_true : (b : Bool) → b || true ≡ true
or_true true = refl
or_true false = refl

module _ {X : Type 0} (f : X → Bool) where
  -- some element passes where the search stops before the end
  pub some_place : (xs : List X) → some f xs ≡ ltb (index_of f xs) (length xs)
  unfolding some index_of
  some_place [] = refl
  some_place (x ∷ xs) = go (f x) (some_place xs)
    where
      go : (t : Bool) → some f xs ≡ ltb (index_of f xs) (length xs) → t || some f xs ≡ ltb (cond t 0 (suc (index_of f xs))) (suc (length xs))
      go true e = sym (lt-ltb 0 (suc (length xs)) (omega arith))
      go false e = e ∙ sym (leb-suc-suc (suc (index_of f xs)) (length xs))

  -- where none passes, and where one does
  pub some_none : (d : X) (xs : List X) → ((j : ℕ) → j < length xs → f (get_or xs j d) ≡ false) → some f xs ≡ false
  unfolding some
  some_none d [] h = refl
  some_none d (x ∷ xs) h = rw (h 0 (omega arith)) (some_none d xs (λ j k. h (suc j) (omega arith)))

  pub some_at : (d : X) (xs : List X) (j : ℕ) → j < length xs → f (get_or xs j d) ≡ true → some f xs ≡ true
  unfolding some
  some_at d [] j h e = let z : ⊥ = omega arith in absurd z
  some_at d (x ∷ xs) zero h e = rw e
  some_at d (x ∷ xs) (suc j) h e = rw (some_at d xs j (omega arith) e) (or_true (f x))

  -- without the first that passes: what stands before it, and what stands behind it
  strike_place : (xs : List X) → strike f xs ≡ take (index_of f xs) xs ++ drop (suc (index_of f xs)) xs
  unfolding strike index_of
  strike_place [] = refl
  strike_place (x ∷ xs) = go (f x) (strike_place xs)
    where
      go : (t : Bool) → strike f xs ≡ take (index_of f xs) xs ++ drop (suc (index_of f xs)) xs
          → cond t xs (x ∷ strike f xs) ≡ take (cond t 0 (suc (index_of f xs))) (x ∷ xs) ++ drop (suc (cond t 0 (suc (index_of f xs)))) (x ∷ xs)
      go true e = refl
      go false e = ap (λ (l : List X). x ∷ l) e

  pub strike_at : (xs : List X) (p : ℕ) → p ≡ index_of f xs → take p xs ++ drop (p + 1) xs ≡ strike f xs
  strike_at xs p e = rw (add-one p, e) (sym (strike_place xs))

  -- what the library's searches say
  pub some_list : (xs : List X) → list_any f xs ≡ some f xs
  unfolding some
  some_list [] = refl
  some_list (x ∷ xs) = ap (λ (b : Bool). f x || b) (some_list xs)

  pub every_list : (xs : List X) → list_all f xs ≡ every f xs
  unfolding every
  every_list [] = refl
  every_list (x ∷ xs) = ap (λ (b : Bool). f x && b) (every_list xs)

  index_list : (xs : List X) → position_or_len f xs ≡ index_of f xs
  unfolding index_of
  index_list [] = refl
  index_list (x ∷ xs) = go (f x) (index_list xs)
    where
      go : (t : Bool) → position_or_len f xs ≡ index_of f xs → cond (not t) (1 + position_or_len f xs) 0 ≡ cond t 0 (suc (index_of f xs))
      go true e = refl
      go false e = omega arith

  pub position_list : (xs : List X) → position f xs ≡ position_of f xs
  position_list xs = rw (index_list xs, some_place xs)

  -- a place that was found, and none
  pub found : (xs : List X) (p : ℕ) → position_of f xs ≡ Some p → (some f xs ≡ true) × (p ≡ index_of f xs)
  found xs p = go (some f xs)
    where
      go : (t : Bool) → cond t (Some (index_of f xs)) None ≡ Some p → (t ≡ true) × (p ≡ index_of f xs)
      go true e = (refl, (cc))
      go false e = cc

  pub missing : (xs : List X) → position_of f xs ≡ None → some f xs ≡ false
  missing xs = go (some f xs)
    where
      go : (t : Bool) → cond t (Some (index_of f xs)) None ≡ None → t ≡ false
      go true e = cc
      go false e = refl

eqb_swap : (a b : ℕ) → eqb a b ≡ eqb b a
eqb_swap a b = same_test (eqb a b) (eqb b a) (λ t. yes_eqb (sym (eqb_yes t))) (λ t. yes_eqb (sym (eqb_yes t)))

-- a search for a number, by either side of the comparison
pub some_any : (k : ℕ) (ks : List ℕ) → list_any (λ x. eqb x k) ks ≡ some (eqb k) ks
unfolding some
some_any k [] = refl
some_any k (x ∷ xs) = (λ i. eqb_swap x k i || some_any k xs i)

-- and in what is behind a place
pub some_behind : (k from : ℕ) (ks : List ℕ) → list_any (λ x. eqb x k) (take (length ks - from) (drop from ks)) ≡ some (eqb k) (drop from ks)
some_behind k from ks = rw (take_all (length ks - from) (drop from ks) (omega (arith, length-drop from ks))) (some_any k (drop from ks))

-- one step of the count of distinct numbers
pub distinct_step : (ks : List ℕ) (i : ℕ) → i < length ks →
    distinct (drop i ks) ≡ cond (some (eqb (get_or ks i 0)) (drop (i + 1) ks)) 0 1 + distinct (drop (i + 1) ks)
unfolding distinct
distinct_step ks i h = rw (drop-cons ks i 0 h, add-one i)

pub distinct_end : (ks : List ℕ) → distinct (drop (length ks) ks) ≡ 0
unfolding distinct
distinct_end ks = rw (drop-length ks)

-- those behind a gap move up by one
pub gap_more : {X : Type 0} (xs left l : List X) (i : ℕ) (d : X) → i < length left → i + 1 < length xs →
    take i left ++ drop (i + 1) xs ≡ l → take (i + 1) (set left i (get_or xs (i + 1) d)) ++ drop (i + 1 + 1) xs ≡ l
gap_more xs left l i d h k e =
    rw (take_more_set left i (get_or xs (i + 1) d) h, append_assoc (take i left) (get_or xs (i + 1) d ∷ []) (drop (i + 1 + 1) xs), add-one (i + 1))
    (rw (drop-cons xs (i + 1) d k) at e)

pub distinct_few : (ks : List ℕ) → distinct ks ≤ length ks
unfolding distinct
distinct_few [] = omega arith
distinct_few (k ∷ ks) = go (some (eqb k) ks) (distinct_few ks)
  where
    go : (t : Bool) → distinct ks ≤ length ks → cond t 0 1 + distinct ks ≤ suc (length ks)
    go true h = omega arith
    go false h = omega arith

-- no two are the same where as many are distinct as there are
pub distinct_once : (ks : List ℕ) → eqb (distinct ks) (length ks) ≡ once eqb ks
unfolding distinct once
distinct_once [] = refl
distinct_once (k ∷ ks) = go (some (eqb k) ks) (distinct_few ks) (distinct_once ks)
  where
    go : (t : Bool) → distinct ks ≤ length ks → eqb (distinct ks) (length ks) ≡ once eqb ks →
        eqb (cond t 0 1 + distinct ks) (suc (length ks)) ≡ not t && once eqb ks
    go true h e = ne_eqb (0 + distinct ks) (suc (length ks)) (λ q. omega arith)
    go false h e = let q : 1 + distinct ks ≡ suc (distinct ks) = omega arith in rw q (eqb-suc-suc (distinct ks) (length ks) ∙ e)

every_append : {X : Type 0} (f : X → Bool) (xs : List X) (x : X) → every f (xs ++ (x ∷ [])) ≡ every f xs && f x
unfolding every
every_append f [] x = and_true (f x)
every_append f (y ∷ xs) x = ap (λ (b : Bool). f y && b) (every_append f xs x) ∙ and_assoc (f y) (every f xs) (f x)

-- one element more passes too
pub every_more : {X : Type 0} (f : X → Bool) (xs ys : List X) (x : X) (a b : Bool) → ys ≡ xs ++ (x ∷ []) → a ≡ every f xs → b ≡ f x → a && b ≡ every f ys
every_more f xs ys x a b e p q = rw (e, p, q) (sym (every_append f xs x))
