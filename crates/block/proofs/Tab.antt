-- The laws of `tab` and `cat`, for loops that fill an array and loops that lay parts, by induction over the list. Assumes nothing.
use mathlib.Core.Path.{◌≡◌, refl, sym, ap, ◌∙◌}
use mathlib.Core.List.{List, [], ◌∷◌, ◌++◌, append_assoc, append-nil}
use Prim.Native.Nat.{ℕ, zero, suc, ◌+◌, ◌*◌, ◌≤◌, ◌<◌}
use native.Mathlib.Nat.{mul-suc, mul-zero, mul-le-mul_left, le_of_lt, not-suc-le-zero, le_of_suc-le-suc}
use native.Mathlib.Numerals.{add-one}
use native.Mathlib.Omega.{arith}
use lib.ListN.{length, get_or, take, set, length-set, length-append, get_or-append}
use lib.Seq.{get_or-set_same, get_or-set_other, take-suc, take_all, length-take-le, get_or-append-add}
use Rattle.codec.specs.Bytes.{put}
use Rattle.codec.proofs.Laws.{put_put}
use Rattle.places.specs.Layout.{cat}
use Rattle.block.specs.Block.{tab}
use Rattle.block.specs.Places.{Filled, ReadBy}
use native.Mathlib.Decide.{ℕ_discrete}

-- an array that is filled one by one
pub read_none : {X : Type 0} (k : ℕ) (R : ℕ → X → Type 0) (xs : List X) → length xs ≡ k → ReadBy k 0 R xs
read_none k R xs e = record { places = e; each = λ i d h. let z : ⊥ = omega arith in absurd z }

pub read_more : {X : Type 0} (k n : ℕ) (R : ℕ → X → Type 0) (xs : List X) (x : X) → n < k → ReadBy k n R xs → R n x → ReadBy k (n + 1) R (set xs n x)
read_more {X} k n R xs x h w r = record { places = length-set xs n x ∙ w.places; each = λ i d l. go i d l (ℕ_discrete i n) }
  where
    go : (i : ℕ) (d : X) → i < n + 1 → Dec (i ≡ n) → R i (get_or (set xs n x) i d)
    go i d l (yes p) = rw (p, get_or-set_same xs n x d (omega (arith, w.places))) r
    go i d l (no p) = rw (get_or-set_other xs n i x d p) (w.each i d (omega arith))

tab_first : {X : Type 0} (f : ℕ → X) (xs : List X) (d : X) (n : ℕ) → n ≤ length xs → ((i : ℕ) → i < n → get_or xs i d ≡ f i) → take n xs ≡ tab f n
unfolding tab
tab_first f xs d zero h e = refl
tab_first f xs d (suc n) h e =
    take-suc xs n d (omega arith)
    ∙ ap (λ t. t ++ (get_or xs n d ∷ [])) (tab_first f xs d n (omega arith) (λ i l. e i (omega arith)))
    ∙ ap (λ y. tab f n ++ (y ∷ [])) (e n (omega arith))

pub filled_by : {X : Type 0} (k n : ℕ) (R : ℕ → X → Type 0) (f : ℕ → X) (xs : List X) (d : X) → n ≤ k → ((i : ℕ) (x : X) → R i x → x ≡ f i) → ReadBy k n R xs → Filled k n f xs
filled_by k n R f xs d h g w =
    record { places = w.places; first = tab_first f xs d n (omega (arith, w.places)) (λ i l. g i (get_or xs i d) (w.each i d l)) }

pub length_tab : {X : Type 0} (f : ℕ → X) (n : ℕ) → length (tab f n) ≡ n
unfolding tab
length_tab f zero = refl
length_tab f (suc n) = length-append (tab f n) (f n ∷ []) ∙ omega (arith, length_tab f n)

-- a table that agrees with a list at each index is the list
tab_take : {X : Type 0} (f : ℕ → X) (xs : List X) (d : X) → ((i : ℕ) → i < length xs → f i ≡ get_or xs i d) → (n : ℕ) → n ≤ length xs → tab f n ≡ take n xs
unfolding tab
tab_take f xs d e zero h = refl
tab_take f xs d e (suc n) h =
    ap (λ t. t ++ (f n ∷ [])) (tab_take f xs d e n (omega arith)) ∙ ap (λ y. take n xs ++ (y ∷ [])) (e n h) ∙ sym (take-suc xs n d h)

pub tab_is : {X : Type 0} (f : ℕ → X) (xs : List X) (d : X) → ((i : ℕ) → i < length xs → f i ≡ get_or xs i d) → tab f (length xs) ≡ xs
tab_is f xs d e = tab_take f xs d e (length xs) (omega arith) ∙ take_all (length xs) xs (omega arith)

cat_append : {X : Type 0} (f : X → List ℕ) (xs ys : List X) → cat f (xs ++ ys) ≡ cat f xs ++ cat f ys
unfolding cat
cat_append f [] ys = refl
cat_append f (x ∷ xs) ys = ap (λ t. f x ++ t) (cat_append f xs ys) ∙ sym (append_assoc (f x) (cat f xs) (cat f ys))

-- parts of k bytes each
module _ {X : Type 0} (f : X → List ℕ) (k : ℕ) (size : (x : X) → length (f x) ≡ k) where
  pub length_cat : (xs : List X) → length (cat f xs) ≡ k * length xs
  unfolding cat
  length_cat [] = sym (mul-zero k)
  length_cat (x ∷ xs) = length-append (f x) (cat f xs) ∙ omega (arith, size x, length_cat xs, mul-suc k (length xs))

  -- byte j of part i
  pub cat_get : (xs : List X) (q : List ℕ) (i j : ℕ) (d : X) → i < length xs → j < k → get_or (cat f xs ++ q) (k * i + j) 0 ≡ get_or (f (get_or xs i d)) j 0
  unfolding cat
  cat_get [] q i j d h l = absurd (not-suc-le-zero h)
  cat_get (x ∷ xs) q zero j d h l =
      let z : k * 0 + j ≡ j = omega (arith, mul-zero k) in
      let n : j < length (f x) = omega (arith, size x) in
      rw (z, append_assoc (f x) (cat f xs) q, get_or-append (f x) (cat f xs ++ q) 0 j n)
  cat_get (x ∷ xs) q (suc i) j d h l =
      let z : k * suc i + j ≡ length (f x) + (k * i + j) = omega (arith, mul-suc k i, size x) in
      rw (z, append_assoc (f x) (cat f xs) q, get_or-append-add (f x) (cat f xs ++ q) (k * i + j) 0) (cat_get xs q i j d (le_of_suc-le-suc h) l)

  -- one more part laid behind those before it
  module _ (l : List ℕ) (base : ℕ) (xs : List X) (fits : base + k * length xs ≤ length l) where
    one : (i : ℕ) (d : X) → i < length xs → cat f (take i xs) ++ f (get_or xs i d) ≡ cat f (take (i + 1) xs)
    unfolding cat
    one i d h =
        rw (add-one, take-suc xs i d h, cat_append f (take i xs) (get_or xs i d ∷ []), append-nil)

    lay_more : (i : ℕ) (d : X) → i < length xs →
        put (put l base (cat f (take i xs))) (base + k * i) (f (get_or xs i d)) ≡ put l base (cat f (take (i + 1) xs))
    lay_more i d h =
        let n : length (take i xs) ≡ i = length-take-le i xs (omega arith) in
        let s : base + k * i ≡ base + length (cat f (take i xs)) = rw (length_cat (take i xs), n) in
        let b : base + k * i ≤ length l = omega (arith, mul-le-mul_left k (le_of_lt h)) in
        put_put l base (base + k * i) (cat f (take i xs)) (f (get_or xs i d)) s b
        ∙ ap (λ t. put l base t) (one i d h)

    -- as a loop lays it
    pub lay_next : (i : ℕ) (d : X) → i < length xs → (b y : List ℕ) → b ≡ put l base (cat f (take i xs)) → y ≡ put b (base + k * i) (f (get_or xs i d)) →
        y ≡ put l base (cat f (take (i + 1) xs))
    lay_next i d h b y e v = v ∙ ap (λ x. put x (base + k * i) (f (get_or xs i d))) e ∙ lay_more i d h
