-- What is told of a list by its keys. Assumes nothing.
use mathlib.Core.Path.{◌≡◌, refl, sym, ap, ◌∙◌}
use mathlib.Core.Bool.{Bool, cond, ◌||◌}
use mathlib.Core.List.{List, [], ◌∷◌, ◌++◌, map, map-append, append_assoc}
use Prim.Native.Nat.{ℕ, suc, ◌+◌, ◌*◌, ◌<◌}
use native.Mathlib.Omega.{arith}
use lib.Dec.{T, eqb}
use mathlib.Core.List.Memᴰ
use lib.IntN.{ℤ}
use lib.ListN.{length, get_or, take, set, length-set}
use mir.Syntax.{w32}
use mir.Val.{to_z, of_z}
use mir.ValLaws.{to_z-of_z}
use Rattle.terms.specs.declared.Mark.{Mark}
use Rattle.terms.specs.Held.{◌∈◌, ends_of, is_mark}
use Rattle.terms.proofs.Ends.{ends_append}
use Rattle.terms.specs.Same.{same_depth, same_mark}
use Rattle.terms.specs.Lists.{some, once, depth_count}
use Rattle.scans.specs.Keys.{All, KeyOf, KeysOf, Paired, depth_key, DepthFits, mark_key, MarkFits}
use Rattle.keys.specs.Search.{index_of, position_of, distinct}
use Rattle.keys.proofs.Scan.{take_more, take_more_set}
use Rattle.scans.proofs.Exact.{depth_exact, mark_exact}

module _ {X : Type 0} (R : X → ℕ → Type 0) where
  pub paired_none : Paired R [] []
  unfolding Paired
  paired_none = tt

  -- one key more
  paired_append : (xs : List X) (ks : List ℕ) (x : X) (k : ℕ) → Paired R xs ks → R x k → Paired R (xs ++ (x ∷ [])) (ks ++ (k ∷ []))
  unfolding Paired
  paired_append [] [] x k w r = (r, tt)
  paired_append [] (j ∷ ks) x k w r = absurd w
  paired_append (y ∷ xs) [] x k w r = absurd w
  paired_append (y ∷ xs) (j ∷ ks) x k w r = (w.0, paired_append xs ks x k w.1 r)

  pub paired_more : (xs : List X) (ks : List ℕ) (i k : ℕ) (d : X) → i < length xs → i < length ks → Paired R (take i xs) (take i ks) → R (get_or xs i d) k →
      Paired R (take (i + 1) xs) (take (i + 1) (set ks i k))
  paired_more xs ks i k d h l w r = rw (take_more xs i d h, take_more_set ks i k l) (paired_append (take i xs) (take i ks) (get_or xs i d) k w r)

module _ {X : Type 0} (key : X → ℕ) (P : X → Type 0) where
  all_append : (xs : List X) (x : X) → All P xs → P x → All P (xs ++ (x ∷ []))
  unfolding All
  all_append [] x a p = (p, tt)
  all_append (y ∷ xs) x a p = (a.0, all_append xs x a.1 p)

  pub keys_none : KeysOf key P [] []
  unfolding All
  keys_none = record { are = refl; fit = tt }

  -- one key more
  pub keys_more : (xs ys : List X) (x : X) (out : List ℕ) (i k : ℕ) → ys ≡ xs ++ (x ∷ []) → i < length out
      → KeysOf key P xs (take i out) → KeyOf key P x k → KeysOf key P ys (take (i + 1) (set out i k))
  keys_more xs ys x out i k e h w v =
      rw e
      (record {
        are = take_more_set out i k h ∙ (rw (w.are, v.is) (sym (map-append key xs (x ∷ []))));
        fit = all_append xs x w.fit v.fits;
      })

  -- the keys that a closure gave
  pub keys_paired : (R : X → ℕ → Type 0) → ((x : X) (k : ℕ) → R x k → KeyOf key P x k) → (xs : List X) (ks : List ℕ) → Paired R xs ks → KeysOf key P xs ks
  unfolding Paired All
  keys_paired R f [] [] w = record { are = refl; fit = tt }
  keys_paired R f [] (k ∷ ks) w = absurd w
  keys_paired R f (x ∷ xs) [] w = absurd w
  keys_paired R f (x ∷ xs) (k ∷ ks) w =
      let h = f x k w.0 in
      let t = keys_paired R f xs ks w.1 in
      record { are = λ i. h.is i ∷ t.are i; fit = (h.fits, t.fit) }

  -- a search in the keys is one by them
  some_map : (f : ℕ → Bool) (xs : List X) → some (λ y. f (key y)) xs ≡ some f (map key xs)
  unfolding some
  some_map f [] = refl
  some_map f (x ∷ xs) = ap (λ b. f (key x) || b) (some_map f xs)

  index_map : (f : ℕ → Bool) (xs : List X) → index_of (λ y. f (key y)) xs ≡ index_of f (map key xs)
  unfolding index_of
  index_map f [] = refl
  index_map f (x ∷ xs) = ap (λ n. cond (f (key x)) 0 (suc n)) (index_map f xs)

  module _ (alike : X → X → Bool) (exact : (x y : X) → P x → P y → eqb (key x) (key y) ≡ alike x y) where
    pub some_keys : (x : X) (xs : List X) → P x → All P xs → some (eqb (key x)) (map key xs) ≡ some (alike x) xs
    unfolding some All
    some_keys x [] p a = refl
    some_keys x (y ∷ xs) p a = rw (exact x y p a.0, some_keys x xs p a.1)

    pub index_keys : (x : X) (xs : List X) → P x → All P xs → index_of (eqb (key x)) (map key xs) ≡ index_of (alike x) xs
    unfolding index_of All
    index_keys x [] p a = refl
    index_keys x (y ∷ xs) p a = rw (exact x y p a.0, index_keys x xs p a.1)

    pub once_keys : (xs : List X) → All P xs → once eqb (map key xs) ≡ once alike xs
    unfolding once All
    once_keys [] a = refl
    once_keys (x ∷ xs) a = rw (some_keys x xs a.0 a.1, once_keys xs a.1)

    pub position_keyed : (x : X) (xs : List X) → P x → All P xs → position_of (λ y. eqb (key x) (key y)) xs ≡ position_of (alike x) xs
    position_keyed x xs p a =
        rw (some_map (eqb (key x)) xs, index_map (eqb (key x)) xs, some_keys x xs p a, index_keys x xs p a)

-- the keys of marks in range tell them
pub marks_fit : (ms : List Mark) → ((k : Mark) → k ∈ ms → T (is_mark k)) → All MarkFits ms
unfolding All
marks_fit [] f = tt
marks_fit (m ∷ ms) f = (f m (Memᴰ.head refl), marks_fit ms (λ k h. f k (Memᴰ.tail h)))

pub position_keys : (m : Mark) (ms : List Mark) → MarkFits m → All MarkFits ms → position_of (λ (k : Mark). eqb (mark_key m) (mark_key k)) ms ≡ position_of (same_mark m) ms
position_keys = position_keyed mark_key MarkFits same_mark mark_exact

-- a depth that was handed on is read back from its bits
pub handed_on : (i : ℤ) (k : ℕ) → DepthFits i → KeyOf depth_key DepthFits (to_z w32 (of_z w32 i)) k → KeyOf depth_key DepthFits i k
handed_on i k f w = rw (to_z-of_z w32 i f) at w

-- both ends of one mark more, one after the other
ends_more : (ms : List Mark) (i : ℕ) (d : Mark) → i < length ms →
    ends_of (take (i + 1) ms) ≡ (ends_of (take i ms) ++ ((get_or ms i d).top ∷ [])) ++ ((get_or ms i d).bottom ∷ [])
ends_more ms i d h =
    rw (take_more ms i d h)
    (ends_append (take i ms) (get_or ms i d ∷ []) ∙ sym (append_assoc (ends_of (take i ms)) ((get_or ms i d).top ∷ []) ((get_or ms i d).bottom ∷ [])))

-- the keys of both
pub ends_keys : (ms : List Mark) (out : List ℕ) (i j k : ℕ) (d : Mark) → i < length ms → 2 * i + 1 < length out →
    KeysOf depth_key DepthFits (ends_of (take i ms)) (take (2 * i) out) → KeyOf depth_key DepthFits (get_or ms i d).top j →
    KeyOf depth_key DepthFits (get_or ms i d).bottom k →
    KeysOf depth_key DepthFits (ends_of (take (i + 1) ms)) (take (2 * (i + 1)) (set (set out (2 * i) j) (2 * i + 1) k))
ends_keys ms out i j k d h l w t b =
    let n : 2 * (i + 1) ≡ 2 * i + 1 + 1 = omega arith in
    let m = length-set out (2 * i) j in
    let v = keys_more depth_key DepthFits (ends_of (take i ms)) _ (get_or ms i d).top out (2 * i) j refl (omega arith) w t in
    rw n
    (keys_more depth_key DepthFits _ (ends_of (take (i + 1) ms)) (get_or ms i d).bottom (set out (2 * i) j) (2 * i + 1) k (ends_more ms i d h) (omega arith) v b)

pub distinct_depths : (ds : List ℤ) → All DepthFits ds → distinct (map depth_key ds) ≡ depth_count ds
unfolding distinct depth_count All
distinct_depths [] a = refl
distinct_depths (d ∷ ds) a = rw (some_keys depth_key DepthFits same_depth depth_exact d ds a.0 a.1, distinct_depths ds a.1)
