-- The ends of marks: laws of `ends_of`, what a mark in range has, and marks in their places. Assumes nothing.
use Rattle.std.specs.Prelude.{◌≡◌, refl, ◌⊎◌, ◌↔◌, ◌&&◌, List, [], ◌∷◌, ◌++◌, ℕ, zero, suc, ◌≤◌, ◌<◌, T, ℤ, ◌≤ℤ◌, length, get_or, take}
use Rattle.std.proofs.Common.{sym, ap, subst, inl, inr, ⊎_elim, arith}
use mathlib.Core.List.Memᴰ
use Rattle.std.specs.Int.Signed.{le_z_yes}
use Rattle.terms.specs.declared.Mark.{Mark}
use Rattle.terms.specs.Order.{ints, ≤-refl}
use Rattle.terms.specs.Tests.{and_both}
use Rattle.terms.specs.Limits.{is_depth}
use Rattle.terms.specs.Places.{MarksNamed}
use Rattle.terms.specs.Held.{◌∈◌, At, ends_of, is_markable, is_placed, is_ordered, is_mark}

-- ---- a mark in range

pub mark_markable : (m : Mark) → T (is_mark m) → T (is_markable m.atom)
mark_markable m t = (and_both (is_markable m.atom) (is_placed m && is_ordered m) t).0

pub mark_placed : (m : Mark) → T (is_mark m) → T (is_placed m)
mark_placed m t = (and_both (is_placed m) (is_ordered m) (and_both (is_markable m.atom) (is_placed m && is_ordered m) t).1).0

pub mark_ordered : (m : Mark) → T (is_mark m) → m.top ≤ℤ m.bottom
mark_ordered m t = le_z_yes (and_both (is_placed m) (is_ordered m) (and_both (is_markable m.atom) (is_placed m && is_ordered m) t).1).1

pub top_placed : (m : Mark) → T (is_mark m) → T (is_depth m.top)
top_placed m t = (and_both (is_depth m.top) (is_depth m.bottom) (mark_placed m t)).0

pub bottom_placed : (m : Mark) → T (is_mark m) → T (is_depth m.bottom)
bottom_placed m t = (and_both (is_depth m.top) (is_depth m.bottom) (mark_placed m t)).1

-- ---- where a mark is true

-- 02, Slip 2: at its top and at its bottom
pub at_top : (m : Mark) → T (is_mark m) → At m m.top
at_top m t = (≤-refl m.top, mark_ordered m t)

pub at_bottom : (m : Mark) → T (is_mark m) → At m m.bottom
at_bottom m t = (mark_ordered m t, ≤-refl m.bottom)

-- with each two depths at each between them
pub at_between : (m : Mark) (i j k : ℤ) → At m i → At m k → i ≤ℤ j → j ≤ℤ k → At m j
at_between m i j k a b l n = (omega (ints, a.0), omega (ints, b.1))

-- 01, Records: with both ends equal at that depth alone
pub at_point : (m : Mark) → m.top ≡ m.bottom → (i : ℤ) → At m i ↔ (m.top ≡ i)
at_point m e i = (λ a. omega (ints, e, a.0, a.1), λ d. (omega (ints, d), omega (ints, d, e)))

-- ---- the ends of a list of marks

pub top_in : (ms : List Mark) (m : Mark) → m ∈ ms → m.top ∈ ends_of ms
top_in [] m h = absurd (Memᴰ.not-nil h)
top_in (x ∷ ms) m h =
    ⊎_elim (λ e. Memᴰ.head (ap (λ (k : Mark). k.top) e)) (λ n. Memᴰ.tail (Memᴰ.tail (top_in ms m n))) (Memᴰ.cases_cons h)

pub bottom_in : (ms : List Mark) (m : Mark) → m ∈ ms → m.bottom ∈ ends_of ms
bottom_in [] m h = absurd (Memᴰ.not-nil h)
bottom_in (x ∷ ms) m h =
    ⊎_elim (λ e. Memᴰ.tail (Memᴰ.head (ap (λ (k : Mark). k.bottom) e))) (λ n. Memᴰ.tail (Memᴰ.tail (bottom_in ms m n)))
    (Memᴰ.cases_cons h)

-- an end is the top or the bottom of a mark
pub record EndOf (ms : List Mark) (d : ℤ) : Type 0 where
  pub mark : Mark
  pub held : mark ∈ ms
  pub end : (d ≡ mark.top) ⊎ (d ≡ mark.bottom)

pub ends_only : (ms : List Mark) (d : ℤ) → d ∈ ends_of ms → EndOf ms d
ends_only [] d h = absurd (Memᴰ.not-nil h)
ends_only (m ∷ ms) d h =
    ⊎_elim (λ e. here (inl e)) (λ n. ⊎_elim (λ e. here (inr e)) (λ k. later (ends_only ms d k)) (Memᴰ.cases_cons n)) (Memᴰ.cases_cons h)
  where
    here : (d ≡ m.top) ⊎ (d ≡ m.bottom) → EndOf (m ∷ ms) d
    here e = record { mark = m; held = Memᴰ.head refl; end = e }

    later : EndOf ms d → EndOf (m ∷ ms) d
    later w = record { mark = w.mark; held = Memᴰ.tail w.held; end = w.end }

pub ends_append : (ms ns : List Mark) → ends_of (ms ++ ns) ≡ ends_of ms ++ ends_of ns
ends_append [] ns = refl
ends_append (m ∷ ms) ns = ap (λ ds. m.top ∷ m.bottom ∷ ds) (ends_append ms ns)

-- the ends of marks in range are depths that a mark may have
pub ends_placed : (ms : List Mark) → ((m : Mark) → m ∈ ms → T (is_mark m)) → (d : ℤ) → d ∈ ends_of ms → T (is_depth d)
ends_placed ms f d h = go (ends_only ms d h)
  where
    go : EndOf ms d → T (is_depth d)
    go w = ⊎_elim
        (λ e. subst (λ z. T (is_depth z)) (sym e) (top_placed w.mark (f w.mark w.held)))
        (λ e. subst (λ z. T (is_depth z)) (sym e) (bottom_placed w.mark (f w.mark w.held)))
        w.end

-- ---- marks in a list

-- what stands in a place below n is among the first n
pub in_take : {X : Type 0} (xs : List X) (n i : ℕ) (d : X) → i < n → n ≤ length xs → get_or xs i d ∈ take n xs
in_take xs zero i d h l = let z : ⊥ = omega arith in absurd z
in_take [] (suc n) i d h l = let z : ⊥ = omega arith in absurd z
in_take (x ∷ xs) (suc n) zero d h l = Memᴰ.head refl
in_take (x ∷ xs) (suc n) (suc i) d h l = Memᴰ.tail (in_take xs n i d (omega arith) (omega arith))

-- and what stands in a place of the list is in it
pub in_list : {X : Type 0} (xs : List X) (i : ℕ) (d : X) → i < length xs → get_or xs i d ∈ xs
in_list [] i d h = let z : ⊥ = omega arith in absurd z
in_list (x ∷ xs) zero d h = Memᴰ.head refl
in_list (x ∷ xs) (suc i) d h = Memᴰ.tail (in_list xs i d (omega arith))

pub mark_named : (ms : List Mark) (i : ℕ) (d : Mark) → MarksNamed ms → i < length ms → T (is_mark (get_or ms i d))
mark_named ms i d w h = w.each (get_or ms i d) (in_list ms i d h)
