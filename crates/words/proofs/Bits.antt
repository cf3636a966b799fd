-- Laws of `bit_at`: by division and remainder, bit by bit from the lowest.
use mathlib.Core.Path.{◌≡◌, refl, sym, ap, ◌∙◌, subst}
use mathlib.Core.Logic.{◌⊎◌, inl, inr, ⊎_elim}
use Prim.Native.Nat.{ℕ, zero, suc, ◌+◌, ◌*◌, ◌-◌, ◌/◌, ◌%◌, ◌^◌, ◌<◌, ◌≤◌, max, min}
use native.Mathlib.Nat.{mod-lt, zero-lt-suc, div-eq_of_lt, mul-add-mod_self_right, mod-eq_of_lt}
use native.Mathlib.Nat.{mul-mod_left, pow-suc, one-mul, div_self, div-one, lt_of_lt_of_le}
use native.Mathlib.Omega.{arith}
use native.Mathlib.Numerals.{add-one}
use native.Mathlib.Decide.{dec_le, ℕ_discrete}
use lib.Dec.{lit<}
use lib.Arith.{lt-one}
use lib.Bits.{bit_and, bit_or, bit_xor, differ, and_mask, and_shr, and_step, or_shr, or_step, xor_shr, xor_step}
use lib.Pow.{pow_pos, pow-add, pow-lt, pow_mono, shl-shr, shl_exact, shr_lt, ones_split, ones_lt, high, field, mod-mod-pow}
use lib.Count.{count_trailing_zeros, count_leading_zeros, under, leading_length}
use Rattle.words.specs.Bit.{bit_at, bit_suc, Ones, LowestBit, Length}

two_pos : 0 < 2
two_pos = zero-lt-suc 1

-- the two cases of an order, and of an equality
pub le_or_lt : (a b : ℕ) → (a ≤ b) ⊎ (b < a)
le_or_lt a b = go (dec_le a b)
  where
    go : Dec (a ≤ b) → (a ≤ b) ⊎ (b < a)
    go (yes h) = inl h
    go (no h) = inr (omega arith)

pub eq_or_ne : (a b : ℕ) → (a ≡ b) ⊎ (a ≡ b → ⊥)
eq_or_ne a b = go (ℕ_discrete a b)
  where
    go : Dec (a ≡ b) → (a ≡ b) ⊎ (a ≡ b → ⊥)
    go (yes h) = inl h
    go (no h) = inr h

-- what the code of `bit` computes
pub masked : (x k : ℕ) → bit_and (x / 2 ^ k) 1 ≡ bit_at x k
unfolding bit_at
masked x k = and_mask (x / 2 ^ k) 1

-- a bit is 0 or 1
pub bit_lt : (x k : ℕ) → bit_at x k < 2
unfolding bit_at
bit_lt x k = mod-lt (x / 2 ^ k) two_pos

-- a number has no bits from its length on
pub bit_above : (x k p : ℕ) → x < 2 ^ k → k ≤ p → bit_at x p ≡ 0
unfolding bit_at
bit_above x k p h l = ap (λ (y : ℕ). y % 2) (div-eq_of_lt (lt_of_lt_of_le h (pow_mono l)))

pub bit_zero : (p : ℕ) → bit_at 0 p ≡ 0
bit_zero p = bit_above 0 0 p (zero-lt-suc 0) (omega arith)

-- the lowest bit
pub bit_0 : (x : ℕ) → bit_at x 0 ≡ x % 2
unfolding bit_at
bit_0 x = ap (λ (y : ℕ). y % 2) (div-one x)

-- the low bits of a number that is cut
pub cut_bit : (x n k : ℕ) → k < n → bit_at (x % 2 ^ n) k ≡ bit_at x k
unfolding bit_at
cut_bit x n k h =
    let e : (n - suc k) + 1 + k ≡ n = omega arith in
    ap (λ (m : ℕ). x % 2 ^ m / 2 ^ k % 2) (sym e)
    ∙ ap (λ (y : ℕ). y % 2) (field x ((n - suc k) + 1) k)
    ∙ mod-mod-pow (x / 2 ^ k) (n - suc k) 1

max_lt : (a b : ℕ) → a < 2 → b < 2 → max a b < 2
max_lt a b p q = omega arith

min_lt : (a b : ℕ) → a < 2 → b < 2 → min a b < 2
min_lt a b p q = omega arith

differ_lt : (a b : ℕ) → a < 2 → b < 2 → differ a b < 2
differ_lt zero b p q = q
differ_lt (suc zero) zero p q = p
differ_lt (suc zero) (suc zero) p q = omega arith
differ_lt (suc zero) (suc (suc b)) p q = absurd (omega arith)
differ_lt (suc (suc a)) b p q = absurd (omega arith)

low_digit : (h d : ℕ) → d < 2 → (h * 2 + d) % 2 ≡ d
low_digit h d l = mul-add-mod_self_right h 2 d ∙ mod-eq_of_lt l

pub or_bit : (a b k : ℕ) → bit_at (bit_or a b) k ≡ max (bit_at a k) (bit_at b k)
unfolding bit_at
or_bit a b k =
    ap (λ (x : ℕ). x % 2) (or_shr a b k ∙ or_step (a / 2 ^ k) (b / 2 ^ k))
    ∙ low_digit _ _ (max_lt _ _ (mod-lt (a / 2 ^ k) two_pos) (mod-lt (b / 2 ^ k) two_pos))

pub and_bit : (a b k : ℕ) → bit_at (bit_and a b) k ≡ min (bit_at a k) (bit_at b k)
unfolding bit_at
and_bit a b k =
    ap (λ (x : ℕ). x % 2) (and_shr a b k ∙ and_step (a / 2 ^ k) (b / 2 ^ k))
    ∙ low_digit _ _ (min_lt _ _ (mod-lt (a / 2 ^ k) two_pos) (mod-lt (b / 2 ^ k) two_pos))

pub xor_bit : (a b k : ℕ) → bit_at (bit_xor a b) k ≡ differ (bit_at a k) (bit_at b k)
unfolding bit_at
xor_bit a b k =
    ap (λ (x : ℕ). x % 2) (xor_shr a b k ∙ xor_step (a / 2 ^ k) (b / 2 ^ k))
    ∙ low_digit _ _ (differ_lt _ _ (mod-lt (a / 2 ^ k) two_pos) (mod-lt (b / 2 ^ k) two_pos))

-- what is in `a` and not in `b`, as `a ^ (a & b)`
differ_min : (x y : ℕ) → x < 2 → y < 2 → differ x (min x y) ≡ x - y
differ_min zero zero p q = refl
differ_min zero (suc y) p q = omega arith
differ_min (suc zero) zero p q = refl
differ_min (suc zero) (suc zero) p q = refl
differ_min (suc zero) (suc (suc y)) p q = absurd (omega arith)
differ_min (suc (suc x)) y p q = absurd (omega arith)

pub without_bit : (a b k : ℕ) → bit_at (bit_xor a (bit_and a b)) k ≡ bit_at a k - bit_at b k
without_bit a b k =
    xor_bit a (bit_and a b) k ∙ ap (λ (x : ℕ). differ (bit_at a k) x) (and_bit a b k) ∙ differ_min (bit_at a k) (bit_at b k) (bit_lt a k) (bit_lt b k)

-- ---- a power of two
pub pow_same : (k : ℕ) → bit_at (2 ^ k) k ≡ 1
unfolding bit_at
pow_same k = ap (λ (x : ℕ). x % 2) (div_self (pow_pos k))

pow_high : (d j : ℕ) → bit_at (2 ^ (suc d + j)) j ≡ 0
unfolding bit_at
pow_high d j =
    ap (λ (x : ℕ). x / 2 ^ j % 2) (pow-add 2 (suc d) j) ∙ ap (λ (x : ℕ). x % 2) (shl-shr (2 ^ suc d) j)
    ∙ ap (λ (x : ℕ). x % 2) (pow-suc 2 d) ∙ mul-mod_left (2 ^ d) 2

pub pow_other : (k j : ℕ) → (j ≡ k → ⊥) → bit_at (2 ^ k) j ≡ 0
unfolding bit_at
pow_other k j ne = ⊎_elim
    (λ h. let e : suc (k - suc j) + j ≡ k = omega arith in ap (λ (m : ℕ). bit_at (2 ^ m) j) (sym e) ∙ pow_high (k - suc j) j)
    (λ h. ap (λ (x : ℕ). x % 2) (div-eq_of_lt (pow-lt (let l : k < j = omega arith in l))))
    (le_or_lt (suc j) k)

pub shl_one : (k : ℕ) → k < 64 → 1 * 2 ^ k % 2 ^ 64 ≡ 2 ^ k
shl_one k h = shl_exact 1 k 64 (lit< tt) (omega arith) ∙ one-mul (2 ^ k)

-- ---- ones
odd_ones : (d : ℕ) → (2 ^ suc d - 1) % 2 ≡ 1
odd_ones d = ap (λ (m : ℕ). (2 ^ m - 1) % 2) (sym (add-one d)) ∙ ap (λ (x : ℕ). x % 2) (ones_split d 1) ∙ low_digit (2 ^ d - 1) 1 (lit< tt)

ones_in : (n p : ℕ) → p < n → bit_at (2 ^ n - 1) p ≡ 1
unfolding bit_at
ones_in n p h =
    let e : suc (n - suc p) + p ≡ n = omega arith in
    ap (λ (m : ℕ). (2 ^ m - 1) / 2 ^ p % 2) (sym e)
    ∙ ap (λ (x : ℕ). x / 2 ^ p % 2) (ones_split (suc (n - suc p)) p)
    ∙ ap (λ (x : ℕ). x % 2) (high (2 ^ suc (n - suc p) - 1) p (ones_lt p))
    ∙ odd_ones (n - suc p)

pub ones_of : (n : ℕ) → Ones n (2 ^ n - 1)
ones_of n = record { all = λ p _ h. ones_in n p h; none = λ p h. bit_above (2 ^ n - 1) n p (ones_lt n) h }

pub ones_shl : (n : ℕ) → n < 64 → Ones n (1 * 2 ^ n % 2 ^ 64 - 1)
ones_shl n h = subst (λ (m : ℕ). Ones n (m - 1)) (sym (shl_one n h)) (ones_of n)

pub ones_all : (n : ℕ) → 64 ≤ n → Ones n 18446744073709551615
ones_all n h = record { all = λ p l _. ones_in 64 p l; none = λ p l. bit_above (2 ^ 64 - 1) 64 p (ones_lt 64) (omega arith) }

-- ---- the lowest set bit
pub lowest_of_lem : (k x : ℕ) → 0 < x → x < 2 ^ k
    → (count_trailing_zeros k x < k) × (bit_at x (count_trailing_zeros k x) ≡ 1) × ((p : ℕ) → p < count_trailing_zeros k x → bit_at x p ≡ 0)
unfolding count_trailing_zeros
lowest_of_lem zero x h l = absurd (let e = lt-one l in let z : ⊥ = omega arith in z)
lowest_of_lem (suc k) x h l = go (x % 2) refl (lowest_of_lem k (x / 2))
  where
    half : x / 2 < 2 ^ k
    half = shr_lt k 1 (subst (λ (m : ℕ). x < 2 ^ m) (sym (add-one k)) l)

    go : (d : ℕ) → x % 2 ≡ d
        → (0 < x / 2 → x / 2 < 2 ^ k →
        (count_trailing_zeros k (x / 2) < k) × (bit_at (x / 2) (count_trailing_zeros k (x / 2)) ≡ 1)
        × ((p : ℕ) → p < count_trailing_zeros k (x / 2) → bit_at (x / 2) p ≡ 0))
        → (under d (count_trailing_zeros k (x / 2)) < suc k) × (bit_at x (under d (count_trailing_zeros k (x / 2))) ≡ 1)
        × ((p : ℕ) → p < under d (count_trailing_zeros k (x / 2)) → bit_at x p ≡ 0)
    go zero e ih =
        let w = ih (omega arith) half in
        (omega (arith, w.0), bit_suc x _ ∙ w.1, λ p b. below w p b)
      where
        below : (count_trailing_zeros k (x / 2) < k) × (bit_at (x / 2) (count_trailing_zeros k (x / 2)) ≡ 1) × ((p : ℕ) → p < count_trailing_zeros k (x / 2) → bit_at (x / 2) p ≡ 0)
            → (p : ℕ) → p < suc (count_trailing_zeros k (x / 2)) → bit_at x p ≡ 0
        below w zero b = bit_0 x ∙ e
        below w (suc p) b = bit_suc x p ∙ w.2 p (omega arith)
    go (suc zero) e ih = (zero-lt-suc k, bit_0 x ∙ e, λ p b. absurd (let z : ⊥ = omega arith in z))
    go (suc (suc d)) e ih = absurd (let m = mod-lt x two_pos in let z : ⊥ = omega arith in z)

pub lowest_word : (x : ℕ) → 0 < x → x < 2 ^ 64 → LowestBit x (count_trailing_zeros 64 x)
lowest_word x h l = let w = lowest_of_lem 64 x h l in record { small = w.0; set = w.1; below = w.2 }

-- ---- the length
top_bit : (x p : ℕ) → x < 2 ^ suc p → 2 ^ suc p ≤ 2 * x + 1 → bit_at x p ≡ 1
top_bit x zero h l = bit_0 x ∙ omega arith
top_bit x (suc p) h l = bit_suc x p ∙ top_bit (x / 2) p (omega (arith, pow-suc 2 (suc p))) (omega (arith, pow-suc 2 (suc p), pow-suc 2 p))

pub length_word : (x : ℕ) → x < 2 ^ 64 → Length x (64 - count_leading_zeros 64 x)
length_word x h =
    let w = leading_length 64 x h in
    let e : w.0 ≡ 64 - count_leading_zeros 64 x = omega arith in
    subst (λ (m : ℕ). Length x m) e
    (record {
      small = omega arith;
      some = λ s.
          ⊎_elim (λ (z : w.0 ≡ 0). absurd (let q = subst (λ (m : ℕ). x < 2 ^ m) z w.2 in let y : ⊥ = omega arith in y))
          (λ ne. omega arith) (eq_or_ne w.0 0);
      top = λ p q. top_bit x p (subst (λ (m : ℕ). x < 2 ^ m) (sym q ∙ add-one p) w.2) (subst (λ (m : ℕ). 2 ^ m ≤ 2 * x + 1) (sym q ∙ add-one p) w.3);
      above = λ p q. bit_above x w.0 p w.2 q;
    })
