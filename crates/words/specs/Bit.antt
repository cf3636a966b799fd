-- Bit `k` of `x`, as the number 0 or 1, and what the functions on words say of it.
use Rattle.std.specs.Prelude.{◌≡◌, ℕ, suc, ◌+◌, ◌/◌, ◌%◌, ◌^◌, ◌<◌, ◌≤◌}
use Rattle.std.proofs.Common.{sym, ap, ◌∙◌, arith, shr-shr}

-- bit `k` of `x`
unfoldable pub bit_at : ℕ → ℕ → ℕ
bit_at x k = x / 2 ^ k % 2

-- the bits but the lowest are those of the half
pub bit_suc : (x p : ℕ) → bit_at x (suc p) ≡ bit_at (x / 2) p
unfolding bit_at
bit_suc x p = ap (λ (y : ℕ). y % 2) (sym (shr-shr x 1 p ∙ ap (λ (m : ℕ). x / 2 ^ m) (let e : 1 + p ≡ suc p = omega arith in e)))

-- `r` has the bits below `n`, as far as they fit into a word
pub record Ones (n r : ℕ) : Type 0 where
  pub all : (p : ℕ) → p < 64 → p < n → bit_at r p ≡ 1
  pub none : (p : ℕ) → n ≤ p → bit_at r p ≡ 0

-- `r` is the lowest set bit of `x`
pub record LowestBit (x r : ℕ) : Type 0 where
  pub small : r < 64
  pub set : bit_at x r ≡ 1
  pub below : (p : ℕ) → p < r → bit_at x p ≡ 0

-- `r` is one more than the highest set bit of `x`, and 0 of 0
pub record Length (x r : ℕ) : Type 0 where
  pub small : r ≤ 64
  pub some : 0 < x → 0 < r
  pub top : (p : ℕ) → p + 1 ≡ r → bit_at x p ≡ 1
  pub above : (p : ℕ) → r ≤ p → bit_at x p ≡ 0
