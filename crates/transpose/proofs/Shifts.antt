-- Shifts and masks of a pair of words, bit by bit.
use mathlib.Core.Path.{◌≡◌, sym, ap, ◌∙◌}
use mathlib.Core.Logic.{⊎_elim}
use Prim.Native.Nat.{ℕ, suc, ◌+◌, ◌*◌, ◌-◌, ◌/◌, ◌%◌, ◌^◌, ◌<◌, ◌≤◌}
use native.Mathlib.Nat.{mul_assoc}
use native.Mathlib.Omega.{arith}
use lib.Bits.{bit_and, bit_or, bit_xor, shifted_even}
use lib.Pow.{pow-add, shl-shr, shr-shr}
use Rattle.words.specs.Bit.{bit_at}
use Rattle.words.proofs.Bits.{le_or_lt, bit_lt, cut_bit, or_bit, and_bit, without_bit}
use Rattle.transpose.specs.Transposed.{side, Stage, Exchanged}

-- a shift to the right
pub shr_bit : (x j c : ℕ) → bit_at (x / 2 ^ j) c ≡ bit_at x (c + j)
unfolding bit_at
shr_bit x j c = ap (λ (y : ℕ). y % 2) (shr-shr x j c ∙ ap (λ (m : ℕ). x / 2 ^ m) (let e : j + c ≡ c + j = omega arith in e))

-- a shift to the left, and the bits that it leaves empty
pub shl_high : (x j c : ℕ) → c < 64 → j ≤ c → bit_at (x * 2 ^ j % 2 ^ 64) c ≡ bit_at x (c - j)
unfolding bit_at
shl_high x j c h l = cut_bit (x * 2 ^ j) 64 c h ∙ shifted
  where
    shifted : bit_at (x * 2 ^ j) c ≡ bit_at x (c - j)
    shifted =
        let e : j + (c - j) ≡ c = omega arith in
        ap (λ (m : ℕ). x * 2 ^ j / 2 ^ m % 2) (sym e)
        ∙ ap (λ (y : ℕ). y % 2) (sym (shr-shr (x * 2 ^ j) j (c - j)) ∙ ap (λ (y : ℕ). y / 2 ^ (c - j)) (shl-shr x j))

pub shl_low : (x j c : ℕ) → c < 64 → c < j → bit_at (x * 2 ^ j % 2 ^ 64) c ≡ 0
unfolding bit_at
shl_low x j c h l = cut_bit (x * 2 ^ j) 64 c h ∙ shifted
  where
    shifted : bit_at (x * 2 ^ j) c ≡ 0
    shifted =
        let e : suc (j - suc c) + c ≡ j = omega arith in
        ap (λ (m : ℕ). x * 2 ^ m / 2 ^ c % 2) (sym e)
        ∙ ap (λ (y : ℕ). y / 2 ^ c % 2) (ap (λ (y : ℕ). x * y) (pow-add 2 (suc (j - suc c)) c) ∙ sym (mul_assoc x (2 ^ suc (j - suc c)) (2 ^ c)))
        ∙ ap (λ (y : ℕ). y % 2) (shl-shr (x * 2 ^ suc (j - suc c)) c)
        ∙ shifted_even x (j - suc c)

pub exchanged : (u v j m : ℕ) → Stage j m
    → Exchanged j u v (record { u = bit_or (bit_and u m) (bit_and v m * 2 ^ j % 2 ^ 64); v = bit_or (bit_and (u / 2 ^ j) m) (bit_xor v (bit_and v m)) })
exchanged u v j m S =
    record {
      u_low = λ c h z. omega (arith, or_bit (bit_and u m) (bit_and v m * 2 ^ j % 2 ^ 64) c, and_bit u m c, bit_lt u c, S.mask c h, moved_none c h z);
      u_high = λ c h o.
          let w = S.high c h o in
          omega (
            arith,
            or_bit (bit_and u m) (bit_and v m * 2 ^ j % 2 ^ 64) c,
            and_bit u m c,
            bit_lt v (c - j),
            S.mask c h,
            shl_high (bit_and v m) j c h w.0,
            and_bit v m (c - j),
            S.mask (c - j) (omega arith),
            w.1,
          );
      v_low = λ c h z.
          omega (
            arith,
            or_bit (bit_and (u / 2 ^ j) m) (bit_xor v (bit_and v m)) c,
            and_bit (u / 2 ^ j) m c,
            shr_bit u j c,
            bit_lt u (c + j),
            bit_lt v c,
            S.mask c h,
            without_bit v m c,
          );
      v_high = λ c h o. omega (arith, or_bit (bit_and (u / 2 ^ j) m) (bit_xor v (bit_and v m)) c, and_bit (u / 2 ^ j) m c, S.mask c h, without_bit v m c);
    }
  where
    moved_none : (c : ℕ) → c < 64 → side j c ≡ 0 → bit_at (bit_and v m * 2 ^ j % 2 ^ 64) c ≡ 0
    moved_none c h z = ⊎_elim
        (λ (l : j ≤ c). omega (arith, shl_high (bit_and v m) j c h l, and_bit v m (c - j), S.mask (c - j) (omega arith), S.back c h z l))
        (λ (l : c < j). shl_low (bit_and v m) j c h l)
        (le_or_lt j c)
