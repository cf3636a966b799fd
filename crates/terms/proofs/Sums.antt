-- The sum and the difference of two numbers of 32 bits fit 64: they are read as sums of natural numbers. Assumes nothing.
use Rattle.std.specs.Prelude.{◌≡◌, ℕ, ◌+◌, ◌<◌, ◌≤◌, ◌^◌, ℤ, pos, negsuc, ◌+ℤ◌, ◌-ℤ◌}
use Rattle.std.proofs.Common.{arith, SFits}
use Rattle.std.specs.Int.Signed.{mag}
use Rattle.std.specs.Int.{w32, w64}
use Rattle.terms.specs.Order.{up, dn, add_is, sub_is}

up_le : (z : ℤ) → up z ≤ mag z
up_le (pos n) = omega arith
up_le (negsuc n) = omega arith

dn_le : (z : ℤ) → dn z ≤ mag z + 1
dn_le (pos n) = omega arith
dn_le (negsuc n) = omega arith

mag_of : (z : ℤ) (x y k : ℕ) → up z + x ≡ dn z + y → x < k → y < k → mag z < k
mag_of (pos n) x y k e p q = omega arith
mag_of (negsuc n) x y k e p q = omega arith

pub sum_fits : {a b : ℤ} → SFits w32 a → SFits w32 b → SFits w64 (a +ℤ b)
sum_fits {a} {b} f g =
    record {
      sfits = mag_of (a +ℤ b) (dn a + dn b) (up a + up b) (2 ^ 63) (omega (arith, add_is a b))
          (omega (arith, dn_le a, dn_le b, f.sfits, g.sfits)) (omega (arith, up_le a, up_le b, f.sfits, g.sfits));
    }

pub difference_fits : {a b : ℤ} → SFits w32 a → SFits w32 b → SFits w64 (a -ℤ b)
difference_fits {a} {b} f g =
    record {
      sfits = mag_of (a -ℤ b) (dn a + up b) (up a + dn b) (2 ^ 63) (omega (arith, sub_is a b))
          (omega (arith, up_le b, dn_le a, f.sfits, g.sfits)) (omega (arith, up_le a, dn_le b, f.sfits, g.sfits));
    }
