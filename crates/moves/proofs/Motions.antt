-- The laws of a move of the line: order, gaps and distances go along; the shift and the mirror are moves. Assumes nothing.
use Rattle.std.specs.Prelude.{◌↔◌, ℕ, ℤ, neg_ℤ, ◌≤ℤ◌, ◌<ℤ◌}
use Rattle.std.proofs.Common.{arith}
use Rattle.std.proofs.Math.IntN.{suc_ℤ}
use Rattle.terms.specs.Order.{ints, add_is, neg_up, neg_dn, neg_neg, suc_is}
use Rattle.logic.specs.Depths.{Near}
use Rattle.logic.proofs.Nearness.{nears}
use Rattle.shift.specs.Shifted.{by}
use Rattle.moves.proofs.Moves.{Side, upper, lower, Inward, Sense, ahead, reversed, origin, Rigid, Motion, end_of}

-- a depth lies inside an end exactly if the moved depth lies inside the moved end
pub order : (s : Sense) {f : ℤ → ℤ} → Rigid s f → (κ : Side) (e i : ℤ) → Inward (origin s κ) e i ↔ Inward κ (f e) (f i)
order ahead R upper e i = (λ l. omega (ints, R.keeps e i), λ l. omega (ints, R.keeps e i))
order ahead R lower e i = (λ l. omega (ints, R.keeps e i), λ l. omega (ints, R.keeps e i))
order reversed R upper e i = (λ l. omega (ints, R.keeps e i), λ l. omega (ints, R.keeps e i))
order reversed R lower e i = (λ l. omega (ints, R.keeps e i), λ l. omega (ints, R.keeps e i))

-- so what lies from t to b lies in the moved stretch
pub between : (s : Sense) {f : ℤ → ℤ} → Rigid s f → (t b i : ℤ) → t ≤ℤ i → i ≤ℤ b → (end_of s f upper t b ≤ℤ f i) × (f i ≤ℤ end_of s f lower t b)
between ahead R t b i l k = ((order ahead R upper t i).0 l, (order ahead R lower b i).0 k)
between reversed R t b i l k = ((order reversed R upper b i).0 k, (order reversed R lower t i).0 l)

-- a depth lies between two, of which the first is shallower, or reversed deeper
abbrev pub Clear : Sense → ℤ → ℤ → Type 0
Clear ahead u w = suc_ℤ u <ℤ w
Clear reversed u w = suc_ℤ w <ℤ u

-- so it does between the moved two
pub clear : (s : Sense) {f : ℤ → ℤ} → Rigid s f → (x y : ℤ) → suc_ℤ x <ℤ y → Clear s (f x) (f y)
clear ahead {f} R x y l = omega (ints, R.keeps x y, suc_is x, suc_is (f x))
clear reversed {f} R x y l = omega (ints, R.keeps x y, suc_is x, suc_is (f y))

-- no depth lies between two
pub record Beside (x y : ℤ) : Type 0 where
  pub low : x ≤ℤ suc_ℤ y
  pub high : y ≤ℤ suc_ℤ x

-- nor between the moved two
pub beside : (s : Sense) {f : ℤ → ℤ} → Rigid s f → (x y : ℤ) → Beside x y → Beside (f x) (f y)
beside ahead {f} R x y b =
    let k = R.keeps x y in
    record { low = omega (ints, k, suc_is y, suc_is (f y), b.low); high = omega (ints, k, suc_is x, suc_is (f x), b.high) }
beside reversed {f} R x y b =
    let k = R.keeps x y in
    record { low = omega (ints, k, suc_is x, suc_is (f y), b.high); high = omega (ints, k, suc_is y, suc_is (f x), b.low) }

-- a distance less than a bound is so after the move
pub near : (s : Sense) {f : ℤ → ℤ} → Rigid s f → (j k : ℤ) (b : ℕ) → Near j k b → Near (end_of s f upper j k) (end_of s f lower j k) b
near ahead R j k b n = omega (nears, R.keeps j k)
near reversed R j k b n = omega (nears, R.keeps j k)

-- ---- the two moves

-- the inverse is a move of the same sense
pub inverse : {s : Sense} {f g : ℤ → ℤ} → Motion s f g → Motion s g f
inverse M = record { there = M.back; back = M.there; undone = M.redone; redone = M.undone }

by_rigid : (c : ℤ) → Rigid ahead (by c)
by_rigid c = record { keeps = λ x y. omega (arith, add_is x c, add_is y c) }

-- 02, Slip 9: all depths move by the same amount
pub shifting : (c : ℤ) → Motion ahead (by c) (by (neg_ℤ c))
shifting c = record {
  there = by_rigid c;
  back = by_rigid (neg_ℤ c);
  undone = λ i. omega (ints, add_is i c, add_is (by c i) (neg_ℤ c), neg_up c, neg_dn c);
  redone = λ i. omega (ints, add_is i (neg_ℤ c), add_is (by (neg_ℤ c) i) c, neg_up c, neg_dn c);
}

neg_rigid : Rigid reversed neg_ℤ
neg_rigid = record { keeps = λ x y. omega (arith, neg_up x, neg_dn x, neg_up y, neg_dn y) }

-- 02, Slip 9: the line is reversed, d to -d
pub mirroring : Motion reversed neg_ℤ neg_ℤ
mirroring = record { there = neg_rigid; back = neg_rigid; undone = neg_neg; redone = neg_neg }
