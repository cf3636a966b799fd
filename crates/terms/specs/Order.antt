-- The order on ℤ, read in ℕ. Every integer z is `up z` less `dn z`, so z ≤ w says `up z + dn w ≤ up w + dn z`: a linear
-- statement that `omega` reads. The set `ints` turns each order and each equation of ℤ, in the hypotheses and in the goal,
-- into that; of a sum or a difference that occurs, `omega (ints, sub_is a b)` says what it is. Assumes nothing.
use Rattle.std.specs.Prelude.{◌≡◌, refl, ◌⊎◌, Bool, true, false, not, cond, ℕ, zero, suc, ◌+◌, ◌-◌, ◌≤◌, ◌<◌, T, ltb, ℤ, pos, negsuc, neg_ℤ, ◌+ℤ◌, ◌-ℤ◌, ◌≤ℤ◌, ◌<ℤ◌}
use Rattle.std.proofs.Common.{ap, inl, inr, arith, leb→le, le→leb, ltb→lt, lt→ltb, nltb→le}
use Rattle.std.proofs.Math.Dec.{nleb→lt}
use Rattle.std.proofs.Math.IntN.{suc_ℤ, pred_ℤ, sub_ℕ}
use Rattle.std.specs.Int.Signed.{le_z, lt_z, le_z_yes, lt_z_yes, lt_z_no}

abbrev pub up : ℤ → ℕ
up (pos n) = n
up (negsuc n) = zero

abbrev pub dn : ℤ → ℕ
dn (pos n) = zero
dn (negsuc n) = suc n

-- ---- the orders, and equality, as facts of ℕ and back

le_nat : (a b : ℤ) → T (le_z a b) → up a + dn b ≤ up b + dn a
le_nat (pos a) (pos b) t = omega (arith, leb→le a b t)
le_nat (pos a) (negsuc b) t = absurd t
le_nat (negsuc a) (pos b) t = omega arith
le_nat (negsuc a) (negsuc b) t = omega (arith, leb→le b a t)

nat_le : (a b : ℤ) → up a + dn b ≤ up b + dn a → T (le_z a b)
nat_le (pos a) (pos b) h = le→leb a b (omega arith)
nat_le (pos a) (negsuc b) h = omega arith
nat_le (negsuc a) (pos b) h = tt
nat_le (negsuc a) (negsuc b) h = le→leb b a (omega arith)

lt_nat : (a b : ℤ) → T (lt_z a b) → up a + dn b < up b + dn a
lt_nat (pos a) (pos b) t = omega (arith, ltb→lt a b t)
lt_nat (pos a) (negsuc b) t = absurd t
lt_nat (negsuc a) (pos b) t = omega arith
lt_nat (negsuc a) (negsuc b) t = omega (arith, ltb→lt b a t)

nat_lt : (a b : ℤ) → up a + dn b < up b + dn a → T (lt_z a b)
nat_lt (pos a) (pos b) h = lt→ltb a b (omega arith)
nat_lt (pos a) (negsuc b) h = omega arith
nat_lt (negsuc a) (pos b) h = tt
nat_lt (negsuc a) (negsuc b) h = lt→ltb b a (omega arith)

pub ≤→ℕ : {a b : ℤ} → a ≤ℤ b → up a + dn b ≤ up b + dn a
≤→ℕ {a} {b} h = le_nat a b h.le

pub ℕ→≤ : {a b : ℤ} → up a + dn b ≤ up b + dn a → a ≤ℤ b
ℕ→≤ {a} {b} h = le_z_yes (nat_le a b h)

pub <→ℕ : {a b : ℤ} → a <ℤ b → up a + dn b < up b + dn a
<→ℕ {a} {b} h = lt_nat a b h.lt

pub ℕ→< : {a b : ℤ} → up a + dn b < up b + dn a → a <ℤ b
ℕ→< {a} {b} h = lt_z_yes (nat_lt a b h)

pub ≡→ℕ : {a b : ℤ} → a ≡ b → up a + dn b ≡ up b + dn a
≡→ℕ {a} {b} e = rw e

pub ℕ→≡ : (a b : ℤ) → up a + dn b ≡ up b + dn a → a ≡ b
ℕ→≡ (pos a) (pos b) h = ap pos (omega arith)
ℕ→≡ (pos a) (negsuc b) h = let z : ⊥ = omega arith in absurd z
ℕ→≡ (negsuc a) (pos b) h = let z : ⊥ = omega arith in absurd z
ℕ→≡ (negsuc a) (negsuc b) h = ap negsuc (omega arith)

pub ruleset ints = (arith, ≤→ℕ, ℕ→≤, <→ℕ, ℕ→<, ≡→ℕ, ℕ→≡)

-- ---- what the operations are

subℕ_is : (a b : ℕ) → up (sub_ℕ a b) + b ≡ dn (sub_ℕ a b) + a
subℕ_is a b = go (ltb a b) (λ t. ltb→lt a b t) (λ t. nltb→le a b t)
  where
    go : (t : Bool) → (T t → a < b) → (T (not t) → b ≤ a) →
        up (cond t (negsuc (b - suc a)) (pos (a - b))) + b ≡ dn (cond t (negsuc (b - suc a)) (pos (a - b))) + a
    go true h k = omega (arith, h tt)
    go false h k = omega (arith, k tt)

pub add_is : (a b : ℤ) → up (a +ℤ b) + dn a + dn b ≡ dn (a +ℤ b) + up a + up b
add_is (pos a) (pos b) = omega arith
add_is (pos a) (negsuc b) = omega (arith, subℕ_is a (suc b))
add_is (negsuc a) (pos b) = omega (arith, subℕ_is b (suc a))
add_is (negsuc a) (negsuc b) = omega arith

pub neg_up : (a : ℤ) → up (neg_ℤ a) ≡ dn a
neg_up (pos zero) = refl
neg_up (pos (suc n)) = refl
neg_up (negsuc n) = refl

pub neg_dn : (a : ℤ) → dn (neg_ℤ a) ≡ up a
neg_dn (pos zero) = refl
neg_dn (pos (suc n)) = refl
neg_dn (negsuc n) = refl

pub neg_neg : (a : ℤ) → neg_ℤ (neg_ℤ a) ≡ a
neg_neg a = ℕ→≡ (neg_ℤ (neg_ℤ a)) a (omega (arith, neg_up a, neg_dn a, neg_up (neg_ℤ a), neg_dn (neg_ℤ a)))

pub sub_is : (a b : ℤ) → up (a -ℤ b) + dn a + up b ≡ dn (a -ℤ b) + up a + dn b
sub_is a b = omega (arith, add_is a (neg_ℤ b), neg_up b, neg_dn b)

pub suc_is : (a : ℤ) → up (suc_ℤ a) + dn a ≡ suc (dn (suc_ℤ a) + up a)
suc_is (pos n) = omega arith
suc_is (negsuc zero) = omega arith
suc_is (negsuc (suc n)) = omega arith

pub pred_is : (a : ℤ) → suc (up (pred_ℤ a) + dn a) ≡ dn (pred_ℤ a) + up a
pred_is (pos zero) = omega arith
pred_is (pos (suc n)) = omega arith
pred_is (negsuc n) = omega arith

-- ---- the laws

pub ≤-refl : (a : ℤ) → a ≤ℤ a
≤-refl a = omega ints

-- the tests that compute, and what each says
pub le_z_no : {a b : ℤ} → T (not (le_z a b)) → b <ℤ a
le_z_no {a = pos a} {b = pos b} t = lt_z_yes (lt→ltb b a (nleb→lt a b t))
le_z_no {a = pos a} {b = negsuc b} t = lt_z_yes tt
le_z_no {a = negsuc a} {b = pos b} t = absurd t
le_z_no {a = negsuc a} {b = negsuc b} t = lt_z_yes (lt→ltb a b (nleb→lt b a t))

pub le_or_gt : (a b : ℤ) → (a ≤ℤ b) ⊎ (b <ℤ a)
le_or_gt a b = go (le_z a b) (λ t. le_z_yes t) (λ t. le_z_no t)
  where
    go : (t : Bool) → (T t → a ≤ℤ b) → (T (not t) → b <ℤ a) → (a ≤ℤ b) ⊎ (b <ℤ a)
    go true h k = inl (h tt)
    go false h k = inr (k tt)

-- a test, as the equation or as the type that it leaves, for `omega (ints, tests)`
pub le_z_true→ℕ : (a b : ℤ) → le_z a b ≡ true → up a + dn b ≤ up b + dn a
le_z_true→ℕ a b e = ≤→ℕ {a = a} {b = b} (le_z_yes (rw e tt))

pub le_z_false→ℕ : (a b : ℤ) → le_z a b ≡ false → up b + dn a < up a + dn b
le_z_false→ℕ a b e = <→ℕ {a = b} {b = a} (le_z_no {a = a} {b = b} (rw e tt))

pub lt_z_true→ℕ : (a b : ℤ) → lt_z a b ≡ true → up a + dn b < up b + dn a
lt_z_true→ℕ a b e = <→ℕ {a = a} {b = b} (lt_z_yes (rw e tt))

pub lt_z_false→ℕ : (a b : ℤ) → lt_z a b ≡ false → up b + dn a ≤ up a + dn b
lt_z_false→ℕ a b e = ≤→ℕ {a = b} {b = a} (lt_z_no {a = a} {b = b} (rw e tt))

pub le_z_T→ℕ : (a b : ℤ) → T (le_z a b) → up a + dn b ≤ up b + dn a
le_z_T→ℕ a b t = ≤→ℕ {a = a} {b = b} (le_z_yes t)

pub lt_z_T→ℕ : (a b : ℤ) → T (lt_z a b) → up a + dn b < up b + dn a
lt_z_T→ℕ a b t = <→ℕ {a = a} {b = b} (lt_z_yes t)

pub ruleset tests = (le_z_true→ℕ, le_z_false→ℕ, lt_z_true→ℕ, lt_z_false→ℕ, le_z_T→ℕ, lt_z_T→ℕ)

-- ---- the test a ≤ b, with what it says

pub data Compared (a b : ℤ) : Bool → Type 0 where
  at_most : a ≤ℤ b → Compared a b true
  more_than : b <ℤ a → Compared a b false

pub compare_with : (a b : ℤ) → Compared a b (le_z a b)
compare_with a b = go (le_z a b) (λ t. le_z_yes t) (λ t. le_z_no t)
  where
    go : (t : Bool) → (T t → a ≤ℤ b) → (T (not t) → b <ℤ a) → Compared a b t
    go true h k = at_most (h tt)
    go false h k = more_than (k tt)
