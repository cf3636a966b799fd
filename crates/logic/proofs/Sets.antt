-- 01's operator table, as sets of depths: what `Gives` says of two members is what the table's words say of the set. Assumes nothing.
use Rattle.std.specs.Prelude.{◌≡◌, ◌⊎◌, ◌↔◌, ℕ, zero, suc, ◌+◌, ◌≤◌, ℤ, pos, neg_ℤ, ◌+ℤ◌, ◌-ℤ◌, ◌≤ℤ◌, ◌<ℤ◌}
use Rattle.std.proofs.Common.{sym, subst, inl, inr, arith}
use Rattle.terms.specs.declared.Operator.{Operator}
use Rattle.terms.specs.declared.Operator.TheVariants.{Within, Between, Above, Below, Anywhere}
use Rattle.terms.specs.Order.{up, dn, ints, add_is, sub_is, neg_up, neg_dn, neg_neg, le_or_gt, ≤-refl}
use Rattle.terms.specs.declared.Counting.{Counting}
use Rattle.terms.specs.declared.Counting.TheVariants.{Old, New}
use Rattle.terms.specs.Countings.{bound}
use Rattle.logic.specs.Depths.{Near, Gives}
use Rattle.logic.proofs.Nearness.{nears}

abbrev pub Set : Type 1
Set = ℤ → Type 0

-- the operator on the set M gives i: it does from some j and k in M
pub record Given (c : Counting) (op : Operator) (M : Set) (i : ℤ) : Type 0 where
  pub j : ℤ
  pub k : ℤ
  pub j_in : M j
  pub k_in : M k
  pub gives : Gives c op j k i

-- ---- the ends of a set

pub record IsLeast (M : Set) (m : ℤ) : Type 0 where
  pub member : M m
  pub first : (j : ℤ) → M j → m ≤ℤ j

pub record IsGreatest (M : Set) (m : ℤ) : Type 0 where
  pub member : M m
  pub last : (j : ℤ) → M j → j ≤ℤ m

-- no end above: a member at or above every depth; and below
pub record NoLeast (M : Set) : Type 0 where
  pub further : (i : ℤ) → (j : ℤ) × M j × (j ≤ℤ i)

pub record NoGreatest (M : Set) : Type 0 where
  pub further : (i : ℤ) → (j : ℤ) × M j × (i ≤ℤ j)

pub data Top (M : Set) : Type 0 where
  least : (m : ℤ) → IsLeast M m → Top M
  no_least : NoLeast M → Top M

pub data Bottom (M : Set) : Type 0 where
  greatest : (m : ℤ) → IsGreatest M m → Bottom M
  no_greatest : NoGreatest M → Bottom M

-- from the least of M on; everywhere where M has none
abbrev pub FromTop : {M : Set} → Top M → ℤ → Type 0
FromTop (least m l) i = m ≤ℤ i
FromTop (no_least n) i = Unit {0}

-- up to the greatest of M; everywhere where M has none
abbrev pub ToBottom : {M : Set} → Bottom M → ℤ → Type 0
ToBottom (greatest m g) i = i ≤ℤ m
ToBottom (no_greatest n) i = Unit {0}

-- ---- the table

-- 01 and 02, Slip 4: within n is less than n by the old counting, and at most n by the new
abbrev pub IsWithin : Counting → ℤ → ℕ → Type 0
IsWithin Old d n = d <ℤ pos n
IsWithin New d n = d ≤ℤ pos n

pub record WithinWords (c : Counting) (n : ℕ) (M : Set) (i : ℤ) : Type 0 where
  pub j : ℤ
  pub k : ℤ
  pub j_in : M j
  pub k_in : M k
  pub from : j ≤ℤ i
  pub to : i ≤ℤ k
  pub distance : IsWithin c (k -ℤ j) n

-- the third column, for a set with these ends
abbrev pub Words : Counting → Operator → (M : Set) → Top M → Bottom M → ℤ → Type 0
Words c (Within n) M t b i = WithinWords c n M i
Words c Between M t b i = FromTop t i × ToBottom b i
Words c Above M t b i = ToBottom b i
Words c Below M t b i = FromTop t i
Words c Anywhere M t b i = Unit {0}

module _ {M : Set} where
  after : (t : Top M) (j i : ℤ) → M j → j ≤ℤ i → FromTop t i
  after (least m l) j i h k = let w = l.first j h in omega ints
  after (no_least n) j i h k = tt

  before : (b : Bottom M) (k i : ℤ) → M k → i ≤ℤ k → ToBottom b i
  before (greatest m g) k i h l = let w = g.last k h in omega ints
  before (no_greatest n) k i h l = tt

  from_top : (t : Top M) (i : ℤ) → FromTop t i → (j : ℤ) × M j × (j ≤ℤ i)
  from_top (least m l) i h = (m, l.member, h)
  from_top (no_least n) i h = n.further i

  to_bottom : (b : Bottom M) (i : ℤ) → ToBottom b i → (k : ℤ) × M k × (i ≤ℤ k)
  to_bottom (greatest m g) i h = (m, g.member, h)
  to_bottom (no_greatest n) i h = n.further i

  member : Top M → (j : ℤ) × M j
  member (least m l) = (m, l.member)
  member (no_least n) = let w = n.further (pos 0) in (w.0, w.1)

-- the bound of either counting says what its words say
pub near_within : (c : Counting) (j k : ℤ) (n : ℕ) → Near j k (bound c n) ↔ IsWithin c (k -ℤ j) n
near_within Old j k n = (λ h. h.near, λ d. record { near = d })
near_within New j k n = (λ h. omega (ints, h.near), λ d. record { near = omega ints })

-- 01, Operators: WITHIN n, of any set
pub within_table : (c : Counting) (n : ℕ) (M : Set) (i : ℤ) → Given c (Within n) M i ↔ WithinWords c n M i
within_table c n M i = (
  λ g. record {
    j = g.j;
    k = g.k;
    j_in = g.j_in;
    k_in = g.k_in;
    from = g.gives.0;
    to = g.gives.1;
    distance = (near_within c g.j g.k n).0 g.gives.2;
  },
  λ w. record {
    j = w.j;
    k = w.k;
    j_in = w.j_in;
    k_in = w.k_in;
    gives = (w.from, w.to, (near_within c w.j w.k n).1 w.distance);
  },
)

-- 02, Slip 4: so WITHIN n by the new counting is WITHIN n + 1 by the old
pub new_as_old : (n : ℕ) (M : Set) (i : ℤ) → Given New (Within n) M i ↔ Given Old (Within (n + 1)) M i
new_as_old n M i = (
  λ g. record { j = g.j; k = g.k; j_in = g.j_in; k_in = g.k_in; gives = g.gives },
  λ g. record { j = g.j; k = g.k; j_in = g.j_in; k_in = g.k_in; gives = g.gives },
)

module _ (c : Counting) where
  -- 01, Operators: BETWEEN, from the least of M to the greatest
  pub between_table : (M : Set) (t : Top M) (b : Bottom M) (i : ℤ) → Given c Between M i ↔ (FromTop t i × ToBottom b i)
  between_table M t b i = (
    λ g. (after t g.j i g.j_in g.gives.0, before b g.k i g.k_in g.gives.1),
    λ w. let u = from_top t i w.0 in let v = to_bottom b i w.1 in record { j = u.0; k = v.0; j_in = u.1; k_in = v.1; gives = (u.2, v.2) },
  )

  -- 01, Operators: ABOVE, all depths up to the greatest of M
  pub above_table : (M : Set) (b : Bottom M) (i : ℤ) → Given c Above M i ↔ ToBottom b i
  above_table M b i = (
    λ g. before b g.k i g.k_in g.gives,
    λ w. let v = to_bottom b i w in record { j = v.0; k = v.0; j_in = v.1; k_in = v.1; gives = v.2 },
  )

  -- 01, Operators: BELOW, all depths from the least of M on
  pub below_table : (M : Set) (t : Top M) (i : ℤ) → Given c Below M i ↔ FromTop t i
  below_table M t i = (
    λ g. after t g.j i g.j_in g.gives,
    λ w. let u = from_top t i w in record { j = u.0; k = u.0; j_in = u.1; k_in = u.1; gives = u.2 },
  )

  -- 01, Operators: ANYWHERE, all integers exactly if M is not empty
  pub anywhere_table : (M : Set) (i : ℤ) → Given c Anywhere M i ↔ (j : ℤ) × M j
  anywhere_table M i = (λ g. (g.j, g.j_in), λ m. record { j = m.0; k = m.0; j_in = m.1; k_in = m.1; gives = tt })

  -- 01, Operators: the whole table, of a set that is not empty, with or without ends
  pub operator_table : (op : Operator) (M : Set) (t : Top M) (b : Bottom M) (i : ℤ) → Given c op M i ↔ Words c op M t b i
  operator_table (Within n) M t b i = within_table c n M i
  operator_table Between M t b i = between_table M t b i
  operator_table Above M t b i = above_table M b i
  operator_table Below M t b i = below_table M t i
  operator_table Anywhere M t b i = (λ g. tt, λ w. (anywhere_table M i).1 (member t))

  -- 01, Operators: empty M gives the empty set
  pub empty_gives_none : (op : Operator) (M : Set) → ((j : ℤ) → M j → ⊥) → (i : ℤ) → Given c op M i → ⊥
  empty_gives_none op M e i g = e g.j g.j_in

-- the bound of WITHIN 1: two depths so near have none between them
one_less : (c : Counting) → bound c 1 ≤ 2
one_less Old = omega arith
one_less New = omega arith

one_more : (c : Counting) → 1 ≤ bound c 1
one_more Old = omega arith
one_more New = omega arith

-- WITHIN 1 gives M, by either counting
pub within_one : (c : Counting) (M : Set) (i : ℤ) → Given c (Within 1) M i ↔ M i
within_one c M i = (
  λ g. either g (le_or_gt i g.j),
  λ m. record { j = i; k = i; j_in = m; k_in = m; gives = (≤-refl i, ≤-refl i, omega (nears, one_more c)) },
)
  where
    either : (g : Given c (Within 1) M i) → (i ≤ℤ g.j) ⊎ (g.j <ℤ i) → M i
    either g (inl l) = let e : g.j ≡ i = omega (ints, g.gives.0) in subst M e g.j_in
    either g (inr l) = let e : g.k ≡ i = omega (nears, g.gives.1, g.gives.2, one_less c) in subst M e g.k_in

-- ---- a set without a least depth has no end above, in the words that need no choice: not all of it lies below any depth

module _ (M : Set) (none : (m : ℤ) → IsLeast M m → ⊥) (i : ℤ) (all : (j : ℤ) → M j → i <ℤ j) where
  -- nothing of it lies within d of i
  clear : (d : ℕ) (j : ℤ) → M j → (i +ℤ pos d) <ℤ j
  clear zero j h = let w = all j h in omega (ints, add_is i (pos 0))
  clear (suc d) j h = go (λ l n. clear d l n) (le_or_gt j (i +ℤ pos (suc d)))
    where
      go : ((l : ℤ) → M l → (i +ℤ pos d) <ℤ l) → (j ≤ℤ (i +ℤ pos (suc d))) ⊎ ((i +ℤ pos (suc d)) <ℤ j) → (i +ℤ pos (suc d)) <ℤ j
      go f (inl k) = absurd (none j (record { member = h; first = λ l n. let w = f l n in omega (ints, add_is i (pos d), add_is i (pos (suc d))) }))
      go f (inr k) = k

  pub without_least : (j : ℤ) → M j → ⊥
  without_least j h =
      let w = all j h in
      let c = clear (up j + dn i) j h in
      omega (ints, add_is i (pos (up j + dn i)))

-- the same below, by turning the line over
pub without_greatest : (M : Set) → ((m : ℤ) → IsGreatest M m → ⊥) → (i : ℤ) → ((j : ℤ) → M j → j <ℤ i) → (j : ℤ) → M j → ⊥
without_greatest M none i all j h =
    without_least (λ k. M (neg_ℤ k))
    (λ m l.
    none (neg_ℤ m) (record {
      member = l.member;
      last =
          λ k n. let w = l.first (neg_ℤ k) (subst M (sym (neg_neg k)) n) in omega (ints, neg_up m, neg_dn m, neg_up k, neg_dn k);
    }))
    (neg_ℤ i)
    (λ k n. let w = all (neg_ℤ k) n in omega (ints, neg_up i, neg_dn i, neg_up k, neg_dn k))
    (neg_ℤ j)
    (subst M (sym (neg_neg j)) h)

-- and a set with no end on a side has no least or greatest there
pub no_least_there : (M : Set) → NoLeast M → (m : ℤ) → IsLeast M m → ⊥
no_least_there M n m l =
    let w = n.further (m -ℤ pos 1) in
    let v = l.first w.0 w.1 in
    let u = w.2 in
    omega (ints, sub_is m (pos 1))

pub no_greatest_there : (M : Set) → NoGreatest M → (m : ℤ) → IsGreatest M m → ⊥
no_greatest_there M n m l =
    let w = n.further (m +ℤ pos 1) in
    let v = l.last w.0 w.1 in
    let u = w.2 in
    omega (ints, add_is m (pos 1))
