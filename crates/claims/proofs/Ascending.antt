-- Lists of tests whose numbers ascend by rank: the number given is the lowest that applies. Assumes nothing.
use Rattle.std.specs.Prelude.{◌≡◌, refl, ◌⊎◌, Bool, true, false, cond, ◌&&◌, List, [], ◌∷◌, ℕ, ◌≤◌, T, leb, Err}
use Rattle.std.proofs.Common.{sym, ap, ◌∙◌, subst, inl, inr, arith, leb→le}
use mathlib.Core.List.Memᴰ
use Rattle.refusals.specs.Refusals.{rank, Test, Tested, tested}
use Rattle.refusals.proofs.Joining.{clash}
use Rattle.terms.specs.Tests.{and_both}
use Rattle.terms.specs.Held.{◌∈◌}
use Rattle.claims.specs.Table.{Ascends}

-- ---- what tests come to

pub same_number : {n k : ℕ} → ◌≡◌ {A = Tested} (Err n) (Err k) → n ≡ k
same_number e = cc

-- a number that is given is that of a test that applies
pub tested_applies : (ts : List Test) (n : ℕ) → tested ts ≡ Err n → (t : Test) × (t ∈ ts) × T t.applies × (t.number ≡ n)
tested_applies [] n e = clash e
tested_applies (u ∷ ts) n e = go u.applies refl e (λ d. tested_applies ts n d)
  where
    go :
        (b : Bool) → u.applies ≡ b → cond b (Err u.number) (tested ts) ≡ Err n →
        (tested ts ≡ Err n → (t : Test) × (t ∈ ts) × T t.applies × (t.number ≡ n)) →
        (t : Test) × (t ∈ (u ∷ ts)) × T t.applies × (t.number ≡ n)
    go true f d k = (u, Memᴰ.head refl, subst T (sym f) tt, same_number d)
    go false f d k = let w = k d in (w.0, Memᴰ.tail w.1, w.2, w.3)

-- where a test applies, a number is given
pub tested_some : (ts : List Test) (t : Test) → t ∈ ts → T t.applies → (n : ℕ) × (tested ts ≡ Err n)
tested_some [] t m p = absurd (Memᴰ.not-nil m)
tested_some (u ∷ ts) t m p = go u.applies refl (λ n. tested_some ts t n p) (Memᴰ.cases_cons m)
  where
    go :
        (b : Bool) → u.applies ≡ b → (t ∈ ts → (n : ℕ) × (tested ts ≡ Err n)) → (t ≡ u) ⊎ (t ∈ ts) →
        (n : ℕ) × (cond b (Err u.number) (tested ts) ≡ Err n)
    go true e f c = (u.number, refl)
    go false e f (inl d) = absurd (subst T (ap (λ (v : Test). v.applies) d ∙ e) p)
    go false e f (inr n) = f n

-- ---- ranks that ascend

-- rows ascend by a test of their numbers, whatever applies
abbrev pub ascending : ℕ → ℕ → List Test → Bool
ascending low high [] = true
ascending low high (t ∷ ts) = leb low (rank t.number) && (leb (rank t.number) high && ascending (rank t.number) high ts)

pub ascends : (low high : ℕ) (ts : List Test) → T (ascending low high ts) → Ascends low high ts
ascends low high [] u = tt
ascends low high (t ∷ ts) u =
    let v = and_both (leb low (rank t.number)) (leb (rank t.number) high && ascending (rank t.number) high ts) u in
    let w = and_both (leb (rank t.number) high) (ascending (rank t.number) high ts) v.1 in
    (leb→le low (rank t.number) v.0, leb→le (rank t.number) high w.0, ascends (rank t.number) high ts w.1)

pub wider : (low high low' high' : ℕ) (ts : List Test) → low' ≤ low → high ≤ high' → Ascends low high ts → Ascends low' high' ts
wider low high low' high' [] l h a = tt
wider low high low' high' (t ∷ ts) l h a =
    (omega (arith, a.0), omega (arith, a.1), wider (rank t.number) high (rank t.number) high' ts (omega arith) h a.2)

-- each rank is in range
pub in_range : (low high : ℕ) (ts : List Test) → Ascends low high ts → (t : Test) → t ∈ ts → (low ≤ rank t.number) × (rank t.number ≤ high)
in_range low high [] a t m = absurd (Memᴰ.not-nil m)
in_range low high (u ∷ ts) a t m = go (λ n. in_range (rank u.number) high ts a.2 t n) (Memᴰ.cases_cons m)
  where
    go :
        (t ∈ ts → (rank u.number ≤ rank t.number) × (rank t.number ≤ high)) → (t ≡ u) ⊎ (t ∈ ts) →
        (low ≤ rank t.number) × (rank t.number ≤ high)
    go f (inl e) = subst (λ (v : Test). (low ≤ rank v.number) × (rank v.number ≤ high)) (sym e) (a.0, a.1)
    go f (inr n) = let w = f n in (omega (arith, w.0, a.0), w.1)

-- and so is that of the number given
pub tested_in : (low high : ℕ) (ts : List Test) → Ascends low high ts → (n : ℕ) → tested ts ≡ Err n → (low ≤ rank n) × (rank n ≤ high)
tested_in low high ts a n e =
    let (t, m, p, f) = tested_applies ts n e in
    subst (λ v. (low ≤ rank v) × (rank v ≤ high)) f (in_range low high ts a t m)

-- where a test applies, the number given ranks no later than its own
pub tested_lowest :
    (low high : ℕ) (ts : List Test) → Ascends low high ts → (n : ℕ) → tested ts ≡ Err n →
    (t : Test) → t ∈ ts → T t.applies → rank n ≤ rank t.number
tested_lowest low high [] a n e t m p = absurd (Memᴰ.not-nil m)
tested_lowest low high (u ∷ ts) a n e t m p =
    go u.applies refl e (λ d k. tested_lowest (rank u.number) high ts a.2 n d t k p) (Memᴰ.cases_cons m)
  where
    go :
        (b : Bool) → u.applies ≡ b → cond b (Err u.number) (tested ts) ≡ Err n →
        (tested ts ≡ Err n → t ∈ ts → rank n ≤ rank t.number) → (t ≡ u) ⊎ (t ∈ ts) → rank n ≤ rank t.number
    go true f d k (inl s) =
        subst (λ v. rank v ≤ rank t.number) (same_number d) (subst (λ (v : Test). rank u.number ≤ rank v.number) (sym s) (omega arith))
    go true f d k (inr q) = subst (λ v. rank v ≤ rank t.number) (same_number d) (in_range (rank u.number) high ts a.2 t q).0
    go false f d k (inl s) = absurd (subst T (ap (λ (v : Test). v.applies) s ∙ f) p)
    go false f d k (inr q) = k d q
