-- The digits that are stored one before the other are `decimal`, and the lengths of the texts, whatever the numbers. Assumes nothing.
use mathlib.Core.Path.{◌≡◌, refl, sym, ◌∙◌}
use mathlib.Core.Bool.{Bool, true, false, cond}
use mathlib.Core.List.{List, [], ◌∷◌, ◌++◌, append_assoc}
use Prim.Native.Nat.{ℕ, zero, suc, ◌+◌, ◌-◌, ◌*◌, ◌/◌, ◌%◌, ◌^◌, ◌≤◌, ◌<◌}
use native.Mathlib.Nat.{pow-suc}
use native.Mathlib.Omega.{arith}
use borrow.Author.Tests.{lt-ltb, le-ltb}
use lib.Dec.{ltb}
use lib.IntN.{ℤ, pos, negsuc}
use lib.ListN.{length, take, drop, set, get_or, length-append}
use Rattle.std.proofs.lemmas.List.{drop-set}
use lib.Signed.{lt_z}
use Rattle.std.proofs.Common.{unsigned_abs}
use Rattle.std.proofs.lemmas.Int.{ints}
use Rattle.terms.specs.declared.Answer.{Answer}
use Rattle.terms.specs.declared.Answer.TheVariants.{Done, Yes, No, Contradiction, Spans, End, Refused}
use Rattle.terms.specs.Limits.{NO_TOP, NO_BOTTOM}
use Rattle.terms.specs.Tests.{true_of, false_of}
use Rattle.terms.specs.Same.{same_depth}
use Rattle.terms.proofs.SameLaws.{same_depth_lem, depth_same}
use Rattle.lines.specs.Lines.{codes, digits_up_to, decimal, signed, end_text, pair_text, pairs_text, words}

-- ---- digits

-- a number below 10 is its own last digit
one_digit : (k n : ℕ) → n < 10 → digits_up_to k n ≡ (48 + n) ∷ []
unfolding digits_up_to
one_digit zero n low = let same : n % 10 ≡ n = omega arith in rw same
one_digit (suc k) n low = rw (lt-ltb n 10 low, digits_up_to)

-- another has its last digit behind those of its tenth
more_digits : (k n : ℕ) → 10 ≤ n → digits_up_to (suc k) n ≡ digits_up_to k (n / 10) ++ ((48 + n % 10) ∷ [])
unfolding digits_up_to
more_digits k n ten = rw (le-ltb n 10 ten, digits_up_to)

-- a number with a last digit and more has a place before it, and its tenth one place fewer
pub tenth : (at rest : ℕ) → 10 ≤ rest → rest < 10 ^ (at + 1) → (0 < at) × (rest / 10 < 10 ^ (at - 1 + 1))
tenth zero rest ten few = let z : ⊥ = omega arith in absurd z
tenth (suc k) rest ten few =
    let e : suc k + 1 ≡ suc (suc k) = omega arith in
    let f : suc k - 1 + 1 ≡ suc k = omega arith in
    let less : rest < 10 ^ suc (suc k) = rw e at few in
    (omega arith, rw f (omega (arith, less, pow-suc 10 (suc k))))

-- a digit stored before those that are there
pub digit_stored :
    (digits text : List ℕ) (at rest : ℕ) → 10 ≤ rest → 0 < at → at < length digits → digits_up_to at rest ++ drop (at + 1) digits ≡ text →
    digits_up_to (at - 1) (rest / 10) ++ drop (at - 1 + 1) (set digits at (48 + rest % 10)) ≡ text
digit_stored digits text zero rest ten low inside so = let z : ⊥ = omega arith in absurd z
digit_stored digits text (suc k) rest ten low inside so =
    let e : suc k - 1 ≡ k = omega arith in
    let f : suc k - 1 + 1 ≡ suc k = omega arith in
    rw (f, e, drop-set digits (suc k) (48 + rest % 10) inside)
    (sym (append_assoc (digits_up_to k (rest / 10)) ((48 + rest % 10) ∷ []) _) ∙ rw (more_digits k rest ten) at so)

-- and the first
pub digits_stored :
    (digits text : List ℕ) (at rest : ℕ) → rest < 10 → at < length digits → digits_up_to at rest ++ drop (at + 1) digits ≡ text →
    drop at (set digits at (48 + rest)) ≡ text
digits_stored digits text at rest low inside so = rw (drop-set digits at (48 + rest) inside) (rw (one_digit at rest low) at so)

-- ---- lengths

-- a digit, or the digits before it and one more
one_more : (k n : ℕ) (t : Bool) → ltb n 10 ≡ t → length (digits_up_to k (n / 10)) ≤ suc k → length (digits_up_to (suc k) n) ≤ suc (suc k)
unfolding digits_up_to
one_more k n true e l = rw (e, digits_up_to) (omega arith)
one_more k n false e l = rw (e, digits_up_to) (omega (arith, length-append (digits_up_to k (n / 10)) ((48 + n % 10) ∷ [])))

digits_short : (k n : ℕ) → length (digits_up_to k n) ≤ suc k
unfolding digits_up_to
digits_short zero n = omega arith
digits_short (suc k) n = one_more k n (ltb n 10) refl (digits_short k (n / 10))

pub decimal_short : (n : ℕ) → length (decimal n) ≤ 20
decimal_short n = digits_short 19 n

pub signed_short : (z : ℤ) → length (signed z) ≤ 21
unfolding signed
signed_short (pos n) = omega (arith, decimal_short n)
signed_short (negsuc n) = omega (arith, decimal_short (suc n))

pub end_short : (none z : ℤ) → length (end_text none z) ≤ 21
unfolding end_text
end_short none z = go (same_depth z none)
  where
    go : (t : Bool) → length (cond t (codes "*") (signed z)) ≤ 21
    go true = omega arith
    go false = signed_short z

pub pair_short : (top bottom : ℤ) → length (pair_text top bottom) ≤ 44
unfolding pair_text
pair_short top bottom =
    let a = end_short NO_TOP top in
    let b = end_short NO_BOTTOM bottom in
    simp length-append (omega arith)

pub words_short : (a : Answer) → length (words a) ≤ 36
unfolding words
words_short Done = omega arith
words_short Yes = omega arith
words_short No = omega arith
words_short (Contradiction n) = omega (arith, decimal_short n)
words_short (Spans n) = omega (arith, decimal_short n)
words_short End = omega arith
words_short (Refused n) = omega (arith, decimal_short n)

-- ---- pairs

double : (i : ℕ) → 2 * suc i ≡ suc (suc (2 * i))
double i = omega arith

-- the first two numbers are a pair
pub pairs_first :
    (pair rest : List ℤ) → length pair ≡ 2 → pairs_text (pair ++ rest) ≡ pair_text (get_or pair 0 (pos 0)) (get_or pair 1 (pos 0)) ++ pairs_text rest
unfolding pairs_text
pairs_first [] rest l = let z : ⊥ = omega arith in absurd z
pairs_first (x ∷ []) rest l = let z : ⊥ = omega arith in absurd z
pairs_first (x ∷ (y ∷ [])) rest l = refl
pairs_first (x ∷ (y ∷ (z ∷ s))) rest l = let z : ⊥ = omega arith in absurd z

-- fewer are none
pub pairs_few : (s : List ℤ) → length s < 2 → pairs_text s ≡ []
unfolding pairs_text
pairs_few [] l = refl
pairs_few (x ∷ []) l = refl
pairs_few (x ∷ (y ∷ s)) l = let z : ⊥ = omega arith in absurd z

pub pairs_short : (i : ℕ) (s : List ℤ) → length (pairs_text (take (2 * i) s)) ≤ 44 * i
unfolding pairs_text
pairs_short zero s = omega arith
pairs_short (suc i) [] = rw (double i) (omega arith)
pairs_short (suc i) (x ∷ []) = rw (double i) (omega arith)
pairs_short (suc i) (x ∷ (y ∷ s)) =
    rw (double i) (omega (arith, length-append (pair_text x y) (pairs_text (take (2 * i) s)), pair_short x y, pairs_short i s))

-- ---- depths by their sizes

pub signed_below : (z : ℤ) → lt_z z (pos 0) ≡ true → signed z ≡ codes "-" ++ decimal (unsigned_abs z)
unfolding signed
signed_below (pos n) h = let z : ⊥ = grind (arith, ints) in absurd z
signed_below (negsuc n) h = refl

pub signed_from : (z : ℤ) → lt_z z (pos 0) ≡ false → signed z ≡ decimal (unsigned_abs z)
unfolding signed
signed_from (pos n) h = refl
signed_from (negsuc n) h = let z : ⊥ = grind (arith, ints) in absurd z

-- ---- an end, or none

pub end_none : (none z : ℤ) → z ≡ none → end_text none z ≡ codes "*"
unfolding end_text
end_none none z e = rw (e, true_of (same_depth none none) (depth_same none))

pub end_some : (none z : ℤ) → (z ≡ none → ⊥) → end_text none z ≡ signed z
unfolding end_text
end_some none z d = rw (false_of (same_depth z none) (λ t. d (same_depth_lem z none t)))
