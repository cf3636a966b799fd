-- Tests as the code joins them, and as the table has them. Assumes nothing.
use Rattle.std.specs.Prelude.{◌≡◌, refl, Bool, true, false, not, cond, List, [], ◌∷◌, ◌++◌, ℕ, Result, Ok, Err}
use Rattle.terms.specs.Tests.{differ}
use Rattle.terms.specs.declared.Refusal.{Refusal}
use Rattle.terms.specs.Refusals.{number_of_refusal}
use Rattle.terms.specs.Otherwise.{or_else, by_number}
use Rattle.refusals.specs.Refusals.{Test, Tested, test, tested}

-- what passes is not refused
pub clash : {A : Type 0} {n : ℕ} → ◌≡◌ {A = Tested} (Ok tt) (Err n) → A
clash e = differ (cc)

-- one test
pub one_test : (p : Bool) (n : ℕ) → cond p (Ok tt) (Err n) ≡ tested (test (not p) n ∷ [])
one_test true n = refl
one_test false n = refl

-- one test, then another
pub two_tests :
    (p q : Bool) (m n : ℕ) → or_else (cond p (Ok tt) (Err m)) (cond q (Ok tt) (Err n)) ≡ tested (test (not p) m ∷ test (not q) n ∷ [])
two_tests true true m n = refl
two_tests true false m n = refl
two_tests false q m n = refl

-- one test, then another, then a third
pub three_tests :
    (p q r : Bool) (l m n : ℕ) → or_else (cond p (Ok tt) (Err l)) (or_else (cond q (Ok tt) (Err m)) (cond r (Ok tt) (Err n)))
    ≡ tested (test (not p) l ∷ test (not q) m ∷ test (not r) n ∷ [])
three_tests true true true l m n = refl
three_tests true true false l m n = refl
three_tests true false r l m n = refl
three_tests false q r l m n = refl

-- one test that passed, then another
pub second_test :
    (p q : Bool) (m n : Refusal) {u : Unit {0}} → ◌≡◌ {A = Result (Unit {0}) Refusal} (cond p (Ok tt) (Err m)) (Ok u) →
    by_number (cond q (Ok tt) (Err n)) ≡ tested (test (not p) (number_of_refusal m) ∷ test (not q) (number_of_refusal n) ∷ [])
second_test true true m n e = refl
second_test true false m n e = refl
second_test false q m n e = differ (cc)

-- of two lists in a row the first decides where one of its tests applies
pub tested_append : (xs ys : List Test) → tested (xs ++ ys) ≡ or_else (tested xs) (tested ys)
tested_append [] ys = refl
tested_append (t ∷ xs) ys = go t.applies (tested_append xs ys)
  where
    go :
        (b : Bool) → tested (xs ++ ys) ≡ or_else (tested xs) (tested ys) →
        cond b (Err t.number) (tested (xs ++ ys)) ≡ or_else (cond b (Err t.number) (tested xs)) (tested ys)
    go true e = refl
    go false e = e
