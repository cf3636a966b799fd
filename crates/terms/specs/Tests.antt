-- Tests that compute, and the facts that they stand for. Assumes nothing.
use Rattle.std.specs.Prelude.{◌≡◌, refl, ◌⊎◌, Bool, true, false, ◌&&◌, ◌||◌, ℕ, T}
use Rattle.std.proofs.Common.{sym, subst, inl, inr, arith}

pub and_both : (a b : Bool) → T (a && b) → T a × T b
and_both true b t = (tt, t)
and_both false b t = absurd t

pub both_and : (a b : Bool) → T a → T b → T (a && b)
both_and true b s t = t
both_and false b s t = absurd s

pub or_one : (a b : Bool) → T (a || b) → T a ⊎ T b
or_one true b t = inl tt
or_one false b t = inr t

pub or_left : (a b : Bool) → T a → T (a || b)
or_left true b t = tt
or_left false b t = absurd t

pub or_right : (a b : Bool) → T b → T (a || b)
or_right true b t = tt
or_right false b t = t

pub true_of : (b : Bool) → T b → b ≡ true
true_of true t = refl
true_of false t = absurd t

pub of_true : {b : Bool} → b ≡ true → T b
of_true e = subst T (sym e) tt

pub false_of : (b : Bool) → (T b → ⊥) → b ≡ false
false_of true t = absurd (t tt)
false_of false t = refl

pub neither : (a b : Bool) → (a || b) ≡ false → (a ≡ false) × (b ≡ false)
neither true b e = absurd (subst T e tt)
neither false b e = (refl, e)

pub and_true : (b : Bool) → b && true ≡ b
and_true true = refl
and_true false = refl

pub and_assoc : (a b c : Bool) → a && (b && c) ≡ (a && b) && c
and_assoc true b c = refl
and_assoc false b c = refl

-- two tests that hold together are one
pub same_test : (a b : Bool) → (T a → T b) → (T b → T a) → a ≡ b
same_test true true f g = refl
same_test true false f g = absurd (f tt)
same_test false true f g = absurd (g tt)
same_test false false f g = refl

-- two constructors are not one
pub differ : {A : Type 0} → ◌≡◌ {A = ℕ} 0 1 → A
differ e = let z : ⊥ = omega arith in absurd z
