-- An operator that was read is in range, one in range reads back from its code and distance, what is in range fits its
-- bytes, and a depth is told by its bits. Assumes nothing.
use Rattle.std.specs.Prelude.{◌≡◌, refl, Bool, true, false, cond, ℕ, ◌^◌, ◌<◌, T, eqb, leb, ℤ, pos, negsuc, Option, Some, None}
use Rattle.std.proofs.Common.{sym, ap, ◌∙◌, arith, leb→le, SFits, to_z, of_z}
use Rattle.std.specs.Int.Signed.{le_z}
use Rattle.std.specs.Int.{w32}
use Rattle.std.proofs.lemmas.Int.{to_z-of_z}
use Rattle.terms.specs.declared.Operator.{Operator}
use Rattle.terms.specs.declared.Operator.TheVariants.{Within, Between, Above, Below, Anywhere}
use Rattle.terms.specs.Tests.{and_both}
use Rattle.terms.specs.Limits.{WITHIN_MOST, SHALLOWEST, DEEPEST, is_depth}
use Rattle.terms.specs.Operators.{read_if, is_distance, operator_of, code_of, distance_of, is_operator}

abbrev pub ProperRead : Option Operator → Type 0
ProperRead (Some o) = T (is_operator o)
ProperRead None = Unit {0}

-- of both arms, so of either
either : {X : Type 0} (P : X → Type 0) (b : Bool) {x y : X} → P x → P y → P (cond b x y)
either P true p q = p
either P false p q = q

read_if_lem : (b : Bool) (o : Operator) → (T b → T (is_operator o)) → ProperRead (read_if b o)
read_if_lem true o h = h tt
read_if_lem false o h = tt

-- of every code and distance
pub read_proper : (c n : ℕ) → ProperRead (operator_of c n)
read_proper c n =
    either ProperRead (eqb c 1) (read_if_lem (is_distance n) (Within n) (λ t. t))
    (either ProperRead (eqb c 2) (read_if_lem (eqb n 0) Between (λ t. tt))
    (either ProperRead (eqb c 3) (read_if_lem (eqb n 0) Above (λ t. tt))
    (either ProperRead (eqb c 4) (read_if_lem (eqb n 0) Below (λ t. tt))
    (either ProperRead (eqb c 5) (read_if_lem (eqb n 0) Anywhere (λ t. tt)) tt))))

if_read : (b : Bool) (o : Operator) → T b → read_if b o ≡ Some o
if_read true o t = refl
if_read false o t = absurd t

pub operator_read : (o : Operator) → T (is_operator o) → operator_of (code_of o) (distance_of o) ≡ Some o
operator_read (Within n) t = if_read (is_distance n) (Within n) t
operator_read Between t = refl
operator_read Above t = refl
operator_read Below t = refl
operator_read Anywhere t = refl

-- a distance in range has four bytes
pub distance_fits : (o : Operator) → T (is_operator o) → distance_of o < 256 ^ 4
distance_fits (Within n) t = omega (arith, leb→le n WITHIN_MOST (and_both (leb 1 n) (leb n WITHIN_MOST) t).1)
distance_fits Between t = omega arith
distance_fits Above t = omega arith
distance_fits Below t = omega arith
distance_fits Anywhere t = omega arith

-- and so has a depth
pub depth_fits : (z : ℤ) → T (is_depth z) → SFits w32 z
depth_fits (pos n) t = record { sfits = omega (arith, leb→le n 200_000 (and_both (le_z SHALLOWEST (pos n)) (le_z (pos n) DEEPEST) t).1) }
depth_fits (negsuc n) t = record { sfits = omega (arith, leb→le n 9_999 (and_both (le_z SHALLOWEST (negsuc n)) (le_z (negsuc n) DEEPEST) t).0) }

-- depths of 32 bits with equal bits are equal
pub bits_one : {i j : ℤ} → SFits w32 i → SFits w32 j → of_z w32 i ≡ of_z w32 j → i ≡ j
bits_one {i} {j} f g e = sym (to_z-of_z w32 i f) ∙ ap (to_z w32) e ∙ to_z-of_z w32 j g
