-- The tests of `Same` say equal. Assumes nothing.
use Rattle.std.specs.Prelude.{◌≡◌, refl, Bool, true, ◌&&◌, T, eqb, ℤ, ◌≤ℤ◌}
use Rattle.std.proofs.Common.{ap, eqb→eq}
use Rattle.std.proofs.Math.Dec.{eqb_refl}
use Rattle.std.specs.Int.Signed.{le_z, le_z_yes}
use Rattle.terms.specs.declared.Operator.{Operator}
use Rattle.terms.specs.declared.Operator.TheVariants.{Within, Between, Above, Below, Anywhere}
use Rattle.terms.specs.declared.Rule.{Rule}
use Rattle.terms.specs.declared.Rule.TheVariants.{Label, Both, Link, Via}
use Rattle.terms.specs.declared.Atom.{Atom}
use Rattle.terms.specs.declared.Atom.TheVariants.{Has, Linked}
use Rattle.terms.specs.declared.Mark.{Mark}
use Rattle.terms.specs.Order.{ints, ≤-refl}
use Rattle.terms.specs.Tests.{and_both, both_and}
use Rattle.terms.specs.Same.{same_operator, same_atom, same_depth, same_mark, kind_of, first_of, second_of, third_of, same_rule}
use Rattle.terms.specs.Held.{operator_in}

pub same_operator_lem : (o p : Operator) → T (same_operator o p) → o ≡ p
same_operator_lem (Within n) (Within m) t = ap Within (eqb→eq n m t)
same_operator_lem (Within n) Between t = absurd t
same_operator_lem (Within n) Above t = absurd t
same_operator_lem (Within n) Below t = absurd t
same_operator_lem (Within n) Anywhere t = absurd t
same_operator_lem Between (Within m) t = absurd t
same_operator_lem Between Between t = refl
same_operator_lem Between Above t = absurd t
same_operator_lem Between Below t = absurd t
same_operator_lem Between Anywhere t = absurd t
same_operator_lem Above (Within m) t = absurd t
same_operator_lem Above Between t = absurd t
same_operator_lem Above Above t = refl
same_operator_lem Above Below t = absurd t
same_operator_lem Above Anywhere t = absurd t
same_operator_lem Below (Within m) t = absurd t
same_operator_lem Below Between t = absurd t
same_operator_lem Below Above t = absurd t
same_operator_lem Below Below t = refl
same_operator_lem Below Anywhere t = absurd t
same_operator_lem Anywhere (Within m) t = absurd t
same_operator_lem Anywhere Between t = absurd t
same_operator_lem Anywhere Above t = absurd t
same_operator_lem Anywhere Below t = absurd t
same_operator_lem Anywhere Anywhere t = refl

pub operator_same : (o : Operator) → T (same_operator o o)
operator_same (Within n) = eqb_refl n
operator_same Between = tt
operator_same Above = tt
operator_same Below = tt
operator_same Anywhere = tt

pub same_atom_lem : (x y : Atom) → T (same_atom x y) → x ≡ y
same_atom_lem (Has a A) (Has b B) t = let w = and_both (eqb a b) (eqb A B) t in let e = eqb→eq a b w.0 in let f = eqb→eq A B w.1 in cc
same_atom_lem (Has a A) (Linked b r c) t = absurd t
same_atom_lem (Linked a r b) (Has c A) t = absurd t
same_atom_lem (Linked a r b) (Linked c s d) t =
    let w = and_both (eqb a c) (eqb r s && eqb b d) t in
    let v = and_both (eqb r s) (eqb b d) w.1 in
    let e = eqb→eq a c w.0 in let f = eqb→eq r s v.0 in let g = eqb→eq b d v.1 in cc

pub atom_same : (x : Atom) → T (same_atom x x)
atom_same (Has a A) = both_and (eqb a a) (eqb A A) (eqb_refl a) (eqb_refl A)
atom_same (Linked a r b) = both_and (eqb a a) (eqb r r && eqb b b) (eqb_refl a) (both_and (eqb r r) (eqb b b) (eqb_refl r) (eqb_refl b))

pub same_depth_lem : (i j : ℤ) → T (same_depth i j) → i ≡ j
same_depth_lem i j t = let w = and_both (le_z i j) (le_z j i) t in let x : i ≤ℤ j = le_z_yes w.0 in let y : j ≤ℤ i = le_z_yes w.1 in omega ints

pub depth_same : (i : ℤ) → T (same_depth i i)
depth_same i = both_and (le_z i i) (le_z i i) (≤-refl i).le (≤-refl i).le

pub same_mark_lem : (m n : Mark) → T (same_mark m n) → m ≡ n
same_mark_lem m n t =
    let w = and_both (same_atom m.atom n.atom) (same_depth m.top n.top && same_depth m.bottom n.bottom) t in
    let v = and_both (same_depth m.top n.top) (same_depth m.bottom n.bottom) w.1 in
    let d = same_atom_lem m.atom n.atom w.0 in
    let e = same_depth_lem m.top n.top v.0 in
    let f = same_depth_lem m.bottom n.bottom v.1 in
    λ i. record { atom = d i; top = e i; bottom = f i }

pub mark_same : (m : Mark) → T (same_mark m m)
mark_same m =
    both_and (same_atom m.atom m.atom) (same_depth m.top m.top && same_depth m.bottom m.bottom) (atom_same m.atom)
    (both_and (same_depth m.top m.top) (same_depth m.bottom m.bottom) (depth_same m.top) (depth_same m.bottom))

-- the parts of the test of two rules
pub record SameParts (ρ σ : Rule) : Type 0 where
  pub operator : operator_in ρ ≡ operator_in σ
  pub first : first_of ρ ≡ first_of σ
  pub second : second_of ρ ≡ second_of σ
  pub third : third_of ρ ≡ third_of σ

parts : (k : Bool) (ρ σ : Rule) →
    T (k
    && (same_operator (operator_in ρ) (operator_in σ)
    && (eqb (first_of ρ) (first_of σ) && (eqb (second_of ρ) (second_of σ) && eqb (third_of ρ) (third_of σ))))) → SameParts ρ σ
parts k ρ σ t =
    let a =
    and_both k (same_operator (operator_in ρ) (operator_in σ)
    && (eqb (first_of ρ) (first_of σ) && (eqb (second_of ρ) (second_of σ) && eqb (third_of ρ) (third_of σ)))) t in
    let b =
    and_both (same_operator (operator_in ρ) (operator_in σ))
    (eqb (first_of ρ) (first_of σ) && (eqb (second_of ρ) (second_of σ) && eqb (third_of ρ) (third_of σ))) a.1 in
    let c = and_both (eqb (first_of ρ) (first_of σ)) (eqb (second_of ρ) (second_of σ) && eqb (third_of ρ) (third_of σ)) b.1 in
    let d = and_both (eqb (second_of ρ) (second_of σ)) (eqb (third_of ρ) (third_of σ)) c.1 in
    record {
      operator = same_operator_lem (operator_in ρ) (operator_in σ) b.0;
      first = eqb→eq (first_of ρ) (first_of σ) c.0;
      second = eqb→eq (second_of ρ) (second_of σ) d.0;
      third = eqb→eq (third_of ρ) (third_of σ) d.1;
    }

pub same_rule_lem : (ρ σ : Rule) → T (same_rule ρ σ) → ρ ≡ σ
same_rule_lem (Label o A B) (Label p C D) t = let w = parts true (Label o A B) (Label p C D) t in let e = w.operator in let f = w.first in let g = w.second in cc
same_rule_lem (Label o A B) (Both C D E) t = absurd t
same_rule_lem (Label o A B) (Link p r s) t = absurd t
same_rule_lem (Label o A B) (Via r C D) t = absurd t
same_rule_lem (Both A B C) (Label p D E) t = absurd t
same_rule_lem (Both A B C) (Both D E F) t = let w = parts true (Both A B C) (Both D E F) t in let e = w.first in let f = w.second in let g = w.third in cc
same_rule_lem (Both A B C) (Link p r s) t = absurd t
same_rule_lem (Both A B C) (Via r D E) t = absurd t
same_rule_lem (Link o r s) (Label p C D) t = absurd t
same_rule_lem (Link o r s) (Both C D E) t = absurd t
same_rule_lem (Link o r s) (Link p k l) t = let w = parts true (Link o r s) (Link p k l) t in let e = w.operator in let f = w.first in let g = w.second in cc
same_rule_lem (Link o r s) (Via k C D) t = absurd t
same_rule_lem (Via r A B) (Label p C D) t = absurd t
same_rule_lem (Via r A B) (Both C D E) t = absurd t
same_rule_lem (Via r A B) (Link p k l) t = absurd t
same_rule_lem (Via r A B) (Via k C D) t = let w = parts true (Via r A B) (Via k C D) t in let e = w.first in let f = w.second in let g = w.third in cc

pub rule_same : (ρ : Rule) → T (same_rule ρ ρ)
rule_same ρ =
    both_and (eqb (kind_of ρ) (kind_of ρ)) _ (eqb_refl (kind_of ρ))
    (both_and (same_operator (operator_in ρ) (operator_in ρ)) _ (operator_same (operator_in ρ))
    (both_and (eqb (first_of ρ) (first_of ρ)) _ (eqb_refl (first_of ρ))
    (both_and (eqb (second_of ρ) (second_of ρ)) (eqb (third_of ρ) (third_of ρ)) (eqb_refl (second_of ρ)) (eqb_refl (third_of ρ)))))
