-- When two rules or two marks are the same, as a test.
use Rattle.std.specs.Prelude.{Bool, false, ◌&&◌, ℕ, eqb, ℤ}
use Rattle.std.specs.Int.Signed.{le_z}
use Rattle.terms.specs.declared.Operator.{Operator}
use Rattle.terms.specs.declared.Rule.{Rule}
use Rattle.terms.specs.declared.Rule.TheVariants.{Label, Both, Link, Via}
use Rattle.terms.specs.declared.Atom.{Atom}
use Rattle.terms.specs.declared.Atom.TheVariants.{Has, Linked}
use Rattle.terms.specs.declared.Mark.{Mark}
use Rattle.terms.specs.Operators.{code_of, distance_of}
use Rattle.terms.specs.Held.{operator_in}

-- 01, Records: the same kind and all fields equal
abbrev pub same_operator : Operator → Operator → Bool
same_operator o p = eqb (code_of o) (code_of p) && eqb (distance_of o) (distance_of p)

abbrev pub same_atom : Atom → Atom → Bool
same_atom (Has a A) (Has b B) = eqb a b && eqb A B
same_atom (Has a A) (Linked b r c) = false
same_atom (Linked a r b) (Has c A) = false
same_atom (Linked a r b) (Linked c s d) = eqb a c && (eqb r s && eqb b d)

abbrev pub same_depth : ℤ → ℤ → Bool
same_depth i j = le_z i j && le_z j i

abbrev pub same_mark : Mark → Mark → Bool
same_mark m n = same_atom m.atom n.atom && (same_depth m.top n.top && same_depth m.bottom n.bottom)

-- a rule's kind, operator and fields
abbrev pub kind_of : Rule → ℕ
kind_of (Label o A B) = 2
kind_of (Both A B C) = 3
kind_of (Link o r s) = 4
kind_of (Via r A B) = 5

abbrev pub first_of : Rule → ℕ
first_of (Label o A B) = A
first_of (Both A B C) = A
first_of (Link o r s) = r
first_of (Via r A B) = r

abbrev pub second_of : Rule → ℕ
second_of (Label o A B) = B
second_of (Both A B C) = B
second_of (Link o r s) = s
second_of (Via r A B) = A

abbrev pub third_of : Rule → ℕ
third_of (Label o A B) = 0
third_of (Both A B C) = C
third_of (Link o r s) = 0
third_of (Via r A B) = B

abbrev pub same_rule : Rule → Rule → Bool
same_rule ρ σ =
    eqb (kind_of ρ) (kind_of σ)
    && (same_operator (operator_in ρ) (operator_in σ)
    && (eqb (first_of ρ) (first_of σ) && (eqb (second_of ρ) (second_of σ) && eqb (third_of ρ) (third_of σ))))
