-- Two have one key where they are the same. Assumes nothing.
use mathlib.Core.Path.{◌≡◌, sym, ap, ◌∙◌, subst}
use mathlib.Core.Bool.{Bool}
use Prim.Native.Nat.{ℕ, ◌+◌, ◌*◌, ◌%◌, ◌≤◌, ◌<◌}
use native.Mathlib.Nat.{add_left_cancel, eq_of_mul-eq-mul_left, mod-eq_of_lt, add-mul-mod_self_left}
use native.Mathlib.Omega.{arith}
use borrow.Author.Tests.{eq-eqb}
use lib.Dec.{T, eqb, eqb→eq, leb→le}
use lib.IntN.{ℤ, pos, negsuc}
use lib.Signed.{le_z}
use Rattle.terms.specs.declared.Operator.{Operator}
use Rattle.terms.specs.declared.Operator.TheVariants.{Within, Between, Above, Below, Anywhere}
use Rattle.terms.specs.declared.Rule.{Rule}
use Rattle.terms.specs.declared.Rule.TheVariants.{Label, Both, Link, Via}
use Rattle.terms.specs.declared.Atom.{Atom}
use Rattle.terms.specs.declared.Atom.TheVariants.{Has, Linked}
use Rattle.terms.specs.declared.Mark.{Mark}
use Rattle.terms.specs.Operators.{code_of, distance_of}
use Rattle.terms.specs.Tests.{and_both, both_and, of_true}
use Rattle.terms.specs.Limits.{SHALLOWEST, DEEPEST, is_depth}
use Rattle.terms.proofs.Readings.{bits_one}
use Rattle.terms.specs.Same.{same_rule, same_operator, same_mark, same_depth, kind_of, first_of, second_of, third_of}
use Rattle.terms.specs.Held.{operator_in, is_markable}
use Rattle.terms.proofs.Ends.{mark_markable, top_placed, bottom_placed}
use Rattle.terms.proofs.Names.{label_names, link_names, markable_statement}
use Rattle.terms.proofs.SameLaws.{same_rule_lem, same_mark_lem, mark_same, same_depth_lem, depth_same}
use Rattle.scans.specs.Keys.{packed_fields, tag_of, rule_key, depth_key, ATOM_ROOM, END_ROOM, atom_number, end_number, mark_key}
use Rattle.scans.specs.Keys.{Bytes, ByteRule, MarkFits, DepthFits}
use Rattle.terms.specs.Tests.{same_test}

equal : (a b : ℕ) → a ≡ b → T (eqb a b)
equal a b e = of_true (eq-eqb a b e)

-- a key is one thing's alone: then equal keys say what the test of two things says
told : {X : Type 0} (key : X → ℕ) (alike : X → X → Bool) → ((x y : X) → T (alike x y) → x ≡ y) → (x y : X) → (key x ≡ key y → T (alike x y)) →
    eqb (key x) (key y) ≡ alike x y
told key alike same x y back =
    same_test (eqb (key x) (key y)) (alike x y) (λ t. back (eqb→eq (key x) (key y) t)) (λ t. equal (key x) (key y) (ap key (same x y t)))

pub code_small : (o : Operator) → code_of o < 8
code_small (Within n) = omega arith
code_small Between = omega arith
code_small Above = omega arith
code_small Below = omega arith
code_small Anywhere = omega arith

kind_small : (ρ : Rule) → kind_of ρ < 8
kind_small (Label o A B) = omega arith
kind_small (Both A B C) = omega arith
kind_small (Link o r s) = omega arith
kind_small (Via r A B) = omega arith

-- the lowest digit and the rest
digit : (n a b x y : ℕ) → a < n → b < n → a + n * x ≡ b + n * y → (a ≡ b) × (x ≡ y)
digit n a b x y h k e =
    let f : a ≡ b = sym (mod-eq_of_lt h) ∙ sym (add-mul-mod_self_left a n x) ∙ ap (λ (m : ℕ). m % n) e ∙ add-mul-mod_self_left b n y ∙ mod-eq_of_lt k in
    let g : n * x ≡ n * y = add_left_cancel b (rw f at e) in
    (f, eq_of_mul-eq-mul_left n (omega arith) x y g)

-- the fields of two equal keys
record Fields (t a b c n t' a' b' c' n' : ℕ) : Type 0 where
  tag : t ≡ t'
  first : a ≡ a'
  second : b ≡ b'
  third : c ≡ c'
  number : n ≡ n'

fields : (t a b c n t' a' b' c' n' : ℕ) → t < 256 → t' < 256 → Bytes a b c → Bytes a' b' c' → packed_fields t a b c n ≡ packed_fields t' a' b' c' n' →
    Fields t a b c n t' a' b' c' n'
unfolding packed_fields
fields t a b c n t' a' b' c' n' h h' w w' e =
    let d = digit 256 t t' (a + 256 * (b + 256 * (c + 256 * n))) (a' + 256 * (b' + 256 * (c' + 256 * n'))) h h' e in
    let f = digit 256 a a' (b + 256 * (c + 256 * n)) (b' + 256 * (c' + 256 * n')) w.first w'.first d.1 in
    let g = digit 256 b b' (c + 256 * n) (c' + 256 * n') w.second w'.second f.1 in
    let k = digit 256 c c' n n' w.third w'.third g.1 in
    record { tag = d.0; first = f.0; second = g.0; third = k.0; number = k.1 }

rule_back : (ρ σ : Rule) → ByteRule ρ → ByteRule σ → rule_key ρ ≡ rule_key σ → T (same_rule ρ σ)
rule_back ρ σ p q e =
    let k = kind_small ρ in
    let l = kind_small σ in
    let u = code_small (operator_in ρ) in
    let v = code_small (operator_in σ) in
    let w =
    fields (tag_of ρ) (first_of ρ) (second_of ρ) (third_of ρ) (distance_of (operator_in ρ))
    (tag_of σ) (first_of σ) (second_of σ) (third_of σ) (distance_of (operator_in σ)) (omega arith) (omega arith) p q e in
    let t = w.tag in
    both_and (eqb (kind_of ρ) (kind_of σ)) _ (equal (kind_of ρ) (kind_of σ) (omega arith))
    (both_and (same_operator (operator_in ρ) (operator_in σ)) _
    (both_and (eqb (code_of (operator_in ρ)) (code_of (operator_in σ))) _ (equal (code_of (operator_in ρ)) (code_of (operator_in σ)) (omega arith))
    (equal (distance_of (operator_in ρ)) (distance_of (operator_in σ)) w.number))
    (both_and (eqb (first_of ρ) (first_of σ)) _ (equal (first_of ρ) (first_of σ) w.first)
    (both_and (eqb (second_of ρ) (second_of σ)) _ (equal (second_of ρ) (second_of σ) w.second)
    (equal (third_of ρ) (third_of σ) w.third))))

pub rule_exact : (ρ σ : Rule) → ByteRule ρ → ByteRule σ → eqb (rule_key ρ) (rule_key σ) ≡ same_rule ρ σ
rule_exact ρ σ p q = told rule_key same_rule same_rule_lem ρ σ (rule_back ρ σ p q)

pub depth_exact : (i j : ℤ) → DepthFits i → DepthFits j → eqb (depth_key i) (depth_key j) ≡ same_depth i j
depth_exact i j p q =
    told depth_key same_depth same_depth_lem i j (λ e. subst (λ (k : ℤ). T (same_depth i k)) (bits_one p q e) (depth_same i))

-- a depth where marks lie is told by its lowest bits
pos_most : (n : ℕ) → T (is_depth (pos n)) → n ≤ 200_000
pos_most n t = leb→le n 200_000 (and_both (le_z SHALLOWEST (pos n)) (le_z (pos n) DEEPEST) t).1

neg_most : (n : ℕ) → T (is_depth (negsuc n)) → n ≤ 9_999
neg_most n t = leb→le n 9_999 (and_both (le_z SHALLOWEST (negsuc n)) (le_z (negsuc n) DEEPEST) t).0

end_back : (i j : ℤ) → T (is_depth i) → T (is_depth j) → end_number i ≡ end_number j → i ≡ j
unfolding end_number
end_back (pos m) (pos n) p q e = ap pos (omega (arith, pos_most m p, pos_most n q))
end_back (pos m) (negsuc n) p q e = let z : ⊥ = omega (arith, pos_most m p, neg_most n q) in absurd z
end_back (negsuc m) (pos n) p q e = let z : ⊥ = omega (arith, neg_most m p, pos_most n q) in absurd z
end_back (negsuc m) (negsuc n) p q e = ap negsuc (omega (arith, neg_most m p, neg_most n q))

-- an atom in range has one of the numbers that there is room for, and is told by it
atom_small : (x : Atom) → T (is_markable x) → atom_number x < ATOM_ROOM
atom_small (Has a A) t = omega (arith, label_names a A (markable_statement (Has a A) t))
atom_small (Linked a r b) t = omega (arith, link_names a r b t)

atom_back : (x y : Atom) → T (is_markable x) → T (is_markable y) → atom_number x ≡ atom_number y → x ≡ y
atom_back (Has a A) (Has b B) p q e =
    let v = label_names a A (markable_statement (Has a A) p) in
    let w = label_names b B (markable_statement (Has b B) q) in
    let d = digit 16 a b A B v.0 w.0 e in
    let f = d.0 in let g = d.1 in cc
atom_back (Has a A) (Linked b r c) p q e =
    let v = label_names a A (markable_statement (Has a A) p) in let z : ⊥ = omega arith in absurd z
atom_back (Linked a r b) (Has c A) p q e =
    let w = label_names c A (markable_statement (Has c A) q) in let z : ⊥ = omega arith in absurd z
atom_back (Linked a r b) (Linked c s d) p q e =
    let v = link_names a r b p in
    let w = link_names c s d q in
    let k = digit 16 a c (r + 8 * b) (s + 8 * d) v.0 w.0 (add_left_cancel 1_024 e) in
    let l = digit 8 r s b d v.1 w.1 k.1 in
    let f = k.0 in let g = l.0 in let h = l.1 in cc

pub end_small : (i : ℤ) → end_number i < END_ROOM
unfolding end_number
end_small i = omega arith

mark_back : (m n : Mark) → MarkFits m → MarkFits n → mark_key m ≡ mark_key n → m ≡ n
unfolding mark_key
mark_back m n p q e =
    let u = mark_markable m p in
    let v = mark_markable n q in
    let k =
    digit ATOM_ROOM (atom_number m.atom) (atom_number n.atom)
    (end_number m.top + END_ROOM * end_number m.bottom) (end_number n.top + END_ROOM * end_number n.bottom)
    (atom_small m.atom u) (atom_small n.atom v) e in
    let l =
    digit END_ROOM (end_number m.top) (end_number n.top) (end_number m.bottom) (end_number n.bottom) (end_small m.top) (end_small n.top) k.1 in
    let d = atom_back m.atom n.atom u v k.0 in
    let f = end_back m.top n.top (top_placed m p) (top_placed n q) l.0 in
    let g = end_back m.bottom n.bottom (bottom_placed m p) (bottom_placed n q) l.1 in
    λ i. record { atom = d i; top = f i; bottom = g i }

pub mark_exact : (m n : Mark) → MarkFits m → MarkFits n → eqb (mark_key m) (mark_key n) ≡ same_mark m n
mark_exact m n p q = told mark_key same_mark same_mark_lem m n (λ e. subst (λ (k : Mark). T (same_mark m k)) (mark_back m n p q e) (mark_same m))
