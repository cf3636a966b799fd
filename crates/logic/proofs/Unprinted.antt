-- 02, Slip 10: each rule in range outside the print profile, held alone with some marks and nothing set, derives another statement than EVERY's above or
-- below all marked depths; so the profile leaves out none but such rules. Assumes nothing.
use Rattle.std.specs.Prelude.{◌≡◌, refl, Bool, true, false, not, ◌&&◌, List, [], ◌∷◌, ℕ, zero, suc, ◌<◌, T, leb, ltb, ℤ, pos, negsuc}
use Rattle.std.proofs.Common.{sym, subst, ⊎_elim, arith, leb→le, ltb→lt, lt→ltb, eqb→eq}
use mathlib.Core.List.Memᴰ
use Rattle.terms.specs.declared.Operator.{Operator}
use Rattle.terms.specs.declared.Operator.TheVariants.{Within, Between, Above, Below, Anywhere}
use Rattle.terms.specs.declared.Counting.TheVariants.{Old}
use Rattle.terms.specs.declared.Rule.{Rule}
use Rattle.terms.specs.declared.Rule.TheVariants.{Label, Both, Link, Via}
use Rattle.terms.specs.declared.Atom.{Atom}
use Rattle.terms.specs.declared.Atom.TheVariants.{Has, Linked}
use Rattle.terms.specs.declared.Mark.{Mark}
use Rattle.terms.specs.Order.{ints, ≤-refl}
use Rattle.terms.specs.Tests.{and_both, both_and, of_true}
use Rattle.terms.specs.Limits.{EVERY, NEVER, LABELS, WITHIN_MOST, is_kind, is_left, is_concluded, is_marked}
use Rattle.terms.specs.Operators.{is_operator}
use Rattle.terms.specs.Profiles.{is_printed, is_every, in_profile}
use Rattle.terms.specs.Held.{◌∈◌, Held, fresh_settings, ends_of, is_rule, is_markable, is_mark}
use Rattle.terms.proofs.Limited.{InRange, T_not}
use Rattle.logic.specs.Model.{by_label, by_both, by_link, by_mark, by_every, by_rule}
use Rattle.logic.specs.Depths.{Gives, Derived}
use Rattle.logic.proofs.Nearness.{nears}
use Rattle.logic.specs.Printed.{says_every, WithinMarks}
use Rattle.logic.proofs.PrintedLaws.{no_mark_within}

-- one rule and these marks, with nothing set
abbrev pub alone : Rule → List Mark → Held
alone ρ ms = record { rules = ρ ∷ []; marks = ms; settings = fresh_settings }

-- another statement than EVERY's that the rule, held alone with some marks in range, derives beyond them
pub record Beyond (ρ : Rule) : Type 0 where
  pub marks : List Mark
  pub statement : Atom
  pub depth : ℤ
  pub held : InRange (alone ρ marks)
  pub derived : Derived (alone ρ marks) statement depth
  pub other : T (not (says_every statement))
  pub beyond : WithinMarks marks depth → ⊥

-- the mark of a statement at 0, and what lies within it alone
abbrev at_zero : Atom → Mark
at_zero x = record { atom = x; top = pos 0; bottom = pos 0 }

zero_within : (x : Atom) (i : ℤ) → WithinMarks (at_zero x ∷ []) i → i ≡ pos 0
zero_within x i w =
    let t = zero_only w.top w.top_marked in
    let b = zero_only w.bottom w.bottom_marked in
    omega (ints, w.above, w.below)
  where
    zero_only : (d : ℤ) → d ∈ ends_of (at_zero x ∷ []) → d ≡ pos 0
    zero_only d m = ⊎_elim (λ e. e) (λ n. Memᴰ.eq_of_singleton n) (Memᴰ.cases_cons m)

module _ (ρ : Rule) (t : T (is_rule ρ)) where
  one_rule : (τ : Rule) → τ ∈ (ρ ∷ []) → T (is_rule τ)
  one_rule τ m = subst (λ v. T (is_rule v)) (sym (Memᴰ.eq_of_singleton m)) t

  without_marks : InRange (alone ρ [])
  without_marks = record { rules = one_rule; marks = λ k m. absurd (Memᴰ.not-nil m); hole = tt; inside = λ k m. absurd (Memᴰ.not-nil m) }

  with_mark : (x : Atom) → T (is_markable x) → InRange (alone ρ (at_zero x ∷ []))
  with_mark x u = record {
    rules = one_rule;
    marks = λ k m. subst (λ (v : Mark). T (is_mark v)) (sym (Memᴰ.eq_of_singleton m)) (both_and (is_markable x) _ u tt);
    hole = tt;
    inside = λ k m. tt;
  }

-- each operator gives a depth from itself
gives_same : (o : Operator) → T (is_operator o) → (i : ℤ) → Gives Old o i i i
gives_same (Within n) t i = let n-more = leb→le 1 n (and_both (leb 1 n) (leb n WITHIN_MOST) t).0 in (≤-refl i, ≤-refl i, omega nears)
gives_same Between t i = (≤-refl i, ≤-refl i)
gives_same Above t i = ≤-refl i
gives_same Below t i = ≤-refl i
gives_same Anywhere t i = tt

-- and those that the profile has not give one other than 0 from 0
record GivenBeyond (o : Operator) : Type 0 where
  at : ℤ
  gives : Gives Old o (pos 0) (pos 0) at
  other : at ≡ pos 0 → ⊥

given_beyond : (o : Operator) → T (not (is_printed o)) → GivenBeyond o
given_beyond (Within n) t = absurd t
given_beyond Between t = absurd t
given_beyond Above t = record { at = negsuc 0; gives = omega ints; other = λ e. omega ints }
given_beyond Below t = record { at = pos 1; gives = omega ints; other = λ e. omega ints }
given_beyond Anywhere t = record { at = pos 1; gives = tt; other = λ e. omega ints }

-- a concluded label is not EVERY, and one on the left that is not EVERY may be marked
concluded_other : (B : ℕ) → T (is_concluded B) → T (not (is_every B))
concluded_other B t =
    let p = ltb→lt EVERY B (and_both (ltb EVERY B) (ltb B LABELS) t).0 in
    T_not (is_every B) (λ e. let z = eqb→eq B EVERY e in omega arith)

other_marked : (A : ℕ) → T (not (is_every A)) → T (is_left A) → T (is_marked A)
other_marked A t l = both_and (ltb EVERY A) (ltb A NEVER) (lt→ltb EVERY A (positive A t)) l
  where
    positive : (n : ℕ) → T (not (is_every n)) → EVERY < n
    positive zero t = absurd t
    positive (suc n) t = omega arith

-- what is held alone stands first
first : {X : Type 0} {x : X} → x ∈ (x ∷ [])
first = Memᴰ.head refl

-- at 0 EVERY is derived without marks, and a statement that is marked there
every_derived : (ρ : Rule) (A : ℕ) → T (is_every A) → Derived (alone ρ []) (Has 0 A) (pos 0)
every_derived ρ A e = subst (λ v. Derived (alone ρ []) (Has 0 v) (pos 0)) (sym (eqb→eq A EVERY e)) (by_every (omega arith) tt)

mark_derived : (ρ : Rule) (x : Atom) → Derived (alone ρ (at_zero x ∷ [])) x (pos 0)
mark_derived ρ x = by_mark (record { mark = at_zero x; held = first; says = refl; at = (≤-refl (pos 0), ≤-refl (pos 0)) }, tt)

label_beyond : (o : Operator) (A B : ℕ) → T (is_rule (Label o A B)) → T (not (in_profile (Label o A B))) → Beyond (Label o A B)
label_beyond o A B t u = go (is_printed o) (is_every A) refl refl u
  where
    ρ : Rule
    ρ = Label o A B

    w : T (is_operator o) × T (is_left A && is_concluded B)
    w = and_both (is_operator o) (is_left A && is_concluded B) t

    v : T (is_left A) × T (is_concluded B)
    v = and_both (is_left A) (is_concluded B) w.1

    of_every : T (is_every A) → Beyond ρ
    of_every e =
        let d = every_derived ρ A e in
        record {
          marks = [];
          statement = Has 0 B;
          depth = pos 0;
          held = without_marks ρ t;
          derived = by_rule (pos 0) (pos 0) first by_label (gives_same o w.0 (pos 0), tt) d d;
          other = concluded_other B v.1;
          beyond = no_mark_within (pos 0);
        }

    of_other : T (not (is_printed o)) → T (not (is_every A)) → Beyond ρ
    of_other p e =
        let g = given_beyond o p in
        let x = Has 0 A in
        let d = mark_derived ρ x in
        record {
          marks = at_zero x ∷ [];
          statement = Has 0 B;
          depth = g.at;
          held = with_mark ρ t x (other_marked A e v.0);
          derived = by_rule (pos 0) (pos 0) first by_label (g.gives, tt) d d;
          other = concluded_other B v.1;
          beyond = λ b. g.other (zero_within x g.at b);
        }

    go : (p e : Bool) → is_printed o ≡ p → is_every A ≡ e → T (not (p && not e)) → Beyond ρ
    go p true f d k = of_every (of_true d)
    go true false f d k = absurd k
    go false false f d k = of_other (subst (λ b. T (not b)) (sym f) tt) (subst (λ b. T (not b)) (sym d) tt)

both_beyond : (A B C : ℕ) → T (is_rule (Both A B C)) → T (not (in_profile (Both A B C))) → Beyond (Both A B C)
both_beyond A B C t u =
    let w = and_both (is_left A) (is_left B && is_concluded C) t in
    let v = and_both (is_left B) (is_concluded C) w.1 in
    let e = and_both (is_every A) (is_every B) (twice (is_every A && is_every B) u) in
    let ρ = Both A B C in
    record {
      marks = [];
      statement = Has 0 C;
      depth = pos 0;
      held = without_marks ρ t;
      derived = by_rule (pos 0) (pos 0) first by_both (refl, refl) (every_derived ρ A e.0) (every_derived ρ B e.1);
      other = concluded_other C v.1;
      beyond = no_mark_within (pos 0);
    }
  where
    twice : (b : Bool) → T (not (not b)) → T b
    twice true t = tt
    twice false t = t

link_beyond : (o : Operator) (r s : ℕ) → T (is_rule (Link o r s)) → T (not (in_profile (Link o r s))) → Beyond (Link o r s)
link_beyond o r s t u =
    let w = and_both (is_operator o) (is_kind r && is_kind s) t in
    let v = and_both (is_kind r) (is_kind s) w.1 in
    let g = given_beyond o u in
    let x = Linked 0 r 0 in
    let d = mark_derived (Link o r s) x in
    record {
      marks = at_zero x ∷ [];
      statement = Linked 0 s 0;
      depth = g.at;
      held = with_mark (Link o r s) t x (both_and (is_kind r) true v.0 tt);
      derived = by_rule (pos 0) (pos 0) first by_link (g.gives, tt) d d;
      other = tt;
      beyond = λ b. g.other (zero_within x g.at b);
    }

-- 02, Slip 10: so no rule outside the profile could be let in
pub outside_beyond : (ρ : Rule) → T (is_rule ρ) → T (not (in_profile ρ)) → Beyond ρ
outside_beyond (Label o A B) t u = label_beyond o A B t u
outside_beyond (Both A B C) t u = both_beyond A B C t u
outside_beyond (Link o r s) t u = link_beyond o r s t u
outside_beyond (Via r A B) t u = absurd u
