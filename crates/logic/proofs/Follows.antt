-- 01's words on each kind of rule, over sets of depths: an interpretation keeps the rules, and the least model is closed under them and least,
-- exactly so. Assumes nothing.
use Rattle.std.specs.Prelude.{◌≡◌, refl, ◌↔◌, true, ◌&&◌, ℕ, ◌<◌, T, ℤ}
use Rattle.std.proofs.Common.{subst, arith, ltb→lt, lt→ltb}
use Rattle.terms.specs.declared.Rule.{Rule}
use Rattle.terms.specs.declared.Rule.TheVariants.{Label, Both, Link, Via}
use Rattle.terms.specs.declared.Atom.{Atom}
use Rattle.terms.specs.declared.Atom.TheVariants.{Has, Linked}
use Rattle.terms.specs.Tests.{and_both, both_and}
use Rattle.terms.specs.Limits.{ITEMS, LABELS, EVERY, NEVER, is_item, is_kind, is_left, is_concluded, is_label}
use Rattle.terms.specs.Operators.{is_operator}
use Rattle.terms.specs.Holes.{InHole}
use Rattle.terms.specs.Held.{◌∈◌, Held, counting_in, hole_in, is_statement, is_rule}
use Rattle.terms.proofs.Names.{label_names, link_names}
use Rattle.terms.proofs.Limited.{InRange}
use Rattle.logic.specs.Model.{Infers, by_label, by_both, by_link, by_via, Places, by_mark, by_every, by_rule}
use Rattle.logic.specs.Depths.{Marked, depths, Derived}
use Rattle.logic.proofs.Sets.{Given}
use Rattle.logic.specs.Joined.{Items, Of}
use Rattle.logic.specs.Interpretations.{Interpretation, Satisfies}
use Rattle.logic.proofs.Entailed.{derived_statement}

-- a collection of statements at depths
abbrev pub Collection : Type 1
Collection = Atom → ℤ → Type 0

-- 01, Rules of derivation: the collection has the rule's conclusion where it has its premise. LABEL: where the operator on an item's label gives a depth
-- (02, Slip 5: one that exists), the item has the concluded one there; BOTH: both labels at the same item and depth; LINKRULE: as LABEL, of a link
-- from a to b; VIA: the link and, at its far end, the label at the same depth. 02, Slip 7: of these items
abbrev pub Follows : Held → Items → Collection → Rule → Type 0
Follows h J P (Label op A B) =
    (a : ℕ) (i : ℤ) → a < ITEMS → J a → InHole (hole_in h) i → Given (counting_in h) op (P (Has a A)) i → P (Has a B) i
Follows h J P (Both A B C) = (a : ℕ) (i : ℤ) → a < ITEMS → J a → P (Has a A) i → P (Has a B) i → P (Has a C) i
Follows h J P (Link op r s) =
    (a b : ℕ) (i : ℤ) → a < ITEMS → b < ITEMS → J a → J b → InHole (hole_in h) i → Given (counting_in h) op (P (Linked a r b)) i → P (Linked a s b) i
Follows h J P (Via r A B) =
    (a b : ℕ) (i : ℤ) → a < ITEMS → b < ITEMS → J a → J b → P (Linked a r b) i → P (Has b A) i → P (Has a B) i

-- the rules' clause of `Satisfies`, of any collection
abbrev pub Closed : Held → Items → Collection → Type 0
Closed h J P =
    (ρ : Rule) (x y z : Atom) (j k i : ℤ) → ρ ∈ h.rules → Infers ρ x y z → T (is_statement x) → T (is_statement y) → Of J x → Of J y →
    Places (depths h) ρ j k i → P x j → P y k → P z i

has : (a A : ℕ) → a < ITEMS → T (is_left A) → T (is_statement (Has a A))
has a A l t = both_and (is_item a) (is_label A) (lt→ltb a ITEMS l) (lt→ltb A LABELS (omega (arith, ltb→lt A NEVER t)))

linked : (a r b : ℕ) → a < ITEMS → b < ITEMS → T (is_kind r) → T (is_statement (Linked a r b))
linked a r b l m t = both_and (is_item a) (is_kind r && is_item b) (lt→ltb a ITEMS l) (both_and (is_kind r) (is_item b) t (lt→ltb b ITEMS m))

module _ (h : Held) (J : Items) (P : Collection) where
  closed_follows : Closed h J P → (ρ : Rule) → ρ ∈ h.rules → T (is_rule ρ) → Follows h J P ρ
  closed_follows C (Label op A B) m t = λ a i l u e g.
      let w = and_both (is_operator op) (is_left A && is_concluded B) t in
      let s = has a A l (and_both (is_left A) (is_concluded B) w.1).0 in
      C (Label op A B) (Has a A) (Has a A) (Has a B) g.j g.k i m by_label s s u u (g.gives, e) g.j_in g.k_in
  closed_follows C (Both A B D) m t = λ a i l u p q.
      let w = and_both (is_left A) (is_left B && is_concluded D) t in
      let s = has a B l (and_both (is_left B) (is_concluded D) w.1).0 in
      C (Both A B D) (Has a A) (Has a B) (Has a D) i i i m by_both (has a A l w.0) s u u (refl, refl) p q
  closed_follows C (Link op r s) m t = λ a b i l k u v e g.
      let w = and_both (is_operator op) (is_kind r && is_kind s) t in
      let x = linked a r b l k (and_both (is_kind r) (is_kind s) w.1).0 in
      C (Link op r s) (Linked a r b) (Linked a r b) (Linked a s b) g.j g.k i m by_link x x (u, v) (u, v) (g.gives, e) g.j_in g.k_in
  closed_follows C (Via r A B) m t = λ a b i l k u v p q.
      let w = and_both (is_kind r) (is_left A && is_concluded B) t in
      let s = has b A k (and_both (is_left A) (is_concluded B) w.1).0 in
      C (Via r A B) (Linked a r b) (Has b A) (Has a B) i i i m by_via (linked a r b l k w.0) s (u, v) v (refl, refl) p q

  follows_one :
      {ρ : Rule} {x y z : Atom} (j k i : ℤ) → Infers ρ x y z → Follows h J P ρ → T (is_statement x) → Of J x → Places (depths h) ρ j k i → P x j →
      P y k → P z i
  follows_one j k i (by_label {op = op} {A = A} {B = B} {a = a}) F s u g p q =
      F a i (label_names a A s).0 u g.1 (record { j = j; k = k; j_in = p; k_in = q; gives = g.0 })
  follows_one j k i (by_both {A = A} {B = B} {C = C} {a = a}) F s u g p q =
      F a i (label_names a A s).0 u (subst (P (Has a A)) g.0 p) (subst (P (Has a B)) g.1 q)
  follows_one j k i (by_link {op = op} {r = r} {s = t} {a = a} {b = b}) F s u g p q =
      let n = link_names a r b s in F a b i n.0 n.2 u.0 u.1 g.1 (record { j = j; k = k; j_in = p; k_in = q; gives = g.0 })
  follows_one j k i (by_via {r = r} {A = A} {B = B} {a = a} {b = b}) F s u g p q =
      let n = link_names a r b s in
      F a b i n.0 n.2 u.0 u.1 (subst (P (Linked a r b)) g.0 p) (subst (P (Has b A)) g.1 q)

  -- one says what the other says
  pub closed_exactly : InRange h → Closed h J P ↔ ((ρ : Rule) → ρ ∈ h.rules → Follows h J P ρ)
  closed_exactly R = (
    λ C ρ m. closed_follows C ρ m (R.rules ρ m),
    λ F ρ x y z j k i m n s t u v g p q. follows_one j k i n (F ρ m) s u g p q,
  )

-- ---- an interpretation keeps the rules

-- what an interpretation says yes to
abbrev pub SaidBy : Interpretation → Collection
SaidBy D x i = D x i ≡ true

-- 01, Rules of derivation: each rule's conclusion is yes where its premise is
pub keeps_rules : (h : Held) (J : Items) (D : Interpretation) → InRange h → Satisfies h J D → (ρ : Rule) → ρ ∈ h.rules → Follows h J (SaidBy D) ρ
keeps_rules h J D R S = (closed_exactly h J (SaidBy D) R).0 S.rules

-- ---- the least collection

abbrev pub all : Items
all a = Unit {0}

of_all : (x : Atom) → Of all x
of_all (Has a A) = tt
of_all (Linked a r b) = (tt, tt)

-- 01, Rules of derivation: it has each mark and EVERY on each item and depth (02, Slip 5: that exists), and is closed under the rules
pub record HasAll (h : Held) (P : Collection) : Type 0 where
  pub marks : (x : Atom) (i : ℤ) → Marked h.marks x i → InHole (hole_in h) i → P x i
  pub every : (a : ℕ) (i : ℤ) → a < ITEMS → InHole (hole_in h) i → P (Has a EVERY) i
  pub rules : (ρ : Rule) → ρ ∈ h.rules → Follows h all P ρ

module _ (h : Held) (R : InRange h) where
  -- the least model is such a collection
  pub derived_has : HasAll h (Derived h)
  derived_has = record {
    marks = λ x i m e. by_mark (m, e);
    every = λ a i l e. by_every l e;
    rules = (closed_exactly h all (Derived h) R).0 (λ ρ x y z j k i m n s t u v g p q. by_rule j k m n g p q);
  }

  -- and the least of them
  pub derived_least : (P : Collection) → HasAll h P → {x : Atom} {i : ℤ} → Derived h x i → P x i
  derived_least P H (by_mark {x = x} {i = i} m) = H.marks x i m.0 m.1
  derived_least P H (by_every {a = a} {i = i} l e) = H.every a i l e
  derived_least P H (by_rule {ρ = ρ} {x = x} {y = y} {z = z} {i = i} j k m n g d e) =
      follows_one h all P j k i n (H.rules ρ m) (derived_statement h R d) (of_all x) g (derived_least P H d) (derived_least P H e)
