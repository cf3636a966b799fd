-- The held link marks say which items are joined, and so does the test. Assumes nothing.
use Rattle.std.specs.Prelude.{◌≡◌, refl, ◌⊎◌, ◌↔◌, Bool, true, false, cond, ◌||◌, List, [], ◌∷◌, ◌++◌, ℕ, T, eqb, ℤ}
use Rattle.std.proofs.Common.{sym, ap, subst, ◌∙◌, inl, inr, ⊎_elim, eqb→eq}
use mathlib.Core.List.Memᴰ
use Rattle.std.proofs.Math.Dec.{eqb_refl}
use Rattle.terms.specs.declared.Rule.{Rule}
use Rattle.terms.specs.declared.Atom.{Atom}
use Rattle.terms.specs.declared.Atom.TheVariants.{Has, Linked}
use Rattle.terms.specs.declared.Mark.{Mark}
use Rattle.terms.specs.declared.Question.{Question}
use Rattle.terms.specs.Tests.{and_both, or_one, or_left, or_right, same_test, differ}
use Rattle.terms.specs.Holes.{is_inside}
use Rattle.terms.specs.Held.{◌∈◌, Held, hole_in}
use Rattle.terms.proofs.Ends.{at_top}
use Rattle.terms.proofs.Limited.{InRange, some_in, in_some}
use Rattle.logic.specs.Model.{Infers, by_label, by_both, by_link, by_via, by_mark, by_every, by_rule}
use Rattle.logic.specs.Depths.{Derived}
use Rattle.logic.specs.Joined.{Chain, itself, along, against, Linking, Joined, about, Concerns}
use Rattle.logic.specs.Classes.{joined_by, joined_b, concerns_b}
use Rattle.logic.proofs.Chains.{chain_map, chain_then, chain_back, Plus, old, new, Through, without, there, back, plus_through, through_plus}

-- a mark says a link of some kind from a to b
pub record LinkMark (ms : List Mark) (a b : ℕ) : Type 0 where
  pub mark : Mark
  pub kind : ℕ
  pub held : mark ∈ ms
  pub says : mark.atom ≡ Linked a kind b

-- ---- a pair has a derived link only where it has a held link mark

abbrev Pair : List Mark → Atom → Type 0
Pair ms (Has a A) = Unit {0}
Pair ms (Linked a r b) = LinkMark ms a b

pair_mark : (ms : List Mark) (x : Atom) (m : Mark) → m ∈ ms → m.atom ≡ x → Pair ms x
pair_mark ms (Has a A) m n e = tt
pair_mark ms (Linked a r b) m n e = record { mark = m; kind = r; held = n; says = e }

pair_rule : (ms : List Mark) {ρ : Rule} {x y z : Atom} → Infers ρ x y z → Pair ms x → Pair ms z
pair_rule ms by_label p = tt
pair_rule ms by_both p = tt
pair_rule ms by_link p = p
pair_rule ms by_via p = tt

pair : (h : Held) {x : Atom} {i : ℤ} → Derived h x i → Pair h.marks x
pair h (by_mark {x = x} (m, o)) = pair_mark h.marks x m.mark m.held m.says
pair h (by_every l e) = tt
pair h (by_rule j k m n g d e) = pair_rule h.marks n (pair h d)

pub link_marked : (h : Held) (a b : ℕ) → Linking h a b → LinkMark h.marks a b
link_marked h a b l = pair h l.link

-- a held mark is true at its top, which exists
pub marked_link : (h : Held) → InRange h → (a b : ℕ) → LinkMark h.marks a b → Linking h a b
marked_link h R a b l =
    let m = l.mark in
    let lies = and_both (is_inside (hole_in h) m.top) (is_inside (hole_in h) m.bottom) (R.inside m l.held) in
    record {
      kind = l.kind;
      depth = m.top;
      link = by_mark (record { mark = m; held = l.held; says = l.says; at = at_top m (R.marks m l.held) }, lies.0);
    }

-- joined is connected by held link marks
pub joined_by_marks : (h : Held) → InRange h → (a b : ℕ) → Joined h a b ↔ Chain (LinkMark h.marks) a b
joined_by_marks h R a b = (λ p. chain_map (link_marked h) p, λ p. chain_map (marked_link h R) p)

-- ---- the test, mark by mark

module _ (m : Mark) (ms : List Mark) where
  longer : (a b : ℕ) → LinkMark ms a b → LinkMark (m ∷ ms) a b
  longer a b l = record { mark = l.mark; kind = l.kind; held = Memᴰ.tail l.held; says = l.says }

  -- a label mark joins nothing
  not_link : (c A : ℕ) → m.atom ≡ Has c A → (a b : ℕ) → LinkMark (m ∷ ms) a b → LinkMark ms a b
  not_link c A e a b l = ⊎_elim
      (λ f. let d : Has c A ≡ Linked a l.kind b = sym e ∙ (sym (ap (λ n. n.atom) f) ∙ l.says) in differ (cc))
      (λ n. record { mark = l.mark; kind = l.kind; held = n; says = l.says })
      (Memᴰ.cases_cons l.held)

  -- a link mark is one step more
  is_plus : (c r d : ℕ) → m.atom ≡ Linked c r d → (a b : ℕ) → LinkMark (m ∷ ms) a b → Plus (LinkMark ms) c d a b
  is_plus c r d e a b l = ⊎_elim
      (λ f. let g : Linked a l.kind b ≡ Linked c r d = sym l.says ∙ (ap (λ n. n.atom) f ∙ e) in new (cc) (cc))
      (λ n. old (record { mark = l.mark; kind = l.kind; held = n; says = l.says }))
      (Memᴰ.cases_cons l.held)

  plus_is : (c r d : ℕ) → m.atom ≡ Linked c r d → (a b : ℕ) → Plus (LinkMark ms) c d a b → LinkMark (m ∷ ms) a b
  plus_is c r d e a b (old l) = longer a b l
  plus_is c r d e a b (new f g) = record { mark = m; kind = r; held = Memᴰ.head refl; says = cc }

pub joined_exact : (ms : List Mark) (a b : ℕ) → T (joined_b ms a b) ↔ Chain (LinkMark ms) a b
unfolding joined_b
joined_exact [] a b = (λ t. subst (Chain (LinkMark []) a) (eqb→eq a b t) itself, λ p. none p)
  where
    none : {c : ℕ} → Chain (LinkMark []) a c → T (eqb a c)
    none itself = eqb_refl a
    none (along p l) = absurd (Memᴰ.not-nil l.held)
    none (against p l) = absurd (Memᴰ.not-nil l.held)
joined_exact (m ∷ ms) a b = go m.atom refl (λ c d. joined_exact ms c d)
  where
    go : (x : Atom) → m.atom ≡ x → ((c d : ℕ) → T (joined_b ms c d) ↔ Chain (LinkMark ms) c d) →
        T (joined_by x (λ c d. joined_b ms c d) a b) ↔ Chain (LinkMark (m ∷ ms)) a b
    go (Has c A) e f = (λ t. chain_map (longer m ms) ((f a b).0 t), λ p. (f a b).1 (chain_map (not_link m ms c A e) p))
    go (Linked c r d) e f = (
      λ t. chain_map (plus_is m ms c r d e) (through_plus (read (s c a || s d a) (one c d a) t)),
      λ p. write (s c a || s d a) (one c d a) (two c d a) (plus_through (chain_map (is_plus m ms c r d e) p)),
    )
      where
        s : ℕ → ℕ → Bool
        s c d = joined_b ms c d

        -- joined to one of two
        one : (c d a : ℕ) → T (s c a || s d a) → Chain (LinkMark ms) c a ⊎ Chain (LinkMark ms) d a
        one c d a t = ⊎_elim (λ u. inl ((f c a).0 u)) (λ u. inr ((f d a).0 u)) (or_one (s c a) (s d a) t)

        two : (c d a : ℕ) → Chain (LinkMark ms) c a ⊎ Chain (LinkMark ms) d a → T (s c a || s d a)
        two c d a (inl p) = or_left (s c a) (s d a) ((f c a).1 p)
        two c d a (inr p) = or_right (s c a) (s d a) ((f d a).1 p)

        join : Chain (LinkMark ms) c a ⊎ Chain (LinkMark ms) d a → Chain (LinkMark ms) c b ⊎ Chain (LinkMark ms) d b → Through (LinkMark ms) c d a b
        join (inl p) (inl q) = without (chain_then (chain_back p) q)
        join (inl p) (inr q) = there (chain_back p) q
        join (inr p) (inl q) = back (chain_back p) q
        join (inr p) (inr q) = without (chain_then (chain_back p) q)

        read : (v : Bool) → (T v → Chain (LinkMark ms) c a ⊎ Chain (LinkMark ms) d a) → T (cond v (s c b || s d b) (s a b)) → Through (LinkMark ms) c d a b
        read true g t = join (g tt) (one c d b t)
        read false g t = without ((f a b).0 t)

        on : Chain (LinkMark ms) c a ⊎ Chain (LinkMark ms) d a → Through (LinkMark ms) c d a b → Chain (LinkMark ms) c b ⊎ Chain (LinkMark ms) d b
        on (inl p) (without q) = inl (chain_then p q)
        on (inr p) (without q) = inr (chain_then p q)
        on w (there p q) = inr q
        on w (back p q) = inl q

        write : (v : Bool) → (T v → Chain (LinkMark ms) c a ⊎ Chain (LinkMark ms) d a) → (Chain (LinkMark ms) c a ⊎ Chain (LinkMark ms) d a → T v) →
            Through (LinkMark ms) c d a b → T (cond v (s c b || s d b) (s a b))
        write true g k t = two c d b (on (g tt) t)
        write false g k (without p) = (f a b).1 p
        write false g k (there p q) = absurd (k (inl (chain_back p)))
        write false g k (back p q) = absurd (k (inr (chain_back p)))

-- so the test says who is joined
pub joined_test : (h : Held) → InRange h → (a b : ℕ) → T (joined_b h.marks a b) ↔ Joined h a b
joined_test h R a b = (λ t. (joined_by_marks h R a b).1 ((joined_exact h.marks a b).0 t), λ p. (joined_exact h.marks a b).1 ((joined_by_marks h R a b).0 p))

-- it depends on which marks are held alone, not on their order: so a loop may take them from the first to the last
pub joined_same : (ms ns : List Mark) → ((m : Mark) → m ∈ ms → m ∈ ns) → ((m : Mark) → m ∈ ns → m ∈ ms) → (a b : ℕ) → joined_b ms a b ≡ joined_b ns a b
joined_same ms ns f g a b = same_test (joined_b ms a b) (joined_b ns a b)
    (λ t. (joined_exact ns a b).1 (chain_map (λ c d l. over ms ns f c d l) ((joined_exact ms a b).0 t)))
    (λ t. (joined_exact ms a b).1 (chain_map (λ c d l. over ns ms g c d l) ((joined_exact ns a b).0 t)))
  where
    over : (xs ys : List Mark) → ((m : Mark) → m ∈ xs → m ∈ ys) → (c d : ℕ) → LinkMark xs c d → LinkMark ys c d
    over xs ys k c d l = record { mark = l.mark; kind = l.kind; held = k l.mark l.held; says = l.says }

pub joined_next : (ms : List Mark) (m : Mark) (a b : ℕ) → joined_b (ms ++ (m ∷ [])) a b ≡ joined_by m.atom (joined_b ms) a b
unfolding joined_b
joined_next ms m a b = joined_same (ms ++ (m ∷ [])) (m ∷ ms)
    (λ k n. ⊎_elim (λ o. Memᴰ.tail o) (λ o. Memᴰ.head (Memᴰ.eq_of_singleton o)) (Memᴰ.append_cases ms n))
    (λ k n. ⊎_elim (λ e. Memᴰ.append_right ms (Memᴰ.head e)) (λ o. Memᴰ.append_left (m ∷ []) o) (Memᴰ.cases_cons n)) a b

-- ---- of a question

pub concerns_test : (h : Held) → InRange h → (q : Question) (b : ℕ) → T (concerns_b h.marks q b) ↔ Concerns h q b
concerns_test h R q b = (
  λ t.
      let (a, m, u) = some_in (λ a. joined_b h.marks a b) (about q) t in
      record { item = a; asked = m; joined = (joined_test h R a b).0 u },
  λ c. in_some (λ a. joined_b h.marks a b) (about q) c.item c.asked ((joined_test h R c.item b).1 c.joined),
)
