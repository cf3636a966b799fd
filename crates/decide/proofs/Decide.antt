-- The computed reply is the one that is decided, and the one by the least model. Assumes nothing.
use Rattle.std.specs.Prelude.{◌≡◌, refl, ◌⊎◌, ◌↔◌, Bool, true, false, cond, ◌&&◌, List, ℕ, zero, suc, ◌≤◌, ◌<◌, ◌+◌, T, ℤ}
use Rattle.std.proofs.Common.{subst, inl, inr, arith}
use mathlib.Core.List.Memᴰ
use Rattle.std.proofs.Math.Decide.{ℕ_discrete}
use Rattle.terms.specs.declared.Atom.{Atom}
use Rattle.terms.specs.declared.Atom.TheVariants.{Has}
use Rattle.terms.specs.declared.Question.{Question}
use Rattle.terms.specs.Tests.{and_both, both_and, true_of, of_true, false_of, differ}
use Rattle.terms.specs.Limits.{ITEMS, NEVER}
use Rattle.terms.specs.Holes.{is_inside, InHole}
use Rattle.terms.specs.Held.{Held, hole_in, ends_of}
use Rattle.terms.specs.HoleLaws.{line_of, line_ordered, line_covers}
use Rattle.terms.proofs.Ends.{ends_placed}
use Rattle.terms.proofs.Limited.{InRange}
use Rattle.logic.specs.Model.{by_mark, by_every, by_rule}
use Rattle.logic.specs.Depths.{Derived}
use Rattle.logic.specs.Interpretations.{Interpretation, Satisfies}
use Rattle.logic.proofs.Inside.{derived_inside}
use Rattle.logic.specs.Joined.{Concerns, Of}
use Rattle.logic.proofs.Entailed.{true_in_all, never_none}
use Rattle.logic.specs.Classes.{concerns_b}
use Rattle.logic.proofs.ClassLaws.{concerns_test}
use Rattle.logic.proofs.Local.{concerns_shut, asked_concerns, statement_concerns}
use Rattle.terms.specs.Spans.{Run, Covers, Longest}
use Rattle.line.specs.CutLaws.{upto_length, cuts_asc}
use Rattle.line.specs.Intervals.{cuts_of, interval, count}
use Rattle.line.proofs.IntervalLaws.{met}
use Rattle.line.specs.Code.{cuts_inner}
use Rattle.spans.specs.Runs.{runs}
use Rattle.spans.proofs.Longest.{runs_longest}
use Rattle.verdicts.specs.Reading.{lowest_of}
use Rattle.std.specs.Prelude.{Option, Some, None}
use Rattle.verdicts.specs.Below.{one_below, below_one}
use Rattle.tables.specs.Saturate.{fact, mem}
use Rattle.tables.specs.Executed.{model}
use Rattle.tables.proofs.ExecutedLaws.{exact, exact_inside, exact_at}
use Rattle.decide.specs.Decides.{
  Verdict,
  Yes,
  No,
  Spans,
  Reply,
  Contradiction,
  Answered,
  Never,
  Lowest,
  InAll,
  Says,
  Decides,
}
use Rattle.decide.proofs.Derives.{Reads, Derives}
use Rattle.decide.proofs.Unique.{clash, at_most_one, derives_one}
use Rattle.decide.specs.Answer.{never_b, clashes, clash_or, verdict, answer}

-- ---- the answer decides

data Looked (f : ℕ → Bool) (n a : ℕ) : Option ℕ → Type 0 where
  none_there : ((b : ℕ) → a ≤ b → b < a + n → f b ≡ false) → Looked f n a None
  first_there : (b : ℕ) → a ≤ b → b < a + n → f b ≡ true → ((c : ℕ) → a ≤ c → c < b → f c ≡ false) → Looked f n a (Some b)

looked : (f : ℕ → Bool) (n a : ℕ) → Looked f n a (lowest_of f n a)
looked f zero a = none_there (λ b h l. let z : ⊥ = omega arith in absurd z)
looked f (suc n) a = go (f a) refl (looked f n (suc a))
  where
    start : {u : ℕ} → f a ≡ false → ((c : ℕ) → suc a ≤ c → c < u → f c ≡ false) → (c : ℕ) → a ≤ c → c < u → f c ≡ false
    start e k c h l = pick (ℕ_discrete c a)
      where
        pick : Dec (c ≡ a) → f c ≡ false
        pick (yes d) = rw d e
        pick (no d) = k c (omega arith) l

    more : {r : Option ℕ} → f a ≡ false → Looked f n (suc a) r → Looked f (suc n) a r
    more e (none_there k) = none_there (λ b h l. start e k b h (omega arith))
    more e (first_there b h l m k) = first_there b (omega arith) (omega arith) m (start e k)

    go : (t : Bool) → f a ≡ t → Looked f n (suc a) (lowest_of f n (suc a)) → Looked f (suc n) a (elim t [ true ↦ Some a | false ↦ lowest_of f n (suc a) ])
    go true e w = first_there a (omega arith) (omega arith) e (λ c h l. let z : ⊥ = omega arith in absurd z)
    go false e w = more e w

-- contradiction names one of the items, whatever is held
pub contradiction_item : (h : Held) (q : Question) (a : ℕ) → answer h q ≡ Contradiction a → a < ITEMS
unfolding answer
contradiction_item h q a = go (looked (clashes h q (model h)) ITEMS 0)
  where
    go : {l : Option ℕ} → Looked (clashes h q (model h)) ITEMS 0 l → clash_or l (verdict h (model h) q) ≡ Contradiction a → a < ITEMS
    go (none_there k) e = differ (cc)
    go (first_there b u l m k) e = let f : b ≡ a = cc in omega (arith, f)

module _ (h : Held) (R : InRange h) where
  -- the model read at each depth's interval; no where the depth does not exist
  abbrev pub table : Interpretation
  table x i = is_inside (hole_in h) i && mem (fact x (interval h i)) (model h)

  said : {x : Atom} {i : ℤ} → Derived h x i → table x i ≡ true
  said {x} {i} d = true_of (table x i) ((exact h R x i).1 d)

  held : (x : Atom) (i : ℤ) → table x i ≡ true → Derived h x i
  held x i e = (exact h R x i).0 (of_true e)

  -- it satisfies the marks and rules of the items concerned where none of them has NEVER
  pub table_satisfies : (q : Question) → (Never h q → ⊥) → Satisfies h (Concerns h q) table
  table_satisfies q N = record {
    marks = λ m i n c e o. said (by_mark (record { mark = m; held = n; says = refl; at = e }, o));
    every = λ a i l c o. said (by_every l o);
    never = λ a i l c.
        false_of (table (Has a NEVER) i)
        (λ t. N (record { item = a; depth = i; named = l; concerned = c; has = (exact h R (Has a NEVER) i).0 t }));
    rules = λ ρ x y z j k i m n s t u v g d e. said (by_rule j k m n g (held x j d) (held y k e));
    outside = λ x i s c o. false_of (table x i) (λ t. o (and_both (is_inside (hole_in h) i) (mem (fact x (interval h i)) (model h)) t).0);
  }

  clash_least : (q : Question) (a : ℕ) → clashes h q (model h) a ≡ true → Concerns h q a × ((i : ℤ) × Derived h (Has a NEVER) i)
  clash_least q a e =
      let (c, t) = and_both (concerns_b h.marks q a) (never_b h (model h) a) (of_true e) in
      let (p, l, u) = below_one (count h) (λ p. mem (fact (Has a NEVER) p) (model h)) t in
      let (i, o, d) = met h R.hole p l in
      ((concerns_test h R q a).0 c, (i, exact_at h R (Has a NEVER) p u i o d))

  no_clash : (q : Question) (a : ℕ) (i : ℤ) → clashes h q (model h) a ≡ false → Concerns h q a → Derived h (Has a NEVER) i → ⊥
  no_clash q a i e c d =
      let t =
      one_below (count h) (λ p. mem (fact (Has a NEVER) p) (model h)) (interval h i) (omega (arith, upto_length (cuts_of h) i))
      ((exact_inside h R (Has a NEVER) i (derived_inside h d)).1 d) in
      clash (true_of (clashes h q (model h) a) (both_and (concerns_b h.marks q a) (never_b h (model h) a) ((concerns_test h R q a).1 c) t)) e

  -- the spans of a label are the longest runs of the depths where the table has it
  table_longest : (a A : ℕ) → Longest (λ i. T (table (Has a A) i)) (runs (line_of (hole_in h)) (cuts_of h) (λ p. mem (fact (Has a A) p) (model h)))
  table_longest a A =
      let L = runs_longest (line_of (hole_in h)) (line_ordered (hole_in h) R.hole) (cuts_of h) (cuts_asc (hole_in h) (ends_of h.marks))
      (cuts_inner (hole_in h) (ends_of h.marks) R.hole (ends_placed h.marks R.marks)) (λ p. mem (fact (Has a A) p) (model h)) in
      record {
        apart = L.apart;
        exact = λ i. (
          λ c. let w = (L.exact i).0 c in both_and (is_inside (hole_in h) i) (mem (fact (Has a A) (interval h i)) (model h)) ((covers i).0 w.0) w.1,
          λ t.
              let w = and_both (is_inside (hole_in h) i) (mem (fact (Has a A) (interval h i)) (model h)) t in
              (L.exact i).1 ((covers i).1 w.0, w.1),
        );
      }
    where
      covers : (i : ℤ) → Covers (line_of (hole_in h)) i ↔ InHole (hole_in h) i
      covers i = line_covers (hole_in h) R.hole i

  longest : (a A : ℕ) → Longest (Derived h (Has a A)) (runs (line_of (hole_in h)) (cuts_of h) (λ p. mem (fact (Has a A) p) (model h)))
  longest a A =
      let L = table_longest a A in
      record { apart = L.apart; exact = λ i. (λ c. (exact h R (Has a A) i).0 ((L.exact i).0 c), λ d. (L.exact i).1 ((exact h R (Has a A) i).1 d)) }

  reads : (q : Question) → Reads h q (verdict h (model h) q)
  reads (Question.Holds x i) = go (table x i) refl
    where
      go : (b : Bool) → table x i ≡ b → Reads h (Question.Holds x i) (cond b Yes No)
      go true e = held x i e
      go false e = λ d. clash (said d) e
  reads (Question.Spans a A) = longest a A

  -- ---- demand 2

  pub answer_derives : (q : Question) → Derives h q (answer h q)
  unfolding answer
  answer_derives q = go (looked (clashes h q (model h)) ITEMS 0)
    where
      go : {r : Option ℕ} → Looked (clashes h q (model h)) ITEMS 0 r → Derives h q (clash_or r (verdict h (model h) q))
      go (none_there k) =
          (λ n. no_clash q n.item n.depth (k n.item (omega arith) (omega (arith, n.named))) n.concerned n.has, reads q)
      go (first_there a u l e k) =
          let (c, w) = clash_least q a e in
          record { item = omega arith; concerned = c; depth = w.0; never = w.1; lower = λ b i v n m. no_clash q b i (k b (omega arith) v) n m }

  pub derives_exactly : (q : Question) (r : Reply) → (answer h q ≡ r) ↔ Derives h q r
  derives_exactly q r = (λ e. subst (Derives h q) e (answer_derives q), λ d. derives_one h q (answer h q) r (answer_derives q) d)

  -- contradiction exactly if an item concerned has NEVER, the lowest of them named
  pub contradiction_exactly : (q : Question) (a : ℕ) → (answer h q ≡ Contradiction a) ↔ Lowest h q a
  contradiction_exactly q a = derives_exactly q (Contradiction a)

  -- yes exactly if no item concerned has NEVER and the statement is in the least model; no exactly if it is not in it
  pub yes_exactly : (x : Atom) (i : ℤ) → let q = Question.Holds x i in (answer h q ≡ Answered Yes) ↔ ((Never h q → ⊥) × Derived h x i)
  yes_exactly x i = derives_exactly (Question.Holds x i) (Answered Yes)

  pub no_exactly : (x : Atom) (i : ℤ) → let q = Question.Holds x i in (answer h q ≡ Answered No) ↔ ((Never h q → ⊥) × (Derived h x i → ⊥))
  no_exactly x i = derives_exactly (Question.Holds x i) (Answered No)

  -- a list of spans covers exactly the depths where the label is in the least model
  pub spans_exactly : (a A : ℕ) (rs : List Run) → let q = Question.Spans a A in
      (answer h q ≡ Answered (Spans rs)) ↔ ((Never h q → ⊥) × Longest (Derived h (Has a A)) rs)
  spans_exactly a A rs = derives_exactly (Question.Spans a A) (Answered (Spans rs))

  -- and is given exactly if no item concerned has NEVER
  pub clear_spans : (a A : ℕ) → let q = Question.Spans a A in ((rs : List Run) × (answer h q ≡ Answered (Spans rs))) ↔ (Never h q → ⊥)
  clear_spans a A = (
    λ w. ((spans_exactly a A w.0).0 w.1).0,
    λ N. (runs (line_of (hole_in h)) (cuts_of h) (λ p. mem (fact (Has a A) p) (model h)), (spans_exactly a A _).1 (N, longest a A)),
  )

  -- ---- demand 3

  -- what is in the least model of the items concerned is true in all interpretations of them
  all : (q : Question) {x : Atom} {i : ℤ} → Derived h x i → Of (Concerns h q) x → InAll h q x i
  all q d o D s = true_in_all h R (Concerns h q) (concerns_shut h q) D s d o

  says : (q : Question) (v : Verdict) → (Never h q → ⊥) → Reads h q v → Says h q v
  says (Question.Holds x i) Yes N d = all (Question.Holds x i) d (statement_concerns h x i)
  says (Question.Holds x i) No N d =
      (table, table_satisfies (Question.Holds x i) N, false_of (table x i) (λ t. d ((exact h R x i).0 t)))
  says (Question.Holds x i) (Spans rs) N d = d
  says (Question.Spans a A) Yes N d = d
  says (Question.Spans a A) No N d = d
  says (Question.Spans a A) (Spans rs) N d = record {
    apart = d.apart;
    exact = λ i. (
      λ c. all (Question.Spans a A) ((d.exact i).0 c) (asked_concerns h (Question.Spans a A) a (Memᴰ.head refl)),
      λ f. (d.exact i).1 (held (Has a A) i (f table (table_satisfies (Question.Spans a A) N))),
    );
  }

  derives_decides : (q : Question) (r : Reply) → Derives h q r → Decides h q r
  derives_decides q (Contradiction a) l =
      (λ s. never_none h R (Concerns h q) (concerns_shut h q) a l.depth l.concerned l.never s.0 s.1, l)
  derives_decides q (Answered v) d = ((table, table_satisfies q d.0), says q v d.0 d.1)

  pub answer_decides : (q : Question) → Decides h q (answer h q)
  answer_decides q = derives_decides q (answer h q) (answer_derives q)

  pub decides_exactly : (q : Question) (r : Reply) → (answer h q ≡ r) ↔ Decides h q r
  decides_exactly q r = (λ e. subst (Decides h q) e (answer_decides q), λ d. at_most_one h q (answer h q) r (answer_decides q) d)

  -- ---- 02, Slips 5 and 10

  -- a question for what is not derived is answered no, or contradiction
  pub underived_no : (x : Atom) (i : ℤ) → (Derived h x i → ⊥) → let q = Question.Holds x i in
      (answer h q ≡ Answered No) ⊎ ((a : ℕ) × (answer h q ≡ Contradiction a))
  underived_no x i o = go (answer h (Question.Holds x i)) (answer_derives (Question.Holds x i))
    where
      go : (r : Reply) → Derives h (Question.Holds x i) r → (r ≡ Answered No) ⊎ ((a : ℕ) × (r ≡ Contradiction a))
      go (Contradiction a) d = inr (a, refl)
      go (Answered No) d = inl refl
      go (Answered Yes) d = absurd (o d.1)
      go (Answered (Spans rs)) d = absurd d.1
