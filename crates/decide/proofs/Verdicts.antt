-- What the lent tables say, read as the answer. Assumes nothing.
use Rattle.std.specs.Prelude.{◌≡◌, refl, Bool, true, false, cond, ◌&&◌, ◌||◌, List, ◌∷◌, ◌++◌, ℕ, zero, suc, pred, ◌≤◌, ◌<◌, ◌+◌, ◌*◌, T, eqb, ℤ, length, get_or}
use Rattle.std.proofs.Math.Path.{sym}
use Rattle.std.proofs.Common.{ap, ◌∙◌, subst, arith}
use Rattle.std.proofs.Math.Decide.{dec_lt}
use Rattle.std.proofs.Math.ListN.{get_or-append}
use Rattle.terms.specs.declared.Atom.{Atom}
use Rattle.terms.specs.declared.Atom.TheVariants.{Has, Linked}
use Rattle.terms.specs.declared.Question.{Question}
use Rattle.terms.specs.Limits.{ITEMS, LABELS, KINDS, NEVER, CUTS, INTERVALS}
use Rattle.terms.specs.Holes.{is_inside}
use Rattle.terms.specs.Held.{Held, hole_in, is_statement, is_question}
use Rattle.terms.specs.HoleLaws.{line_of}
use Rattle.terms.proofs.Limited.{InRange}
use Rattle.logic.specs.Classes.{concerns_b}
use Rattle.words.specs.Bit.{bit_at}
use Rattle.line.specs.CutLaws.{upto_length}
use Rattle.rows.proofs.Laws.{true_false}
use Rattle.terms.specs.Spans.{Run}
use Rattle.terms.specs.Tests.{differ}
use Rattle.line.specs.Intervals.{cuts_of, interval, count}
use Rattle.steps.specs.Concluded.{label_names, link_names}
use Rattle.tables.specs.Saturate.{fact, mem}
use Rattle.tables.specs.Executed.{model}
use Rattle.tables.specs.Tables.{label_entry, link_entry, label_table, link_table}
use Rattle.tables.proofs.TableLaws.{bit_of, behind_absent, label_entry_lem, link_entry_lem, length_labels, length_links}
use Rattle.spans.proofs.Longest.{runs_fit}
use Rattle.spans.specs.Runs.{stretch_of, runs_from, runs, has_label}
use Rattle.verdicts.specs.Reading.{any_below, lowest_of, never_in, clashes_in, holds_in}
use Rattle.std.specs.Prelude.{Option, Some, None}
use Rattle.verdicts.specs.Below.{lowest_same}
use Rattle.decide.specs.Verdicts.{table_verdict}
use Rattle.decide.specs.Answer.{never_b, clashes, clash_or, verdict, answer}
use Rattle.decide.specs.Decides.{Verdict, Yes, No, Spans, Reply, Contradiction, Answered}

-- ---- it is the model

one_or_not : (b : Bool) (x : ℕ) → x ≡ cond b 1 0 → eqb x 1 ≡ b
one_or_not true x e = ap (λ v. eqb v 1) e
one_or_not false x e = ap (λ v. eqb v 1) e

module _ (h : Held) (R : InRange h) (few : length (cuts_of h) ≤ CUTS) where
  label_bit : (t : List ℕ) (a A p : ℕ) → a < ITEMS → A < LABELS → p < INTERVALS → has_label (label_table h ++ t) a A p ≡ mem (fact (Has a A) p) (model h)
  unfolding label_entry
  label_bit t a A p l k b =
      one_or_not (mem (fact (Has a A) p) (model h)) (bit_at (get_or (label_table h ++ t) (a * INTERVALS + p) 0) A)
      (ap (λ x. bit_at x A)
      (get_or-append (label_table h) t 0 (a * INTERVALS + p) (omega (arith, length_labels h)) ∙ label_entry_lem h few a p l b)
      ∙ bit_of (λ A. mem (fact (Has a A) p) (model h)) LABELS A k)

  link_bit : (t : List ℕ) (a r b p : ℕ) → a < ITEMS → r < KINDS → b < ITEMS → p < INTERVALS →
      eqb (bit_at (get_or (link_table h ++ t) ((a * ITEMS + b) * INTERVALS + p) 0) r) 1 ≡ mem (fact (Linked a r b) p) (model h)
  unfolding link_entry
  link_bit t a r b p l k m q =
      one_or_not (mem (fact (Linked a r b) p) (model h)) (bit_at (get_or (link_table h ++ t) ((a * ITEMS + b) * INTERVALS + p) 0) r)
      (ap (λ x. bit_at x r)
      (get_or-append (link_table h) t 0 ((a * ITEMS + b) * INTERVALS + p) (omega (arith, length_links h))
      ∙ link_entry_lem h few a b p l m q) ∙ bit_of (λ r. mem (fact (Linked a r b) p) (model h)) KINDS r k)

  -- a statement's bit at a depth's interval
  pub holds_is : (t u : List ℕ) (x : Atom) (i : ℤ) → T (is_statement x) →
      holds_in (label_table h ++ t) (link_table h ++ u) x (interval h i) ≡ mem (fact x (interval h i)) (model h)
  holds_is t u (Has a A) i s = let w = label_names a A s in label_bit t a A (interval h i) w.0 w.1 (omega (arith, upto_length (cuts_of h) i))
  holds_is t u (Linked a r b) i s = let w = link_names a r b s in link_bit u a r b (interval h i) w.0 w.1 w.2 (omega (arith, upto_length (cuts_of h) i))

  any_same : (n : ℕ) (f g : ℕ → Bool) → ((p : ℕ) → p < n → f p ≡ g p) → any_below n f ≡ any_below n g
  any_same zero f g e = refl
  any_same (suc n) f g e = go (f n) (g n) (e n (omega arith)) (any_same n f g (λ p l. e p (omega arith)))
    where
      go : (a b : Bool) → a ≡ b → any_below n f ≡ any_below n g → (a || any_below n f) ≡ (b || any_below n g)
      go a b d k = ap (λ v. v || any_below n f) d ∙ ap (λ v. b || v) k

  any_more : (k n : ℕ) (f : ℕ → Bool) → ((p : ℕ) → n ≤ p → f p ≡ false) → n ≤ k → any_below k f ≡ any_below n f
  any_more zero n f e l = ap (λ m. any_below m f) (let z : 0 ≡ n = omega arith in z)
  any_more (suc k) n f e l = go (dec_lt n (suc k)) (any_more k n f e)
    where
      go : Dec (n < suc k) → (n ≤ k → any_below k f ≡ any_below n f) → (f k || any_below k f) ≡ any_below n f
      go (yes d) m = ap (λ v. v || any_below k f) (e k (omega arith)) ∙ m (omega arith)
      go (no d) m = ap (λ v. any_below v f) (let z : suc k ≡ n = omega arith in z)

  never_is : (t : List ℕ) (a : ℕ) → a < ITEMS → never_in (label_table h ++ t) a ≡ never_b h (model h) a
  never_is t a l =
      any_same INTERVALS (has_label (label_table h ++ t) a NEVER) (λ p. mem (fact (Has a NEVER) p) (model h)) (λ p b. label_bit t a NEVER p l (omega arith) b)
      ∙ any_more INTERVALS (count h) (λ p. mem (fact (Has a NEVER) p) (model h)) (λ p b. behind_absent h R (Has a NEVER) p (omega arith)) (omega arith)

  -- the lowest item with NEVER of those concerned, by the table
  clash_is : (q : Question) (t : List ℕ) →
      lowest_of (clashes_in (concerns_b h.marks q) (label_table h ++ t)) ITEMS 0 ≡ lowest_of (clashes h q (model h)) ITEMS 0
  clash_is q t =
      lowest_same ITEMS 0 (clashes_in (concerns_b h.marks q) (label_table h ++ t)) (clashes h q (model h))
      (λ a l. ap (λ b. concerns_b h.marks q a && b) (never_is t a (omega arith)))

  runs_same : (e : Run) (cs : List ℤ) (f g : ℕ → Bool) (n p : ℕ) (b : Option ℕ) → ((q : ℕ) → q < p + n → f q ≡ g q) →
      runs_from e cs f n p b ≡ runs_from e cs g n p b
  runs_same e cs f g zero p None k = refl
  runs_same e cs f g zero p (Some s) k = refl
  runs_same e cs f g (suc n) p None k = go (f p) (g p) (k p (omega arith)) (λ c. runs_same e cs f g n (suc p) c (λ q l. k q (omega arith)))
    where
      go : (s t : Bool) → s ≡ t → ((c : Option ℕ) → runs_from e cs f n (suc p) c ≡ runs_from e cs g n (suc p) c)
          → ◌≡◌ {A = List Run} (elim s [ true ↦ runs_from e cs f n (suc p) (Some p) | false ↦ runs_from e cs f n (suc p) None ])
          (elim t [ true ↦ runs_from e cs g n (suc p) (Some p) | false ↦ runs_from e cs g n (suc p) None ])
      go true true d k = k (Some p)
      go true false d k = true_false d
      go false true d k = true_false (sym d)
      go false false d k = k None
  runs_same e cs f g (suc n) p (Some s) k = go (f p) (g p) (k p (omega arith)) (λ c. runs_same e cs f g n (suc p) c (λ q l. k q (omega arith)))
    where
      go : (u t : Bool) → u ≡ t → ((c : Option ℕ) → runs_from e cs f n (suc p) c ≡ runs_from e cs g n (suc p) c)
          → ◌≡◌ {A = List Run}
          (elim u [
            | true ↦ runs_from e cs f n (suc p) (Some s)
            | false ↦ stretch_of e cs s (pred p) ∷ runs_from e cs f n (suc p) None
          ])
          (elim t [ true ↦ runs_from e cs g n (suc p) (Some s) | false ↦ stretch_of e cs s (pred p) ∷ runs_from e cs g n (suc p) None ])
      go true true d k = k (Some s)
      go true false d k = true_false d
      go false true d k = true_false (sym d)
      go false false d k = ap (λ rs. stretch_of e cs s (pred p) ∷ rs) (k None)

  pub runs_is : (t : List ℕ) (a A : ℕ) → a < ITEMS → A < LABELS →
      runs (line_of (hole_in h)) (cuts_of h) (has_label (label_table h ++ t) a A) ≡ runs (line_of (hole_in h)) (cuts_of h) (λ p. mem (fact (Has a A) p) (model h))
  unfolding runs
  runs_is t a A l k =
      runs_same (line_of (hole_in h)) (cuts_of h) (has_label (label_table h ++ t) a A) (λ p. mem (fact (Has a A) p) (model h)) (count h) 0 None
      (λ q b. label_bit t a A q l k (omega arith))

  -- ---- the answer, by the tables

  verdict_is : (t u : List ℕ) (q : Question) → T (is_question q) →
      table_verdict (hole_in h) (cuts_of h) (label_table h ++ t) (link_table h ++ u) q ≡ verdict h (model h) q
  verdict_is t u (Question.Holds x i) s = ap (λ b. cond (is_inside (hole_in h) i && b) Yes No) (holds_is t u x i s)
  verdict_is t u (Question.Spans a A) s = let w = label_names a A s in ap Spans (runs_is t a A w.0 w.1)

  -- contradiction with the lowest item that has NEVER of those concerned, else what the tables say
  pub answer_is : (t u : List ℕ) (q : Question) → T (is_question q) → let labels = label_table h ++ t in
      answer h q
      ≡ clash_or (lowest_of (clashes_in (concerns_b h.marks q) labels) ITEMS 0) (table_verdict (hole_in h) (cuts_of h) labels (link_table h ++ u) q)
  unfolding answer
  answer_is t u q s = sym (λ i. clash_or (clash_is q t i) (verdict_is t u q s i))

-- what is read off the table says which reply
pub clash_nowhere : (l : Option ℕ) (v : Verdict) → l ≡ None → clash_or l v ≡ Answered v
clash_nowhere None v e = refl
clash_nowhere (Some a) v e = differ (cc)

pub clash_item : (l : Option ℕ) (v : Verdict) (a : ℕ) → l ≡ Some a → clash_or l v ≡ Contradiction a
clash_item None v a e = differ (cc)
clash_item (Some b) v a e = let f : b ≡ a = cc in ap Contradiction f

-- 01, Records: a list of spans has at most 97 pairs
pub spans_fit : (h : Held) → length (cuts_of h) ≤ CUTS → (q : Question) (rs : List Run) → answer h q ≡ Answered (Spans rs) → length rs ≤ 97
unfolding answer
spans_fit h few q rs e = go (lowest_of (clashes h q (model h)) ITEMS 0) q e
  where
    clash : ◌≡◌ {A = ℕ} 0 1 → length rs ≤ 97
    clash z = omega arith

    said : (v : Bool) → ◌≡◌ {A = Reply} (Answered (cond v Yes No)) (Answered (Spans rs)) → length rs ≤ 97
    said true d = clash (cc)
    said false d = clash (cc)

    same : (xs : List Run) → length xs ≤ 97 → ◌≡◌ {A = Reply} (Answered (Spans xs)) (Answered (Spans rs)) → length rs ≤ 97
    same xs l d = let w : xs ≡ rs = cc in subst (λ (ys : List Run). length ys ≤ 97) w l

    go : (r : Option ℕ) (p : Question) → clash_or r (verdict h (model h) p) ≡ Answered (Spans rs) → length rs ≤ 97
    go (Some a) p d = clash (cc)
    go None (Question.Holds x i) d = said (is_inside (hole_in h) i && mem (fact x (interval h i)) (model h)) d
    go None (Question.Spans a A) d =
        same (runs (line_of (hole_in h)) (cuts_of h) (λ p. mem (fact (Has a A) p) (model h)))
        (runs_fit (line_of (hole_in h)) (cuts_of h) (λ p. mem (fact (Has a A) p) (model h)) few).0 d
