-- The computed charge is the one that must hold, and the only one; and it names an item that there is. Assumes nothing.
use Rattle.std.specs.Prelude.{◌≡◌, ◌↔◌, Bool, true, false, cond, ℕ, ◌+◌, ◌<◌, ℤ}
use Rattle.std.proofs.Math.Path.{refl, subst}
use Rattle.std.proofs.Common.{sym, ap, ◌∙◌}
use Rattle.std.proofs.Math.Logic.{⊎_elim}
use mathlib.Core.List.{List, [], ◌∷◌}
use Rattle.std.proofs.Math.Dec.{T}
use Rattle.terms.specs.declared.Atom.TheVariants.{Has}
use Rattle.terms.specs.declared.Question.TheVariants as Question
use Rattle.terms.specs.Tests.{or_one, of_true, neither, differ}
use Rattle.terms.specs.Limits.{ITEMS, EVERY}
use Rattle.terms.specs.Held.{◌∈◌, Held}
use Rattle.terms.specs.Lists.{some}
use Rattle.terms.proofs.Limited.{InRange, some_in, in_some}
use Rattle.terms.specs.Spans.{Run, Longest}
use Rattle.logic.specs.Depths.{Derived}
use Rattle.logic.specs.Joined.{Concerns}
use Rattle.spans.proofs.Longest.{ordered_in, longest_one}
use Rattle.decide.specs.Decides.{Spans, Reply, Contradiction, Answered, Never, InAll}
use Rattle.decide.specs.Answer.{answer}
use Rattle.decide.proofs.Decide.{contradiction_item, contradiction_exactly, spans_exactly, clear_spans}
use Rattle.decide.proofs.Sentences.{Contradicted, some_never, none_satisfies, spans_in_all, spans_longest}
use Rattle.charges.specs.declared.PriceLine.{PriceLine}
use Rattle.charges.specs.declared.Sum.{Sum}
use Rattle.charges.specs.declared.Charge.{Charge}
use Rattle.charges.specs.Costs.{costs, Open}
use Rattle.charges.specs.Sums.{nothing, is_open, with_lines, charge_of}
use Rattle.bills.specs.Billed.{Billed, no_lines, line, SomeOpen, ChargesBy, asked, Contradicts, Charged}
use Rattle.bills.specs.Bill.{spans_in, spans_of, summed, unless_clash, bill}
use Rattle.bills.proofs.Totals.{open_passes, passes_open, costs_of, some_open, lines_charge}

-- ---- the charge by the longest runs of a set for each label

module _ (So : ℕ → ℤ → Type 0) (spans : PriceLine → List Run) (longest : (l : PriceLine) → Longest (So l.label) (spans l)) where
  -- a list of longest runs is the line's
  spans_one : (l : PriceLine) (rs : List Run) → Longest (So l.label) rs → rs ≡ spans l
  spans_one l rs L = longest_one (So l.label) rs (spans l) L (longest l)

  -- the test finds the line's spans without an end
  line_open : (l : PriceLine) → T (some is_open (spans l)) ↔ ((r : Run) × (r ∈ spans l) × Open r)
  line_open l = (
    λ t. let (r, m, u) = some_in is_open (spans l) t in (r, m, passes_open r (ordered_in (spans l) (longest l).apart r m) u),
    λ w. in_some is_open (spans l) w.0 w.1 (open_passes w.0 w.2),
  )

  -- and those of all lines
  lines_open : (ls : List PriceLine) → T (some_open spans ls) ↔ SomeOpen So ls
  lines_open ls = (
    λ t.
        let (l, m, u) = some_in (λ l. some is_open (spans l)) ls t in
        let (r, n, o) = (line_open l).0 u in
        record { line = l; listed = m; spans = spans l; longest = longest l; span = r; among = n; endless = o },
    λ w.
        let e = spans_one w.line w.spans w.longest in
        let n : w.span ∈ spans w.line = subst (λ rs. w.span ∈ rs) e w.among in
        in_some (λ l. some is_open (spans l)) ls w.line w.listed ((line_open w.line).1 (w.span, n, w.endless)),
  )

  -- where none has one, what the lines cost is the total
  costs_billed : (ls : List PriceLine) → some_open spans ls ≡ false → Billed So ls (costs_of spans ls)
  unfolding some costs_of
  costs_billed [] e = no_lines
  costs_billed (l ∷ ls) e =
      let (f, g) = neither (some is_open (spans l)) (some_open spans ls) e in
      line l ls (spans l) (costs_of spans ls) (longest l) (λ r m o. subst T f ((line_open l).1 (r, m, o))) (costs_billed ls g)

  -- and it is the only one
  billed_costs : (ls : List PriceLine) (t : ℕ) → Billed So ls t → (costs_of spans ls ≡ t) × (T (some_open spans ls) → ⊥)
  unfolding some costs_of
  billed_costs ls t no_lines = (refl, λ u. u)
  billed_costs ls t (line l ks rs u L n b) = go (spans_one l rs L) (billed_costs ks u b)
    where
      go : rs ≡ spans l → (costs_of spans ks ≡ u) × (T (some_open spans ks) → ⊥) →
          (costs l (spans l) + costs_of spans ks ≡ costs l rs + u) × (T (some_open spans (l ∷ ks)) → ⊥)
      go e w = (
        λ i. costs l (sym e i) + w.0 i,
        λ v.
            ⊎_elim (λ x. let (r, m, o) = (line_open l).0 x in n r (subst (λ xs. r ∈ xs) (sym e) m) o) w.1
            (or_one (some is_open (spans l)) (some_open spans ks) v),
      )

  -- so the charge is as it must be where it is clear that there is no contradiction
  charges : {Clear : Type 0} → Clear → (ls : List PriceLine) → ChargesBy Clear So ls (charge_of (with_lines spans nothing ls))
  charges {Clear} c ls = subst (ChargesBy Clear So ls) (sym (lines_charge spans ls)) (go (some_open spans ls) refl)
    where
      go : (b : Bool) → some_open spans ls ≡ b → ChargesBy Clear So ls (cond b Charge.Open (Charge.Total (costs_of spans ls)))
      go true e = record {
        total = λ t. (λ d. differ (cc), λ w. absurd ((billed_costs ls t w.1).1 (of_true e)));
        unended = (λ d. (c, (lines_open ls).0 (of_true e)), λ w. refl);
      }
      go false e = record {
        total = λ t. (
          λ d. let f : costs_of spans ls ≡ t = cc in (c, subst (Billed So ls) f (costs_billed ls e)),
          λ w. ap Charge.Total (billed_costs ls t w.1).0,
        );
        unended = (λ d. differ (cc), λ w. absurd (subst T e ((lines_open ls).1 w.1)));
      }

-- in a contradiction it is neither open nor a total
clash_charges : {Clear : Type 0} → (Clear → ⊥) → (So : ℕ → ℤ → Type 0) (ls : List PriceLine) (b : ℕ) → ChargesBy Clear So ls (Charge.Contradiction b)
clash_charges n So ls b = record {
  total = λ t. (λ d. differ (cc), λ w. absurd (n w.0));
  unended = (λ d. differ (cc), λ w. absurd (n w.0));
}

-- ---- the bill

-- a charge beside a reply is a contradiction exactly if the reply is, with the same item
clash_bill : (r : Reply) (s : Sum) (b : ℕ) → (unless_clash r (charge_of s) ≡ Charge.Contradiction b) ↔ (r ≡ Contradiction b)
clash_bill (Contradiction a) s b = (λ e. let f : a ≡ b = cc in ap Contradiction f, λ e. let f : a ≡ b = cc in ap Charge.Contradiction f)
clash_bill (Answered v) s b = (λ e. go s.endless e, λ e. differ (cc))
  where
    go : (o : Bool) → cond o Charge.Open (Charge.Total s.total) ≡ Charge.Contradiction b → Answered v ≡ Contradiction b
    go true e = differ (cc)
    go false e = differ (cc)

-- so is the bill, by the reply to the question about the item
bill_clash : (h : Held) (a : ℕ) (ls : List PriceLine) (b : ℕ) → (bill h a ls ≡ Charge.Contradiction b) ↔ (answer h (asked a) ≡ Contradiction b)
unfolding bill
bill_clash h a ls b = clash_bill (answer h (asked a)) (summed h a ls) b

-- contradiction names one of the items, whatever is held
pub bill_item : (h : Held) (a : ℕ) (ls : List PriceLine) (b : ℕ) → bill h a ls ≡ Charge.Contradiction b → b < ITEMS
bill_item h a ls b e = contradiction_item h (asked a) b ((bill_clash h a ls b).0 e)

-- a bill is not refused
pub bill_unrefused : (h : Held) (a : ℕ) (ls : List PriceLine) (n : ℕ) → bill h a ls ≡ Charge.Refused n → ⊥
unfolding bill
bill_unrefused h a ls n = go (answer h (asked a)) (summed h a ls).endless
  where
    go : (r : Reply) (o : Bool) → unless_clash r (cond o Charge.Open (Charge.Total (summed h a ls).total)) ≡ Charge.Refused n → ⊥
    go (Contradiction b) o e = differ (cc)
    go (Answered v) true e = differ (cc)
    go (Answered v) false e = differ (cc)

-- which items are concerned does not go by the label that is asked for
pub concerns_asked : {h : Held} {a A B b : ℕ} → Concerns h (Question.Spans a A) b → Concerns h (Question.Spans a B) b
concerns_asked c = record { item = c.item; asked = c.asked; joined = c.joined }

-- nor does whether one of them has NEVER
never_asked : {h : Held} {a A B : ℕ} → Never h (Question.Spans a A) → Never h (Question.Spans a B)
never_asked n = record { item = n.item; depth = n.depth; named = n.named; concerned = concerns_asked n.concerned; has = n.has }

module _ (h : Held) (R : InRange h) (a : ℕ) where
  -- where none has it the spans of each label are told
  pub told : (Never h (asked a) → ⊥) → (A : ℕ) → let q = Question.Spans a A in answer h q ≡ Answered (Spans (spans_in (answer h q)))
  told N A = let q = Question.Spans a A in go (answer h q) ((clear_spans h R a A).1 (λ n. N (never_asked n)))
    where
      go : (r : Reply) → (rs : List Run) × (r ≡ Answered (Spans rs)) → r ≡ Answered (Spans (spans_in r))
      go r (rs, e) = e ∙ ap (λ s. Answered (Spans (spans_in s))) (sym e)

  -- contradiction is that of the question about the item
  contradicts : (ls : List PriceLine) → Contradicts (bill h a ls) ↔ Contradicted h R (asked a)
  contradicts ls = (λ w. (w.0, (bill_clash h a ls w.0).0 w.1), λ w. (w.0, (bill_clash h a ls w.0).1 w.1))

  -- what the bill comes to, by any sets whose longest runs the told spans are, and what makes clear that there is no contradiction
  by : {Clear : Type 0} → (So : ℕ → ℤ → Type 0) → (Contradicted h R (asked a) → Clear → ⊥) → ((Never h (asked a) → ⊥) → Clear) →
      ((Never h (asked a) → ⊥) → (A : ℕ) → Longest (So A) (spans_in (answer h (Question.Spans a A)))) → (ls : List PriceLine) →
      ChargesBy Clear So ls (bill h a ls)
  unfolding bill
  by {Clear} So clashing clear longest ls = go (answer h (asked a)) refl
    where
      go : (r : Reply) → answer h (asked a) ≡ r → ChargesBy Clear So ls (unless_clash r (charge_of (summed h a ls)))
      go (Contradiction b) e = clash_charges (clashing (b, e)) So ls b
      go (Answered v) e =
          let N : Never h (asked a) → ⊥ = λ n. let w = (some_never h R (asked a)).1 n in differ (cc w.1) in
          charges So (spans_of h a) (λ l. longest N l.label) (clear N) ls

  -- 02, Slip 1: the computed charge is as it must be
  pub bill_charged : (ls : List PriceLine) → Charged h a ls (bill h a ls)
  bill_charged ls = record {
    lowest = λ b. let c = contradiction_exactly h R (asked a) b in let d = bill_clash h a ls b in (λ e. c.0 (d.0 e), λ w. d.1 (c.1 w));
    some_never = let c = some_never h R (asked a) in let d = contradicts ls in (λ w. c.0 (d.0 w), λ n. d.1 (c.1 n));
    none_satisfies = let c = none_satisfies h R (asked a) in let d = contradicts ls in (λ w. c.0 (d.0 w), λ n. d.1 (c.1 n));
    by_model = by (λ A. Derived h (Has a A)) (λ w N. N ((some_never h R (asked a)).0 w)) (λ N. N) (λ N A. ((spans_exactly h R a A _).0 (told N A)).1) ls;
    by_interpretations =
        by (λ A. InAll h (Question.Spans a A) (Has a A)) (λ w. (none_satisfies h R (asked a)).0 w) (λ N. (spans_in_all h R a EVERY).0 (_, told N EVERY))
        (λ N A. spans_longest h R a A _ (told N A)) ls;
  }

-- ---- no other charge is

-- each that is so is the computed one
pub charged_bill : (h : Held) → InRange h → (a : ℕ) (ls : List PriceLine) (c : Charge) → Charged h a ls c → c ≡ bill h a ls
charged_bill h R a ls c w = go (bill h a ls) refl (bill_charged h R a ls)
  where
    go : (d : Charge) → bill h a ls ≡ d → Charged h a ls d → c ≡ d
    go (Charge.Total t) e v = (w.by_model.total t).1 ((v.by_model.total t).0 refl)
    go Charge.Open e v = w.by_model.unended.1 (v.by_model.unended.0 refl)
    go (Charge.Contradiction b) e v = (w.lowest b).1 ((v.lowest b).0 refl)
    go (Charge.Refused n) e v = absurd (bill_unrefused h a ls n e)

-- so there is one
pub charged_one : (h : Held) (a : ℕ) (ls : List PriceLine) (c d : Charge) → InRange h → Charged h a ls c → Charged h a ls d → c ≡ d
charged_one h a ls c d R v w = charged_bill h R a ls c v ∙ sym (charged_bill h R a ls d w)
