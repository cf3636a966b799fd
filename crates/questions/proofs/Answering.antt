-- What was read off the filled tables is the answer. Assumes nothing.
use mathlib.Core.Path.{◌≡◌, refl, sym, ap, ◌∙◌}
use mathlib.Core.Bool.{Bool}
use mathlib.Core.List.{List, ◌++◌}
use Prim.Native.Nat.{ℕ, ◌≤◌, ◌<◌}
use native.Mathlib.Omega.{arith}
use lib.Dec.{T}
use lib.IntN.{ℤ}
use lib.ListN.{length, drop}
use Rattle.terms.specs.declared.Answer.{Answer}
use Rattle.terms.specs.declared.Question.{Question}
use Rattle.terms.specs.Limits.{ITEMS, CUTS, INTERVALS, LABEL_ENTRIES, LINK_ENTRIES}
use Rattle.terms.specs.Held.{Held, hole_in, is_question}
use Rattle.terms.specs.Spans.{Run}
use Rattle.line.specs.Cuts.{upto}
use Rattle.line.specs.CutLaws.{upto_length}
use Rattle.line.specs.Intervals.{cuts_of}
use Rattle.state.specs.declared.State.{State}
use Rattle.state.specs.State.{held_of}
use Rattle.tables.specs.Tables.{label_table, link_table}
use Rattle.tables.specs.Seeded.{Shown}
use Rattle.spans.specs.Runs.{runs}
use Rattle.spans.specs.Code.{SpansWritten}
use Rattle.spans.proofs.Longest.{runs_fit}
use Rattle.logic.specs.Classes.{concerns_b}
use Rattle.verdicts.specs.Reading.{lowest_of, clashes_in, clash_in}
use Rattle.std.specs.Prelude.{Option, Some, None}
use Rattle.decide.specs.Answer.{clash_or, answer}
use Rattle.decide.specs.Decides.{Verdict, Reply, Contradiction, Answered}
use Rattle.decide.specs.Verdicts.{answer_of, table_verdict}
use Rattle.decide.proofs.Verdicts.{answer_is, clash_nowhere, clash_item}
use Rattle.questions.specs.Code.{HeldState, spans_after, ReadOff, Answered-as}
use Rattle.questions.proofs.Given.{few, ranged}

-- the number of spans fits in two bytes
pub count_fits : (e : Run) (cs : List ℤ) (f : ℕ → Bool) (before after : List ℤ) (n : ℕ) → length cs ≤ CUTS →
    SpansWritten (runs e cs f) before after n → n < 65536
count_fits e cs f before after n few W = omega (arith, W.count, (runs_fit e cs f few).0)

-- a depth's interval is one of those that there are
pub interval_low : (cs : List ℤ) (i : ℤ) (p : ℕ) → length cs ≤ CUTS → p ≡ upto cs i → p < INTERVALS
interval_low cs i p few e = omega (arith, upto_length cs i)

-- both tables are filled, and what they clash at was read
module _
    (s : State) (H : HeldState s) (l k l' k' : List ℕ) (S : Shown (held_of s) l k l' k') (c : Option ℕ)
    (q : Question) (named : T (is_question q)) (read : c ≡ clash_in (concerns_b (held_of s).marks q) l') (spans : List ℤ) where
  abbrev h : Held
  h = held_of s

  abbrev labels : List ℕ
  labels = label_table h ++ drop LABEL_ENTRIES l

  abbrev links : List ℕ
  links = link_table h ++ drop LINK_ENTRIES k

  abbrev found : Option ℕ
  found = lowest_of (clashes_in (concerns_b h.marks q) labels) ITEMS 0

  abbrev said : Verdict
  said = table_verdict (hole_in h) (cuts_of h) labels links q

  clash : found ≡ c
  unfolding clash_in
  clash = sym (read ∙ ap (clash_in (concerns_b h.marks q)) S.label_table_lem)

  by_tables : answer h q ≡ clash_or found said
  by_tables = answer_is h (ranged s H) (few s H) (drop LABEL_ENTRIES l) (drop LINK_ENTRIES k) q named

  as_replied : (r : Reply) → answer h q ≡ r → (spans' : List ℤ) (a : Answer) → a ≡ answer_of r → spans' ≡ spans_after r spans →
      Answered-as h q l k spans l' k' spans' a
  as_replied r e spans' a f g = record {
    said = f ∙ sym (ap answer_of e);
    tables = S;
    buffer = g ∙ sym (ap (λ (x : Reply). spans_after x spans) e);
  }

  pub contradictory : (item : ℕ) → c ≡ Some item → Answered-as h q l k spans l' k' spans (Answer.Contradiction item)
  contradictory item e = as_replied (Contradiction item) (by_tables ∙ clash_item found said item (clash ∙ e)) spans (Answer.Contradiction item) refl refl

  pub plain :
      c ≡ None → (cuts : List ℤ) → cuts ≡ cuts_of h → (spans' : List ℤ) (a : Answer) →
      ReadOff (hole_in h) cuts l' k' q spans spans' a → Answered-as h q l k spans l' k' spans' a
  plain e cuts N spans' a R =
      let same : table_verdict (hole_in h) cuts l' k' q ≡ said =
      ap (λ (cs : List ℤ). table_verdict (hole_in h) cs l' k' q) N
      ∙ ap (λ (y : List ℕ). table_verdict (hole_in h) (cuts_of h) y k' q) S.label_table_lem
      ∙ ap (λ (y : List ℕ). table_verdict (hole_in h) (cuts_of h) labels y q) S.link_table_lem in
      as_replied (Answered (table_verdict (hole_in h) cuts l' k' q))
      (by_tables ∙ clash_nowhere found said (clash ∙ e) ∙ ap Answered (sym same)) spans' a R.said R.buffer
