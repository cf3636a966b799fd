-- `Exact` leaves nothing open: two replies to a question that are exact give the same answer, the same pairs and the same entries of both tables.
-- Assumes nothing.
use Rattle.std.specs.Prelude.{◌≡◌, refl, Bool, not, ◌||◌, List, ℕ, ◌<◌, ◌+◌, ◌*◌, T, eqb, ℤ, length, take, get_or}
use Rattle.std.proofs.Common.{sym, ap, ◌∙◌, subst}
use Rattle.terms.specs.declared.Answer.{Answer}
use Rattle.terms.specs.declared.Atom.{Atom}
use Rattle.terms.specs.declared.Atom.TheVariants.{Has}
use Rattle.terms.specs.declared.Question.{Question}
use Rattle.terms.specs.Limits.{ITEMS, INTERVALS}
use Rattle.terms.specs.Held.{Held}
use Rattle.terms.specs.Spans.{flat}
use Rattle.terms.specs.Answers.{number_of}
use Rattle.logic.specs.Depths.{Derived}
use Rattle.spans.proofs.Longest.{longest_one}
use Rattle.tables.proofs.Shown.{labels_one, links_one}
use Rattle.decide.specs.Decides.{Yes, No, Spans, Reply, Contradiction, Answered, Never, InAll, Decides}
use Rattle.decide.proofs.Unique.{lowest_one}
use Rattle.decide.specs.Verdicts.{answer_of}
use Rattle.commands.specs.Buffers.{After}
use Rattle.claims.specs.Exact.{RunsWritten, Contradicts, Exact}
use Rattle.claims.specs.Tells.{Tells_same}

-- the pairs of a set are one list, however many are said to be
runs_one : (S : ℤ → Type 0) (n k : ℕ) (s t : List ℤ) (w : RunsWritten S n s) (v : RunsWritten S k t) → w.runs ≡ v.runs
runs_one S n k s t w v = longest_one S w.runs v.runs w.longest v.longest

-- the numbers of the answers that no statement gets, and that no question for spans gets
abbrev pub untold : ℕ → Bool
untold n = not (eqb n 1 || (eqb n 2 || eqb n 3))

abbrev pub unspanned : ℕ → Bool
unspanned n = not (eqb n 3 || eqb n 4)

module _ (h : Held) (r : After) where
  -- not contradiction, so no item concerned has NEVER
  clear : (q : Question) → Exact h q r → (Contradicts r → ⊥) → Never h q → ⊥
  clear q R f v = f (R.some_never.1 v)

  -- a test of an answer's number holds of the answer, whatever it is called
  carried : (f : ℕ → Bool) (a b : Answer) → r.answer ≡ a → T (f (number_of a)) → r.answer ≡ b → T (f (number_of b))
  carried f a b e t c = subst (λ (y : Answer). T (f (number_of y))) (sym e ∙ c) t

  -- a statement is answered yes, no or contradiction
  pub not_told : (x : Atom) (i : ℤ) → Exact h (Question.Holds x i) r → (a : Answer) → T (untold (number_of a)) → r.answer ≡ a → ⊥
  not_told x i R a t e =
      let c = clear (Question.Holds x i) R (λ v. carried untold a (Answer.Contradiction v.0) e t v.1) in
      carried untold a Answer.No e t (R.by_model.1.1 (c, λ d. carried untold a Answer.Yes e t (R.by_model.0.1 (c, d))))

  -- spans are asked for and given, or contradiction
  pub not_spanned : (a A : ℕ) → Exact h (Question.Spans a A) r → (b : Answer) → T (unspanned (number_of b)) → r.answer ≡ b → ⊥
  not_spanned a A R b t e =
      let c = clear (Question.Spans a A) R (λ v. carried unspanned b (Answer.Contradiction v.0) e t v.1) in
      let w = R.by_model.0.1 c in
      carried unspanned b (Answer.Spans w.0) e t w.1

module _ (h : Held) (r k : After) where
  holds_one : (x : Atom) (i : ℤ) → Exact h (Question.Holds x i) r → Exact h (Question.Holds x i) k → (a : Answer) → r.answer ≡ a → k.answer ≡ a
  holds_one x i R K Answer.Yes e = K.by_model.0.1 (R.by_model.0.0 e)
  holds_one x i R K Answer.No e = K.by_model.1.1 (R.by_model.1.0 e)
  holds_one x i R K (Answer.Contradiction a) e = (K.lowest a).1 ((R.lowest a).0 e)
  holds_one x i R K Answer.Done e = absurd (not_told h r x i R Answer.Done tt e)
  holds_one x i R K (Answer.Spans n) e = absurd (not_told h r x i R (Answer.Spans n) tt e)
  holds_one x i R K Answer.End e = absurd (not_told h r x i R Answer.End tt e)
  holds_one x i R K (Answer.Refused n) e = absurd (not_told h r x i R (Answer.Refused n) tt e)

  spans_one : (a A : ℕ) → Exact h (Question.Spans a A) r → Exact h (Question.Spans a A) k → (x : Answer) → r.answer ≡ x → k.answer ≡ x
  spans_one a A R K (Answer.Contradiction c) e = (K.lowest c).1 ((R.lowest c).0 e)
  spans_one a A R K (Answer.Spans n) e =
      let (l, f) = K.by_model.0.1 (R.by_model.0.0 (n, e)) in
      let w = R.by_model.1 n e in
      let v = K.by_model.1 l f in
      f ∙ ap Answer.Spans (sym v.number ∙ (sym (ap length (runs_one (Derived h (Has a A)) n l r.buffers.spans k.buffers.spans w v)) ∙ w.number))
  spans_one a A R K Answer.Done e = absurd (not_spanned h r a A R Answer.Done tt e)
  spans_one a A R K Answer.Yes e = absurd (not_spanned h r a A R Answer.Yes tt e)
  spans_one a A R K Answer.No e = absurd (not_spanned h r a A R Answer.No tt e)
  spans_one a A R K Answer.End e = absurd (not_spanned h r a A R Answer.End tt e)
  spans_one a A R K (Answer.Refused n) e = absurd (not_spanned h r a A R (Answer.Refused n) tt e)

  answer_one : (q : Question) → Exact h q r → Exact h q k → r.answer ≡ k.answer
  answer_one (Question.Holds x i) R K = sym (holds_one x i R K r.answer refl)
  answer_one (Question.Spans a A) R K = sym (spans_one a A R K r.answer refl)

  -- the pairs that are written
  pairs_one :
      (q : Question) → Exact h q r → Exact h q k → (n : ℕ) → r.answer ≡ Answer.Spans n →
      take (2 * n) r.buffers.spans ≡ take (2 * n) k.buffers.spans
  pairs_one (Question.Holds x i) R K n e = absurd (not_told h r x i R (Answer.Spans n) tt e)
  pairs_one (Question.Spans a A) R K n e =
      let w = R.by_model.1 n e in
      let v = K.by_model.1 n (spans_one a A R K (Answer.Spans n) e) in
      w.written ∙ (ap flat (runs_one (Derived h (Has a A)) n n r.buffers.spans k.buffers.spans w v) ∙ sym v.written)

-- what is exact tells the same
pub exact_tells : (h : Held) (q : Question) (r k : After) → Exact h q r → Exact h q k → Tells_same r k
exact_tells h q r k R K = record { answer = answer_one h r k q R K; spans = pairs_one h r k q R K }

-- and shows the same
module _ (h : Held) (q : Question) (r k : After) (R : Exact h q r) (K : Exact h q k) where
  pub exact_labels : (a p : ℕ) → a < ITEMS → p < INTERVALS →
      get_or r.buffers.labels (a * INTERVALS + p) 0 ≡ get_or k.buffers.labels (a * INTERVALS + p) 0
  exact_labels =
      labels_one h R.number K.number R.count K.count R.pieces K.pieces r.buffers.labels r.buffers.links k.buffers.labels
      k.buffers.links R.tables K.tables

  pub exact_links : (a b p : ℕ) → a < ITEMS → b < ITEMS → p < INTERVALS →
      get_or r.buffers.links ((a * ITEMS + b) * INTERVALS + p) 0 ≡ get_or k.buffers.links ((a * ITEMS + b) * INTERVALS + p) 0
  exact_links =
      links_one h R.number K.number R.count K.count R.pieces K.pieces r.buffers.labels r.buffers.links k.buffers.labels
      k.buffers.links R.tables K.tables

-- by the interpretations too: an exact answer is the one that they decide
pub exact_decides : (h : Held) (q : Question) (r : After) (y : Reply) → Exact h q r → Decides h q y → r.answer ≡ answer_of y
exact_decides h q r (Contradiction a) R d =
    let (b, e) = R.none_satisfies.1 d.0 in e ∙ ap Answer.Contradiction (lowest_one h q b a ((R.lowest b).0 e) d.1)
exact_decides h (Question.Holds x i) r (Answered Yes) R d = R.by_interpretations.0.1 d
exact_decides h (Question.Holds x i) r (Answered No) R d = R.by_interpretations.1.1 d
exact_decides h (Question.Holds x i) r (Answered (Spans rs)) R d = absurd d.1
exact_decides h (Question.Spans a A) r (Answered Yes) R d = absurd d.1
exact_decides h (Question.Spans a A) r (Answered No) R d = absurd d.1
exact_decides h (Question.Spans a A) r (Answered (Spans rs)) R d =
    let (n, e) = R.by_interpretations.0.1 d.0 in
    let w = R.by_interpretations.1 n e in
    e ∙ ap Answer.Spans (sym w.number ∙ ap length (longest_one (InAll h (Question.Spans a A) (Has a A)) w.runs rs w.longest d.1))
