-- Demand 3's sentences, one by one, of the computed answer. Assumes nothing.
use Rattle.std.specs.Prelude.{◌≡◌, refl, ◌↔◌, List, ℕ, ℤ}
use Rattle.terms.specs.declared.Atom.{Atom}
use Rattle.terms.specs.declared.Atom.TheVariants.{Has}
use Rattle.terms.specs.declared.Question.{Question}
use Rattle.terms.specs.Held.{Held}
use Rattle.terms.proofs.Limited.{InRange}
use Rattle.terms.specs.Spans.{Run, Longest}
use Rattle.decide.specs.Decides.{Yes, No, Spans, Reply, Contradiction, Answered, Never, Some, InAll, InOneNot, Decides}
use Rattle.decide.proofs.Derives.{Derives}
use Rattle.decide.specs.Answer.{answer}
use Rattle.decide.proofs.Unique.{lowest_never}
use Rattle.decide.proofs.Decide.{answer_derives, contradiction_exactly, answer_decides, decides_exactly}

module _ (h : Held) (R : InRange h) (q : Question) where
  abbrev pub Contradicted : Type 0
  Contradicted = (a : ℕ) × (answer h q ≡ Contradiction a)

  -- contradiction exactly if some item concerned has NEVER at some depth
  pub some_never : Contradicted ↔ Never h q
  some_never = (
    λ w. lowest_never h q w.0 ((contradiction_exactly h R q w.0).0 w.1),
    λ n. go n (answer h q) refl (answer_derives h R q),
  )
    where
      go : Never h q → (r : Reply) → answer h q ≡ r → Derives h q r → Contradicted
      go n (Contradiction a) e d = (a, e)
      go n (Answered v) e d = absurd (d.0 n)

  -- exactly if no interpretation of the items concerned satisfies marks and rules
  pub none_satisfies : Contradicted ↔ (Some h q → ⊥)
  none_satisfies = (λ w. ((decides_exactly h R q (Contradiction w.0)).0 w.1).0, λ f. go f (answer h q) refl (answer_decides h R q))
    where
      go : (Some h q → ⊥) → (r : Reply) → answer h q ≡ r → Decides h q r → Contradicted
      go f (Contradiction a) e d = (a, e)
      go f (Answered v) e d = absurd (f d.0)

module _ (h : Held) (R : InRange h) where
  -- yes exactly if one satisfies them and all that do make it true
  pub yes_in_all : (x : Atom) (i : ℤ) → let q = Question.Holds x i in (answer h q ≡ Answered Yes) ↔ (Some h q × InAll h q x i)
  yes_in_all x i = decides_exactly h R (Question.Holds x i) (Answered Yes)

  -- no exactly if one satisfies them and one of them makes it false
  pub no_in_one : (x : Atom) (i : ℤ) → let q = Question.Holds x i in (answer h q ≡ Answered No) ↔ (Some h q × InOneNot h q x i)
  no_in_one x i = decides_exactly h R (Question.Holds x i) (Answered No)

  -- spans exactly if one satisfies them, and then they are the longest runs of what is true in all
  pub spans_in_all : (a A : ℕ) → let q = Question.Spans a A in ((rs : List Run) × (answer h q ≡ Answered (Spans rs))) ↔ Some h q
  spans_in_all a A = (
    λ w. ((decides_exactly h R (Question.Spans a A) (Answered (Spans w.0))).0 w.1).0,
    λ s. go s (answer h (Question.Spans a A)) refl (answer_decides h R (Question.Spans a A)),
  )
    where
      go : Some h (Question.Spans a A) → (r : Reply) → answer h (Question.Spans a A) ≡ r → Decides h (Question.Spans a A) r →
          (rs : List Run) × (answer h (Question.Spans a A) ≡ Answered (Spans rs))
      go s (Contradiction b) e d = absurd (d.0 s)
      go s (Answered Yes) e d = absurd d.1
      go s (Answered No) e d = absurd d.1
      go s (Answered (Spans rs)) e d = (rs, e)

  pub spans_longest : (a A : ℕ) (rs : List Run) → let q = Question.Spans a A in
      answer h q ≡ Answered (Spans rs) → Longest (InAll h q (Has a A)) rs
  spans_longest a A rs e = ((decides_exactly h R (Question.Spans a A) (Answered (Spans rs))).0 e).1
