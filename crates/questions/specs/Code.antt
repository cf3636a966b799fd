-- What the parts of a question say.
use Rattle.std.specs.Prelude.{◌≡◌, List, ◌++◌, ℕ, ◌≤◌, T, ℤ, length, drop}
use Rattle.terms.specs.declared.Answer.{Answer}
use Rattle.terms.specs.declared.Question.{Question}
use Rattle.terms.specs.declared.Hole.{Hole}
use Rattle.terms.specs.Limits.{LABEL_ENTRIES, LINK_ENTRIES, SPAN_NUMBERS}
use Rattle.terms.specs.Held.{Held, is_question}
use Rattle.terms.specs.Lists.{limits}
use Rattle.terms.specs.Spans.{flat}
use Rattle.state.specs.declared.State.{State}
use Rattle.state.specs.State.{held_of, CountsIn}
use Rattle.tables.specs.Seeded.{Shown}
use Rattle.decide.specs.Answer.{answer}
use Rattle.decide.specs.Decides.{Yes, No, Spans, Reply, Contradiction, Answered}
use Rattle.decide.specs.Verdicts.{answer_of, table_verdict}

-- a state that a good block holds
pub record HeldState (s : State) : Type 0 where
  pub counts : CountsIn s
  pub limits : T (limits (held_of s))

-- the span buffer after a reply
abbrev pub spans_after : Reply → List ℤ → List ℤ
spans_after (Contradiction a) s = s
spans_after (Answered Yes) s = s
spans_after (Answered No) s = s
spans_after (Answered (Spans rs)) s = flat rs ++ drop (length (flat rs)) s

-- what is read off for a question: long enough tables and span buffer, and names that there are
pub record ToRead (labels links : List ℕ) (spans : List ℤ) (q : Question) : Type 0 where
  pub labels_long : LABEL_ENTRIES ≤ length labels
  pub links_long : LINK_ENTRIES ≤ length links
  pub spans_long : SPAN_NUMBERS ≤ length spans
  pub named : T (is_question q)

-- what the tables say, as the answer and in the span buffer
pub record ReadOff (H : Hole) (cs : List ℤ) (labels links : List ℕ) (q : Question) (spans spans' : List ℤ) (r : Answer) : Type 0 where
  pub said : r ≡ answer_of (Answered (table_verdict H cs labels links q))
  pub buffer : spans' ≡ spans_after (Answered (table_verdict H cs labels links q)) spans

-- what a question asks for
pub record ToAnswer (s : State) (labels links : List ℕ) (spans : List ℤ) (q : Question) : Type 0 where
  pub held_state : HeldState s
  pub labels_long : LABEL_ENTRIES ≤ length labels
  pub links_long : LINK_ENTRIES ≤ length links
  pub spans_long : SPAN_NUMBERS ≤ length spans
  pub named : T (is_question q)

-- a question answered: its answer, both tables and the span buffer
pub record Answered-as
    (h : Held) (q : Question) (labels links : List ℕ) (spans : List ℤ) (labels' links' : List ℕ) (spans' : List ℤ) (r : Answer) : Type 0 where
  pub said : r ≡ answer_of (answer h q)
  pub tables : Shown h labels links labels' links'
  pub buffer : spans' ≡ spans_after (answer h q) spans
