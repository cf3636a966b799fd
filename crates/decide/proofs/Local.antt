-- 02, Slip 7: marks on items concerned neither before nor after alter no answer. Assumes nothing.
use Rattle.std.specs.Prelude.{◌≡◌, refl, List}
use mathlib.Core.List.Memᴰ
use Rattle.terms.specs.declared.Mark.{Mark}
use Rattle.terms.specs.declared.Question.{Question}
use Rattle.terms.specs.Held.{Held, with_marks}
use Rattle.terms.proofs.Limited.{InRange}
use Rattle.logic.specs.Untouched.{Untouched}
use Rattle.logic.proofs.Local.{asked_concerns, statement_concerns, derived_stays, concerns_stays, Same, untouched_same, marks_for, alone_same, alone_range}
use Rattle.decide.specs.Decides.{Verdict, Yes, No, Spans, Reply, Contradiction, Answered}
use Rattle.decide.proofs.Derives.{Reads, Derives}
use Rattle.decide.proofs.Unique.{derives_one}
use Rattle.decide.specs.Answer.{answer}
use Rattle.decide.proofs.Decide.{answer_derives}

module _ (h : Held) (ms : List Mark) where
  abbrev k : Held
  k = with_marks h ms

  reads_stay : (q : Question) (v : Verdict) → Same h ms q → Reads h q v → Reads k q v
  reads_stay (Question.Holds x i) Yes s d = derived_stays h ms (Question.Holds x i) s.before d (statement_concerns h x i)
  reads_stay (Question.Holds x i) No s d = λ e. d (derived_stays k h.marks (Question.Holds x i) s.after e (statement_concerns k x i))
  reads_stay (Question.Holds x i) (Spans rs) s d = d
  reads_stay (Question.Spans a A) Yes s d = d
  reads_stay (Question.Spans a A) No s d = d
  reads_stay (Question.Spans a A) (Spans rs) s d =
      let q = Question.Spans a A in
      record {
        apart = d.apart;
        exact = λ i. (
          λ c. derived_stays h ms q s.before ((d.exact i).0 c) (asked_concerns h q a (Memᴰ.head refl)),
          λ e. (d.exact i).1 (derived_stays k h.marks q s.after e (asked_concerns k q a (Memᴰ.head refl))),
        );
      }

  derives_stay : (q : Question) (r : Reply) → Same h ms q → Derives h q r → Derives k q r
  derives_stay q (Contradiction a) s l = record {
    item = l.item;
    concerned = concerns_stays h ms q s.before a l.concerned;
    depth = l.depth;
    never = derived_stays h ms q s.before l.never l.concerned;
    lower = λ b i g c d. l.lower b i g (concerns_stays k h.marks q s.after b c) (derived_stays k h.marks q s.after d c);
  }
  derives_stay q (Answered v) s d = (
    λ n.
        d.0 (record {
          item = n.item;
          depth = n.depth;
          named = n.named;
          concerned = concerns_stays k h.marks q s.after n.item n.concerned;
          has = derived_stays k h.marks q s.after n.has n.concerned;
        }),
    reads_stay q v s d.1,
  )

  -- the reply is equal: answer, item and spans
  pub local : InRange h → InRange k → (q : Question) → Same h ms q → answer k q ≡ answer h q
  local R S q s = derives_one k q (answer k q) (answer h q) (answer_derives k S q) (derives_stay q (answer h q) s (answer_derives h R q))

  -- 02, Slip 7: as it is worded there
  pub locality : InRange h → InRange k → (q : Question) → Untouched h ms q → answer k q ≡ answer h q
  locality R S q u = local R S q (untouched_same h ms q u)

-- and so from the marks on the items concerned alone
pub alone_answer : (h : Held) → InRange h → (q : Question) → answer (with_marks h (marks_for h q)) q ≡ answer h q
alone_answer h R q = local h (marks_for h q) R (alone_range h R q) q (alone_same h R q)
