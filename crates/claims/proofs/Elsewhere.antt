-- 02, Slip 7, of the calls that ask: with all but marks the same, marks on items that are joined to the question's neither before nor after alter no
-- answer. Assumes nothing.
use Rattle.std.specs.Prelude.{◌≡◌, refl, Bool, true, false, cond, List, [], ◌∷◌, ℕ, ◌+◌, ◌*◌, T, eqb, length, take, drop, Ok}
use Rattle.std.proofs.Common.{sym, ap, ◌∙◌, subst, take_at}
use Rattle.terms.specs.declared.Answer.{Answer}
use Rattle.terms.specs.declared.Mark.{Mark}
use Rattle.terms.specs.declared.Question.{Question}
use Rattle.terms.specs.Held.{Held, with_marks, is_question}
use Rattle.terms.proofs.Limited.{limited, in_range}
use Rattle.terms.specs.Pairs.{pairs_of}
use Rattle.terms.specs.Spans.{flat}
use Rattle.terms.specs.Tests.{differ}
use Rattle.spans.proofs.Longest.{flat_length}
use Rattle.refusals.specs.Refusals.{test, tested}
use Rattle.frames.specs.Frames.{kind_field, length_field, body_of}
use Rattle.decide.specs.Decides.{Yes, No, Spans, Reply, Contradiction, Answered}
use Rattle.decide.specs.Answer.{answer}
use Rattle.logic.specs.Untouched.{Untouched}
use Rattle.decide.proofs.Local.{locality}
use Rattle.commands.specs.Buffers.{Buffers, After, short}
use Rattle.commands.specs.Call.{replied, call, span_call}
use Rattle.claims.specs.Table.{Asks, said, broken_frame, unknown_kind, wrong_length, said_rows, input_rows, table}
use Rattle.claims.specs.Tells.{Tells_same}
use Rattle.claims.specs.Beside.{spans_record, unused}
use Rattle.claims.specs.Exact.{Holding, Asking}
use Rattle.claims.proofs.Exactly.{asked_call}
use Rattle.claims.proofs.SpanRecord.{span_asks, span_as_record}

-- a reply tells the same whatever is held and lent
replied_same : (h k : Held) (m n : Buffers) (u v : ℕ) (r : Reply) → Tells_same (replied h m u r) (replied k n v r)
replied_same h k m n u v (Contradiction a) = record { answer = refl; spans = λ l e. differ (cc) }
replied_same h k m n u v (Answered Yes) = record { answer = refl; spans = λ l e. differ (cc) }
replied_same h k m n u v (Answered No) = record { answer = refl; spans = λ l e. differ (cc) }
replied_same h k m n u v (Answered (Spans rs)) = record { answer = refl; spans = λ l e. written l (let f : length rs ≡ l = cc in f) }
  where
    written : (l : ℕ) → length rs ≡ l →
        take (2 * l) (replied h m u (Answered (Spans rs))).buffers.spans ≡ take (2 * l) (replied k n v (Answered (Spans rs))).buffers.spans
    written l f =
        let e = flat_length rs ∙ ap (λ x. 2 * x) f in
        take_at (flat rs) (drop (length (flat rs)) m.spans) (2 * l) e ∙ sym (take_at (flat rs) (drop (length (flat rs)) n.spans) (2 * l) e)

-- two that tell the same write the same pairs
pub tells_pairs : (r k : After) → Tells_same r k → pairs_of r.answer r.buffers.spans ≡ pairs_of k.answer k.buffers.spans
tells_pairs r k t = go r.answer refl ∙ ap (λ (a : Answer). pairs_of a k.buffers.spans) t.answer
  where
    go : (a : Answer) → r.answer ≡ a → pairs_of a r.buffers.spans ≡ pairs_of a k.buffers.spans
    go Answer.Done e = refl
    go Answer.Yes e = refl
    go Answer.No e = refl
    go (Answer.Contradiction item) e = refl
    go (Answer.Spans n) e = t.spans n e
    go Answer.End e = refl
    go (Answer.Refused n) e = refl

-- the rows of a record that asks look at no mark
asking_rows : (h : Held) (ms : List Mark) (s : List ℕ) (q : Question) → said s ≡ Asks q → input_rows (with_marks h ms) s ≡ input_rows h s
asking_rows h ms s q e =
    ap (λ rs. cond (eqb (length s) 0) [] (test (broken_frame s) 3 ∷ test (unknown_kind s) 4 ∷ test (wrong_length s) 5 ∷ rs))
    (ap (said_rows (with_marks h ms) (kind_field s) (body_of s)) e ∙ sym (ap (said_rows h (kind_field s) (body_of s)) e))

module _ (h : Held) (ms : List Mark) (m n : Buffers) where
  -- whether a question is accepted does not go by the marks
  pub asked_elsewhere : (s : List ℕ) (q : Question) → Asking m s h q → short n ≡ false → Holding n.block (with_marks h ms) → Asking n s (with_marks h ms) q
  asked_elsewhere s q a e H = record {
    block = H;
    accepted = record {
      passes =
          ap (λ v. tested (table v false (with_marks h ms) s)) e
          ∙ (ap (λ rs. tested (test false 1 ∷ test false 2 ∷ rs)) (asking_rows h ms s q a.accepted.says) ∙ enough (short m) a.accepted.passes);
      left = a.accepted.left;
      says = a.accepted.says;
    };
  }
    where
      enough : (v : Bool) → tested (table v false h s) ≡ Ok tt → tested (table false false h s) ≡ Ok tt
      enough true p = differ (cc)
      enough false p = p

  -- of the record call, whatever else is lent and follows in the input
  pub call_elsewhere : (s t : List ℕ) (q : Question) → Asking m s h q → Asking n t (with_marks h ms) q → Untouched h ms q → Tells_same (call m s) (call n t)
  call_elsewhere s t q a b u =
      let R = in_range h (limited h a.block.within) in
      let S = in_range (with_marks h ms) (limited (with_marks h ms) b.block.within) in
      subst (λ (r : After). Tells_same r (call n t)) (sym (asked_call m s h q a))
      (subst (λ (r : After). Tells_same (replied h m (length_field s + 2) (answer h q)) r)
      (sym (asked_call n t (with_marks h ms) q b ∙ ap (replied (with_marks h ms) n (length_field t + 2)) (locality h ms R S q u)))
      (replied_same h (with_marks h ms) m n (length_field s + 2) (length_field t + 2) (answer h q)))

  -- of the span call
  pub span_elsewhere :
      (a A : ℕ) → short m ≡ false → Holding m.block h → short n ≡ false → Holding n.block (with_marks h ms) → T (is_question (Question.Spans a A)) →
      Untouched h ms (Question.Spans a A) → Tells_same (span_call m a A) (span_call n a A)
  span_elsewhere a A e H f K t u =
      let w = call_elsewhere (spans_record a A) (spans_record a A) (Question.Spans a A) (span_asks m a A h e H t) (span_asks n a A (with_marks h ms) f K t) u in
      subst (λ (r : After). Tells_same r (span_call n a A)) (sym (span_as_record m a A))
      (subst (λ (r : After). Tells_same (unused (call m (spans_record a A))) r) (sym (span_as_record n a A)) (record { answer = w.answer; spans = w.spans }))
