-- The span call is the record SPANS without bytes: its answers, refusals and lent memory are those of the record call. Assumes nothing.
use Rattle.std.specs.Prelude.{◌≡◌, refl, ◌↔◌, Bool, true, false, not, List, [], ◌∷◌, ℕ, T, length, Result, Ok, Err}
use Rattle.std.proofs.Common.{sym, ap, ◌∙◌, subst, arith}
use Rattle.codec.specs.Bytes.{bytes, little}
use Rattle.terms.specs.declared.Answer.{Answer}
use Rattle.terms.specs.declared.Question.{Question}
use Rattle.terms.specs.Tests.{true_of}
use Rattle.terms.specs.Held.{Held, is_question}
use Rattle.refusals.specs.Refusals.{Tested, test, tested}
use Rattle.refusals.proofs.Joining.{clash}
use Rattle.terms.specs.Otherwise.{on_tested}
use Rattle.block.specs.Block.{read_held, good}
use Rattle.records.specs.declared.Command.{Command}
use Rattle.records.specs.Parsed.{Parsed}
use Rattle.frames.specs.Frames.{lengths_of}
use Rattle.records.specs.Records.{body_tests, command_in, question_tests, decoded_as, parsed_body}
use Rattle.records.specs.Frame.{parse_record}
use Rattle.decide.specs.Decides.{Yes, No, Spans, Reply, Contradiction, Answered}
use Rattle.decide.specs.Answer.{answer}
use Rattle.commands.specs.Buffers.{Buffers, After, after, short}
use Rattle.commands.specs.Code.{replied_is}
use Rattle.commands.specs.Call.{lent_tests, judged, replied, effect, on_lent, call, span_call}
use Rattle.claims.proofs.Ascending.{same_number}
use Rattle.claims.proofs.Refused.{reply_accepts}
use Rattle.claims.specs.Table.{said_by}
use Rattle.claims.specs.Beside.{spans_record, unused, span_rows}
use Rattle.claims.specs.Memory.{Keeps}
use Rattle.claims.proofs.Total.{call_keeps}
use Rattle.claims.specs.Exact.{Holding, Asking, Exact}
use Rattle.claims.proofs.Exactly.{call_exact}

reply_unused : (h : Held) (m : Buffers) (u : ℕ) (r : Reply) → replied h m 0 r ≡ unused (replied h m u r)
reply_unused h m u (Contradiction a) = refl
reply_unused h m u (Answered Yes) = refl
reply_unused h m u (Answered No) = refl
reply_unused h m u (Answered (Spans rs)) = refl

-- a question judged without bytes, and with some
asked_unused :
    (h : Held) (m : Buffers) (b : List ℕ) (u : ℕ) (q : Question) (t : Tested) →
    effect h m (judged h (parsed_body (decoded_as t (Command.Ask q)) [] 0)) ≡ unused (effect h m (judged h (parsed_body (decoded_as t (Command.Ask q)) b u)))
asked_unused h m b u q (Ok passed) = reply_unused h m u (answer h q)
asked_unused h m b u q (Err n) = refl

lent_unused :
    (m : Buffers) (x y : After) → x ≡ unused y → (t : Tested) →
    on_tested x (λ n. after (Answer.Refused n) 0 m) t ≡ unused (on_tested y (λ n. after (Answer.Refused n) 0 m) t)
lent_unused m x y e (Ok passed) = e
lent_unused m x y e (Err n) = refl

-- so every theorem about the record call's refusals, lent memory and answers carries over
pub span_as_record : (m : Buffers) (a A : ℕ) → span_call m a A ≡ unused (call m (spans_record a A))
unfolding span_call call body_tests command_in lengths_of bytes
span_as_record m a A =
    lent_unused m (effect h m (judged h (parsed_body asked [] 0))) (effect h m (judged h (parsed_body asked body used)))
    (asked_unused h m body used q (tested (question_tests h.settings q))) (tested (lent_tests m))
    ∙ ap (λ (p : Parsed). unused (on_lent m (judged h p))) (sym (parse_record h.settings 12 body tt (omega arith) (omega arith)))
  where
    h : Held
    h = read_held m.block

    q : Question
    q = Question.Spans a A

    body : List ℕ
    body = a ∷ A ∷ []

    used : ℕ
    used = length (spans_record a A)

    asked : Result Command ℕ
    asked = decoded_as (tested (question_tests h.settings q)) (Command.Ask q)

-- so it keeps of lent memory what the record keeps
pub span_keeps : (m : Buffers) (a A : ℕ) → Keeps (span_call m a A).answer m (span_call m a A).buffers
span_keeps m a A = subst (λ (r : After). Keeps r.answer m r.buffers) (sym (span_as_record m a A)) (call_keeps m (spans_record a A))

-- ---- refusals 1, 2 and 6 and no other

pub span_refused : (m : Buffers) (a A n : ℕ) → ((span_call m a A).answer ≡ Answer.Refused n) ↔ (tested (span_rows m a A) ≡ Err n)
unfolding span_call
span_refused m a A n = go (short m) (good m.block) (is_question q)
  where
    h : Held
    h = read_held m.block

    q : Question
    q = Question.Spans a A

    said : Bool → Bool → Bool → After
    said p g v =
        on_tested (effect h m (judged h (parsed_body (decoded_as (tested (test (not v) 6 ∷ [])) (Command.Ask q)) [] 0))) (λ n. after (Answer.Refused n) 0 m)
        (tested (test p 1 ∷ test (not g) 2 ∷ []))

    same : {k : ℕ} → (◌≡◌ {A = Answer} (Answer.Refused k) (Answer.Refused n)) ↔ (◌≡◌ {A = Tested} (Err k) (Err n))
    same {k} = (λ e. let f : k ≡ n = cc in ap Err f, λ e. ap Answer.Refused (same_number e))

    go : (p g v : Bool) → ((said p g v).answer ≡ Answer.Refused n) ↔ (tested (test p 1 ∷ test (not g) 2 ∷ test (not v) 6 ∷ []) ≡ Err n)
    go true g v = same
    go false false v = same
    go false true false = same
    go false true true = (
      λ e. reply_accepts (answer h q) n (sym (ap (λ (x : After). x.answer) (replied_is h m 0 (answer h q))) ∙ e),
      λ e. clash e,
    )

-- ---- demand 2 of the span call

-- with enough lent, a good block and names that there are, it is the record's call
pub span_asks :
    (m : Buffers) (a A : ℕ) (h : Held) → short m ≡ false → Holding m.block h → T (is_question (Question.Spans a A)) →
    Asking m (spans_record a A) h (Question.Spans a A)
unfolding bytes little said_by lengths_of
span_asks m a A h e H t = record {
  block = H;
  accepted = record { passes = rw (e, true_of (is_question (Question.Spans a A)) t); left = omega arith; says = refl };
}

pub span_exact :
    (m : Buffers) (a A : ℕ) (h : Held) → short m ≡ false → Holding m.block h → T (is_question (Question.Spans a A)) →
    Exact h (Question.Spans a A) (span_call m a A)
span_exact m a A h e H t =
    let x = call_exact m (spans_record a A) h (Question.Spans a A) (span_asks m a A h e H t) in
    subst (λ (r : After). Exact h (Question.Spans a A) r) (sym (span_as_record m a A)) (record {
      lowest = x.lowest;
      some_never = x.some_never;
      none_satisfies = x.none_satisfies;
      by_model = x.by_model;
      by_interpretations = x.by_interpretations;
      number = x.number;
      count = x.count;
      few = x.few;
      pieces = x.pieces;
      tables = x.tables;
    })
