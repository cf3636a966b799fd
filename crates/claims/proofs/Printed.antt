-- 02, Slip 10, of the calls that ask, where all held rules are in the print profile: above the shallowest and below the deepest marked depth no or
-- contradiction, spans within, and nothing at all without marks; for each label but EVERY and each link. Assumes nothing.
use Rattle.std.specs.Prelude.{◌≡◌, refl, ◌⊎◌, false, not, List, [], ◌∷◌, ℕ, ◌*◌, T, ℤ, ◌≤ℤ◌, ◌<ℤ◌, length, take}
use Rattle.std.proofs.Common.{sym, ap, ◌∙◌, subst}
use mathlib.Core.List.Memᴰ
use Rattle.std.specs.Int.Signed.{le_z, le_z_yes}
use Rattle.terms.specs.declared.Answer.TheVariants as Answer
use Rattle.terms.specs.declared.Atom.{Atom}
use Rattle.terms.specs.declared.Atom.TheVariants.{Has}
use Rattle.terms.specs.declared.Mark.{Mark}
use Rattle.terms.specs.declared.Profile.TheVariants.{On}
use Rattle.terms.specs.declared.Question.{Question}
use Rattle.terms.specs.Order.{ints}
use Rattle.terms.specs.Tests.{and_both}
use Rattle.terms.specs.Limits.{SHALLOWEST, DEEPEST, NO_TOP, NO_BOTTOM, NEVER}
use Rattle.terms.specs.Profiles.{is_every}
use Rattle.terms.specs.Held.{◌∈◌, Held, profile_in, is_question}
use Rattle.terms.proofs.Ends.{ends_placed}
use Rattle.terms.specs.Lists.{limits}
use Rattle.terms.specs.Spans.{Run, Longest}
use Rattle.terms.proofs.Limited.{limited, in_range}
use Rattle.logic.specs.Depths.{Derived}
use Rattle.logic.specs.Printed.{Profiled, says_every, WithinMarks}
use Rattle.logic.proofs.PrintedLaws.{derived_within, no_mark_within, on_profiled}
use Rattle.spans.proofs.Longest.{run_ends}
use Rattle.decide.specs.Decides.{Never}
use Rattle.commands.specs.Buffers.{Buffers, After, short}
use Rattle.commands.specs.Call.{call, span_call}
use Rattle.claims.specs.Exact.{Holding, Asking, EndsWithin, Contradicts, Exact}
use Rattle.claims.proofs.Exactly.{call_exact}
use Rattle.claims.proofs.Outside.{underived_answered, ends_derived}
use Rattle.claims.proofs.SpanRecord.{span_exact}

-- while the profile is on each good block holds rules in it alone
pub on_holds : (b : List ℕ) (h : Held) → Holding b h → profile_in h ≡ On → Profiled h
on_holds b h H e = on_profiled h (limited h H.within) e

-- a question for another label or a link, above the shallowest or below the deepest marked depth, is answered no, or contradiction
pub beyond_answered :
    (m : Buffers) (s : List ℕ) (h : Held) (x : Atom) (i : ℤ) → Asking m s h (Question.Holds x i) → Profiled h → T (not (says_every x)) →
    (WithinMarks h.marks i → ⊥) → ((call m s).answer ≡ Answer.No) ⊎ Contradicts (call m s)
beyond_answered m s h x i a p t o = underived_answered m s h x i a (λ d. o (derived_within h p d t))

-- no number of the pairs of another label lies beyond, of any exact reply
pub spans_within :
    (h : Held) (a A n : ℕ) (r : After) → Exact h (Question.Spans a A) r → Profiled h → T (not (is_every A)) → r.answer ≡ Answer.Spans n →
    EndsWithin h.marks n r.buffers.spans
spans_within h a A n r x p t e i o = derived_within h p (ends_derived h a A n r x e i o) t

-- so of the record SPANS and of the span call
pub call_within :
    (m : Buffers) (s : List ℕ) (h : Held) (a A n : ℕ) → Asking m s h (Question.Spans a A) → Profiled h → T (not (is_every A)) →
    (call m s).answer ≡ Answer.Spans n → EndsWithin h.marks n (call m s).buffers.spans
call_within m s h a A n k p t e = spans_within h a A n (call m s) (call_exact m s h (Question.Spans a A) k) p t e

pub span_call_within :
    (m : Buffers) (a A : ℕ) (h : Held) (n : ℕ) → short m ≡ false → Holding m.block h → T (is_question (Question.Spans a A)) → Profiled h →
    T (not (is_every A)) → (span_call m a A).answer ≡ Answer.Spans n → EndsWithin h.marks n (span_call m a A).buffers.spans
span_call_within m a A h n l H q p t e = spans_within h a A n (span_call m a A) (span_exact m a A h l H q) p t e

-- and none means no end, since marked depths lie where marks lie
pub spans_bounded :
    (h : Held) → T (limits h) → (a A n : ℕ) (r : After) → Exact h (Question.Spans a A) r → Profiled h → T (not (is_every A)) → r.answer ≡ Answer.Spans n →
    (i : ℤ) → i ∈ take (2 * n) r.buffers.spans → (NO_TOP <ℤ i) × (i <ℤ NO_BOTTOM)
spans_bounded h l a A n r x p t e i o =
    let w : WithinMarks h.marks i = spans_within h a A n r x p t e i o in
    let R = in_range h (limited h l) in
    let top = and_both (le_z SHALLOWEST w.top) (le_z w.top DEEPEST) (ends_placed h.marks R.marks w.top w.top_marked) in
    let bottom = and_both (le_z SHALLOWEST w.bottom) (le_z w.bottom DEEPEST) (ends_placed h.marks R.marks w.bottom w.bottom_marked) in
    let low : SHALLOWEST ≤ℤ w.top = le_z_yes top.0 in
    let high : w.bottom ≤ℤ DEEPEST = le_z_yes bottom.1 in
    (omega (ints, w.above), omega (ints, w.below))

-- ---- without marks

module _ (h : Held) (p : Profiled h) (none : h.marks ≡ []) where
  underived : (x : Atom) (i : ℤ) → T (not (says_every x)) → Derived h x i → ⊥
  underived x i t d = no_mark_within i (subst (λ (ms : List Mark). WithinMarks ms i) none (derived_within h p d t))

  clear : (q : Question) → Never h q → ⊥
  clear q w = underived (Has w.item NEVER) w.depth tt w.has

  -- a question for another label or a link is answered no, by any exact reply
  unmarked_no : (x : Atom) (i : ℤ) (r : After) → Exact h (Question.Holds x i) r → T (not (says_every x)) → r.answer ≡ Answer.No
  unmarked_no x i r X t = X.by_model.1.1 (clear (Question.Holds x i), underived x i t)

  -- and another label has no spans
  unmarked_spans : (a A : ℕ) (r : After) → Exact h (Question.Spans a A) r → T (not (is_every A)) → r.answer ≡ Answer.Spans 0
  unmarked_spans a A r X t =
      let (n, e) = X.by_model.0.1 (clear (Question.Spans a A)) in
      let w = X.by_model.1 n e in
      e ∙ ap Answer.Spans (sym w.number ∙ empty w.runs w.longest)
    where
      empty : (rs : List Run) → Longest (Derived h (Has a A)) rs → length rs ≡ 0
      empty [] L = refl
      empty (s ∷ rs) L = absurd (underived (Has a A) s.top t (run_ends (Derived h (Has a A)) (s ∷ rs) L s (Memᴰ.head refl)).0)

  -- so by the record call, and by the span call
  pub unmarked_answered :
      (m : Buffers) (s : List ℕ) (x : Atom) (i : ℤ) → Asking m s h (Question.Holds x i) → T (not (says_every x)) → (call m s).answer ≡ Answer.No
  unmarked_answered m s x i k t = unmarked_no x i (call m s) (call_exact m s h (Question.Holds x i) k) t

  pub unmarked_call : (m : Buffers) (s : List ℕ) (a A : ℕ) → Asking m s h (Question.Spans a A) → T (not (is_every A)) → (call m s).answer ≡ Answer.Spans 0
  unmarked_call m s a A k t = unmarked_spans a A (call m s) (call_exact m s h (Question.Spans a A) k) t

  pub unmarked_span_call :
      (m : Buffers) (a A : ℕ) → short m ≡ false → Holding m.block h → T (is_question (Question.Spans a A)) → T (not (is_every A)) →
      (span_call m a A).answer ≡ Answer.Spans 0
  unmarked_span_call m a A l H q t = unmarked_spans a A (span_call m a A) (span_exact m a A h l H q) t
