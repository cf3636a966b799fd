-- 01, State and tables, in its own words: what a call leaves, by what the record is and not by what is answered. Assumes nothing.
use Rattle.std.specs.Prelude.{◌≡◌, refl, List, ℕ, ℤ, Ok, Err}
use Rattle.std.proofs.Common.{sym, ◌∙◌, inl, inr, ⊎_elim}
use Rattle.terms.specs.declared.Answer.{Answer}
use Rattle.terms.specs.declared.Atom.{Atom}
use Rattle.terms.specs.declared.Question.{Question}
use Rattle.terms.specs.Tests.{differ}
use Rattle.terms.specs.Held.{Held}
use Rattle.refusals.specs.Refusals.{Tested, tested}
use Rattle.block.specs.Block.{read_held}
use Rattle.commands.specs.Buffers.{Buffers}
use Rattle.commands.specs.Call.{call}
use Rattle.claims.specs.Table.{rows}
use Rattle.claims.specs.Memory.{Keeps}
use Rattle.claims.specs.Exact.{Asking, Contradicts}
use Rattle.claims.proofs.Refused.{refused_exactly}
use Rattle.claims.proofs.Total.{call_keeps}
use Rattle.claims.proofs.Exactly.{call_exact}
use Rattle.claims.proofs.OneCall.{call_steps}
use Rattle.claims.proofs.Determined.{not_told, not_spanned}
use Rattle.claims.proofs.OneReply.{Quiet, quiet_tables, by_step, passed_holds}

-- kinds 10 to 12 leave the block unchanged
pub asked_block : (m : Buffers) (s : List ℕ) (h : Held) (q : Question) → Asking m s h q → (call m s).buffers.block ≡ m.block
asked_block m s h (Question.Holds x i) a =
    (call_keeps m s).block (λ e. not_told h (call m s) x i (call_exact m s h (Question.Holds x i) a) Answer.Done tt e)
asked_block m s h (Question.Spans b A) a =
    (call_keeps m s).block (λ e. not_spanned h (call m s) b A (call_exact m s h (Question.Spans b A) a) Answer.Done tt e)

-- of them only kind 12 writes the span buffer
pub told_spans : (m : Buffers) (s : List ℕ) (h : Held) (x : Atom) (i : ℤ) → Asking m s h (Question.Holds x i) → (call m s).buffers.spans ≡ m.spans
told_spans m s h x i a = (call_keeps m s).spans (λ n e. not_told h (call m s) x i (call_exact m s h (Question.Holds x i) a) (Answer.Spans n) tt e)

-- and not on contradiction
pub contradiction_spans : (m : Buffers) (s : List ℕ) → Contradicts (call m s) → (call m s).buffers.spans ≡ m.spans
contradiction_spans m s w = (call_keeps m s).spans (λ n e. let g = sym w.1 ∙ e in differ (cc))

-- ---- other kinds and end

quiet_spans : (a : Answer) (m x : Buffers) → Keeps a m x → Quiet a → x.spans ≡ m.spans
quiet_spans a m x K (inl e) = K.spans (λ n f. let g = sym e ∙ f in differ (cc))
quiet_spans a m x K (inr (inl e)) = K.spans (λ n f. let g = sym e ∙ f in differ (cc))
quiet_spans a m x K (inr (inr w)) = K.spans (λ n f. let g = sym w.1 ∙ f in differ (cc))

-- other kinds and end leave the tables unchanged, and the span buffer
pub unasked_keeps :
    (m : Buffers) (s : List ℕ) → ((h : Held) (q : Question) → Asking m s h q → ⊥) →
    ((call m s).buffers.labels ≡ m.labels) × ((call m s).buffers.links ≡ m.links) × ((call m s).buffers.spans ≡ m.spans)
unasked_keeps m s none = go (tested (rows m s)) refl
  where
    quiet : Quiet (call m s).answer →
        ((call m s).buffers.labels ≡ m.labels) × ((call m s).buffers.links ≡ m.links) × ((call m s).buffers.spans ≡ m.spans)
    quiet z =
        let w = quiet_tables (call m s).answer m (call m s).buffers (call_keeps m s) z in
        (w.0, w.1, quiet_spans (call m s).answer m (call m s).buffers (call_keeps m s) z)

    go : (t : Tested) → tested (rows m s) ≡ t →
        ((call m s).buffers.labels ≡ m.labels) × ((call m s).buffers.links ≡ m.links) × ((call m s).buffers.spans ≡ m.spans)
    go (Err n) e = quiet (inr (inr (n, (refused_exactly m s n).1 e)))
    go (Ok passed) e =
        let H = passed_holds m s e in
        ⊎_elim quiet (λ w. absurd (none (read_held m.block) w.0 (record { block = H; accepted = w.1 })))
        (by_step (call_steps (read_held m.block) m H s).1)
