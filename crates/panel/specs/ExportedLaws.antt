-- The exported calls over those of the service: no bytes beside the records, names as numbers. Assumes nothing.
use Rattle.std.specs.Prelude.{◌≡◌, refl, Bool, true, false, not, cond, ◌&&◌, [], ◌∷◌, ℕ, ◌≤◌, ltb, Result, Err}
use Rattle.std.proofs.Common.{sym, ap, ◌∙◌, arith, le-ltb, ltb-false}
use Rattle.terms.specs.declared.Answer.{Answer}
use Rattle.terms.specs.declared.Question.{Question}
use Rattle.terms.specs.declared.Settings.{Settings}
use Rattle.terms.specs.Limits.{ITEMS, LABELS, is_item, is_label}
use Rattle.refusals.specs.Refusals.{test, tested}
use Rattle.terms.specs.Held.{Held, is_question}
use Rattle.block.specs.Block.{read_held}
use Rattle.records.specs.declared.Command.{Command}
use Rattle.records.specs.Records.{decoded_as, as_question, parsed_body}
use Rattle.commands.specs.Call.{judged, on_lent, span_call}
use Rattle.commands.specs.Buffers.{Buffers, After, after}
use Rattle.claims.proofs.SpanRecord.{span_as_record}
use Rattle.charges.specs.declared.Charge.{Charge}
use Rattle.charges.specs.Charges.{total_or}
use Rattle.service.specs.Tables.{Tables, AfterCharge, after_charge}
use Rattle.panel.specs.Exported.{exported, packed, returned, packed_charge, returned_charge, exported_charge}

-- an answer packed, beside what the call leaves
pub packs : {r u : ℕ} {m : Buffers} (a : Answer) (x : After) → r ≡ packed a → after a u m ≡ x → returned r u m ≡ exported x
packs {u = u} {m = m} a x p e = ap (λ n. returned n u m) p ∙ ap exported e

-- ---- the call beside the records uses no bytes

span_bytes : (m : Buffers) (a A : ℕ) → (span_call m a A).used ≡ 0
span_bytes m a A = ap (λ (r : After). r.used) (span_as_record m a A)

-- ---- names as numbers

-- a number as a byte, 255 for those that are none
abbrev pub clamped : ℕ → ℕ
clamped n = cond (ltb n 256) n 255

-- 01, Where a record is turned away: body
not_named : (σ : Settings) (q : Question) → is_question q ≡ false → as_question σ q ≡ Err 6
not_named σ q e = ap (λ v. decoded_as (tested (test (not v) 6 ∷ [])) (Command.Ask q)) e

no_label : (σ : Settings) (a A : ℕ) → LABELS ≤ A → as_question σ (Question.Spans a A) ≡ Err 6
no_label σ a A l = not_named σ (Question.Spans a A) (ap (λ v. is_item a && v) (le-ltb A LABELS l) ∙ none (is_item a))
  where
    none : (v : Bool) → (v && false) ≡ false
    none true = refl
    none false = refl

no_item : (σ : Settings) (a A : ℕ) → ITEMS ≤ a → as_question σ (Question.Spans a A) ≡ Err 6
no_item σ a A l = not_named σ (Question.Spans a A) (ap (λ v. v && is_label A) (le-ltb a ITEMS l))

-- a number that no byte holds and 255 are refused alike
pub spans_clamped : (m : Buffers) (a A : ℕ) → span_call m (clamped a) (clamped A) ≡ span_call m a A
unfolding span_call
spans_clamped m a A = ap (λ (x : Result Command ℕ). on_lent m (judged h (parsed_body x [] 0))) (go (ltb a 256) (ltb A 256) refl refl)
  where
    h : Held
    h = read_held m.block

    σ : Settings
    σ = h.settings

    go :
        (u v : Bool) → ltb a 256 ≡ u → ltb A 256 ≡ v →
        as_question σ (Question.Spans (cond u a 255) (cond v A 255)) ≡ as_question σ (Question.Spans a A)
    go true true e f = refl
    go true false e f = let l : 256 ≤ A = ltb-false A 256 f in no_label σ a 255 (omega arith) ∙ sym (no_label σ a A (omega arith))
    go false v e f = let l : 256 ≤ a = ltb-false a 256 e in no_item σ 255 (cond v A 255) (omega arith) ∙ sym (no_item σ a A (omega arith))

-- the service's call with clamped names, packed
pub span_packs :
    {r u : ℕ} {m' : Buffers} (m : Buffers) (a A : ℕ) (x : Answer) → r ≡ packed x → after x u m' ≡ span_call m (clamped a) (clamped A) →
    returned r 0 m' ≡ exported (span_call m a A)
span_packs {r = r} {u = u} {m' = m'} m a A x p e =
    let w : after x u m' ≡ span_call m a A = e ∙ spans_clamped m a A in
    ap (λ n. returned r n m') (sym (ap (λ (y : After). y.used) w ∙ span_bytes m a A)) ∙ packs x _ p w

-- ---- a charge

-- a charge packed, beside the total and what the call leaves
pub charge_packs : {r t : ℕ} {m : Tables} (before : ℕ) (c : Charge) (x : AfterCharge) → r ≡ packed_charge c → t ≡ total_or before c → after_charge c m ≡ x →
    returned_charge r t m ≡ exported_charge before x
charge_packs {m = m} before c x p q e = (λ i. returned_charge (p i) (q i) m) ∙ ap (exported_charge before) e
