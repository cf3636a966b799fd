-- Of the calls that ask: no or contradiction where nothing is derived, and spans with derived ends; so for 02, Slip 5, no or contradiction outside the
-- hole, and spans with ends in the hole alone. Assumes nothing.
use Rattle.std.specs.Prelude.{◌≡◌, refl, ◌⊎◌, List, [], ◌∷◌, ℕ, ◌+◌, ◌*◌, T, ℤ, ◌<ℤ◌, take}
use Rattle.std.proofs.Common.{sym, ap, ◌∙◌, subst, ⊎_elim, inl, inr}
use mathlib.Core.List.Memᴰ
use Rattle.terms.specs.declared.Answer.TheVariants as Answer
use Rattle.terms.specs.declared.Atom.{Atom}
use Rattle.terms.specs.declared.Atom.TheVariants.{Has}
use Rattle.terms.specs.declared.Hole.TheVariants.{Part}
use Rattle.terms.specs.declared.Question.TheVariants as Question
use Rattle.terms.specs.Order.{ints}
use Rattle.terms.specs.Limits.{NO_TOP, NO_BOTTOM}
use Rattle.terms.specs.Holes.{InHole, is_hole}
use Rattle.terms.specs.HoleLaws.{part_ends, good_part}
use Rattle.terms.specs.Held.{◌∈◌, Held, hole_in}
use Rattle.logic.proofs.Inside.{derived_inside}
use Rattle.logic.specs.Depths.{Derived}
use Rattle.terms.specs.Spans.{Run, flat}
use Rattle.terms.proofs.Limited.{limited, in_range}
use Rattle.spans.proofs.Longest.{run_ends}
use Rattle.frames.specs.Frames.{length_field}
use Rattle.decide.proofs.Decide.{underived_no}
use Rattle.decide.specs.Answer.{answer}
use Rattle.decide.specs.Verdicts.{answer_of}
use Rattle.commands.specs.Buffers.{Buffers, After}
use Rattle.commands.specs.Call.{call}
use Rattle.commands.specs.Code.{replied_is}
use Rattle.claims.specs.Exact.{Asking, EndsIn, EndsInside, Contradicts, Exact}
use Rattle.claims.proofs.Exactly.{asked_call, call_exact}

-- a question for what is not derived is answered no, or contradiction
pub underived_answered :
    (m : Buffers) (s : List ℕ) (h : Held) (x : Atom) (i : ℤ) → Asking m s h (Question.Holds x i) → (Derived h x i → ⊥) →
    ((call m s).answer ≡ Answer.No) ⊎ Contradicts (call m s)
underived_answered m s h x i a o =
    let q = Question.Holds x i in
    let said = ap (λ (r : After). r.answer) (asked_call m s h q a ∙ replied_is h m (length_field s + 2) (answer h q)) in
    ⊎_elim
    (λ e. inl (said ∙ ap answer_of e))
    (λ w. inr (w.0, said ∙ ap answer_of w.1))
    (underived_no h (in_range h (limited h a.block.within)) x i o)

-- so is one at a depth outside the hole
pub outside_answered :
    (m : Buffers) (s : List ℕ) (h : Held) (x : Atom) (i : ℤ) → Asking m s h (Question.Holds x i) → (InHole (hole_in h) i → ⊥) →
    ((call m s).answer ≡ Answer.No) ⊎ Contradicts (call m s)
outside_answered m s h x i a o = underived_answered m s h x i a (λ d. o (derived_inside h d))

-- a number of the pairs is an end of a run
flat_in : (rs : List Run) (i : ℤ) → i ∈ flat rs → (r : Run) × (r ∈ rs) × ((i ≡ r.top) ⊎ (i ≡ r.bottom))
unfolding flat
flat_in [] i m = absurd (Memᴰ.not-nil m)
flat_in (r ∷ rs) i m =
    ⊎_elim (λ e. (r, Memᴰ.head refl, inl e))
    (λ n.
    ⊎_elim (λ e. (r, Memᴰ.head refl, inr e)) (λ o. let w = flat_in rs i o in (w.0, Memᴰ.tail w.1, w.2)) (Memᴰ.cases_cons n))
    (Memᴰ.cases_cons m)

-- both ends of each pair of an exact reply are derived
pub ends_derived : (h : Held) (a A n : ℕ) (r : After) → Exact h (Question.Spans a A) r → r.answer ≡ Answer.Spans n →
    EndsIn (Derived h (Has a A)) n r.buffers.spans
ends_derived h a A n r x e i o =
    let w = x.by_model.1 n e in
    let (s, u, d) = flat_in w.runs i (subst (λ l. i ∈ l) w.written o) in
    let v = run_ends (Derived h (Has a A)) w.runs w.longest s u in
    ⊎_elim (λ c. subst (Derived h (Has a A)) (sym c) v.0) (λ c. subst (Derived h (Has a A)) (sym c) v.1) d

-- so both ends of each pair that is written lie in the hole
pub spans_answered :
    (m : Buffers) (s : List ℕ) (h : Held) (a A n : ℕ) → Asking m s h (Question.Spans a A) → (call m s).answer ≡ Answer.Spans n →
    EndsInside (hole_in h) n (call m s).buffers.spans
spans_answered m s h a A n k e i o = derived_inside h (ends_derived h a A n (call m s) (call_exact m s h (Question.Spans a A) k) e i o)

-- so in a hole no number of them means no end: its ends lie where marks lie
pub spans_ended :
    (m : Buffers) (s : List ℕ) (h : Held) (a A n : ℕ) (t b : ℤ) → Asking m s h (Question.Spans a A) → (call m s).answer ≡ Answer.Spans n →
    hole_in h ≡ Part t b → (i : ℤ) → i ∈ take (2 * n) (call m s).buffers.spans → (NO_TOP <ℤ i) × (i <ℤ NO_BOTTOM)
spans_ended m s h a A n t b k e f i o =
    let w = part_ends t b i (subst (λ H. InHole H i) f (spans_answered m s h a A n k e i o)) in
    let g = good_part t b (subst (λ H. T (is_hole H)) f (in_range h (limited h k.block.within)).hole) in
    (omega (ints, w.0, g.top_low), omega (ints, w.1, g.bottom_high))
