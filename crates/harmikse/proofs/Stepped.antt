-- One record of the run, from the equation that the record call gives. Assumes nothing.
use mathlib.Core.Path.{◌≡◌, refl, sym, ap, ◌∙◌, subst}
use mathlib.Core.Bool.{Bool, true, false, not, ◌&&◌, cond, true≢false}
use mathlib.Core.List.{List}
use Prim.Native.Nat.{ℕ, suc, ◌+◌, ◌-◌, ◌≤◌, ◌<◌}
use native.Mathlib.Omega.{arith}
use native.Mathlib.Numerals.{add-one}
use borrow.Author.Tests.{eqb-true, not-false}
use lib.Dec.{eqb}
use lib.IntN.{pos}
use lib.ListN.{length, drop, replicate, length-drop}
use lib.Seq.{drop-drop}
use Rattle.terms.specs.declared.Answer.{Answer}
use Rattle.terms.specs.Tests.{of_true}
use Rattle.terms.specs.Pairs.{pair_count}
use Rattle.terms.specs.Limits.{LABEL_ENTRIES, LINK_ENTRIES, SPAN_NUMBERS}
use Rattle.places.specs.Layout.{zeros, SIZE}
use Rattle.commands.specs.Call.{call}
use Rattle.commands.specs.Buffers.{Buffers, lent, After, after}
use Rattle.lines.specs.Lines.{line_text}
use Rattle.harmikse.specs.Program.{LIMIT, fresh, goes_on, begun, handled, Prints, line_of, Whole, at_end, at_refusal_3}
use Rattle.harmikse.specs.Code.{is_end, On, Runs}
use Rattle.harmikse.specs.Uses.{Within}
use Rattle.harmikse.specs.Reached.{reached_uses, pairs_fit}

-- what the tests of an answer tell
pub is_end_lem : (a : Answer) → is_end a ≡ true → a ≡ Answer.End
is_end_lem Answer.Done e = absurd (true≢false (sym e))
is_end_lem Answer.Yes e = absurd (true≢false (sym e))
is_end_lem Answer.No e = absurd (true≢false (sym e))
is_end_lem (Answer.Contradiction n) e = absurd (true≢false (sym e))
is_end_lem (Answer.Spans n) e = absurd (true≢false (sym e))
is_end_lem Answer.End e = refl
is_end_lem (Answer.Refused n) e = absurd (true≢false (sym e))

pub not_end : (a : Answer) → is_end a ≡ false → a ≡ Answer.End → ⊥
not_end a e f = true≢false (sym (ap is_end f) ∙ e)

-- what stops the run and is not end is refusal 3
pub is_refusal_3 : (a : Answer) → is_end a ≡ false → goes_on a ≡ false → a ≡ Answer.Refused 3
is_refusal_3 Answer.Done e f = absurd (true≢false f)
is_refusal_3 Answer.Yes e f = absurd (true≢false f)
is_refusal_3 Answer.No e f = absurd (true≢false f)
is_refusal_3 (Answer.Contradiction n) e f = absurd (true≢false f)
is_refusal_3 (Answer.Spans n) e f = absurd (true≢false f)
is_refusal_3 Answer.End e f = absurd (true≢false e)
is_refusal_3 (Answer.Refused n) e f = ap Answer.Refused (eqb-true n 3 (not-false (eqb n 3) f))

-- what is lent at first, as the arrays that it is
fresh_is : fresh ≡ lent (replicate SIZE 0) (replicate LABEL_ENTRIES 0) (replicate LINK_ENTRIES 0) (replicate SPAN_NUMBERS (pos 0))
unfolding fresh zeros
fresh_is = refl

-- the first record
pub begins :
    (input : List ℕ) →
    Runs input (lent (replicate SIZE 0) (replicate LABEL_ENTRIES 0) (replicate LINK_ENTRIES 0) (replicate SPAN_NUMBERS (pos 0)))
    (record { at = 0; printed = 0; going = true; failed = false })
begins input =
    subst (λ m. Runs input m (record { at = 0; printed = 0; going = true; failed = false })) fresh_is
    (record {
      on = λ e. record { reached = begun; place = omega arith; few = omega arith };
      whole = λ e f. absurd (true≢false e);
    })

-- the record at a place, and what the call answered, used and left
module _
    {input : List ℕ} {m k : Buffers} {n at : ℕ} (on : On input m n at) (fits : length input ≤ LIMIT)
    {a : Answer} {u : ℕ} (said : after a u k ≡ call m (drop at input)) where
  answered : a ≡ (call m (drop at input)).answer
  answered = ap (λ (x : After). x.answer) said

  used : u ≡ (call m (drop at input)).used
  used = ap (λ (x : After). x.used) said

  left : k ≡ (call m (drop at input)).buffers
  left = ap (λ (x : After). x.buffers) said

  pub few_pairs : pair_count a ≤ 97
  few_pairs = rw answered (pairs_fit m (drop at input))

  -- end was the last record
  pub ends : is_end a ≡ true → Runs input k (record { at = at; printed = n; going = false; failed = false })
  ends e = record { on = λ f. absurd (true≢false (sym f)); whole = λ f g. at_end fits on.reached (sym answered ∙ is_end_lem a e) }

  module _ (e : is_end a ≡ false) where
    goes : (call m (drop at input)).answer ≡ Answer.End → ⊥
    goes f = not_end a e (answered ∙ f)

    -- any other has its line
    pub prints : Prints input (n + 1) (line_text (n + 1) a k.spans)
    prints = rw (add-one n, answered, left) (line_of fits on.reached goes)

    within : Within (drop at input) u
    within = rw used (reached_uses on.reached goes)

    pub moves : at < at + u
    moves = omega (arith, within.some)

    pub inside : at + u ≤ length input
    inside = omega (arith, within.room, length-drop at input, on.place)

    next : goes_on a ≡ true → On input k (n + 1) (at + u)
    next t = record {
      reached =
          rw (add-one n, left, sym (drop-drop u at input), used)
          (handled on.reached (of_true (ap goes_on (sym answered) ∙ t)));
      place = inside;
      few = omega (arith, on.few, within.some);
    }

    last : goes_on a ≡ false → Whole input (n + 1)
    last t = rw (add-one n) (at_refusal_3 fits on.reached (sym answered ∙ is_refusal_3 a e t))

    -- with its line written, or not
    pub goes_by : (written on : Bool) → on ≡ goes_on a →
        Runs input k (record { at = at + u; printed = n + 1; going = written && on; failed = not written })
    goes_by true on f = record { on = λ g. next (sym f ∙ g); whole = λ g h. last (sym f ∙ g) }
    goes_by false on f = record { on = λ g. absurd (true≢false (sym g)); whole = λ g h. absurd (true≢false h) }

-- what is left to read falls
pub falls : (l at next : ℕ) (g : Bool) → (g ≡ true → at < next) → (g ≡ true → next ≤ l) → cond g (suc (l - next)) 0 < suc (l - at)
falls l at next true f h = let a = f refl in let b = h refl in omega arith
falls l at next false f h = omega arith
