-- Demand 1, the memory: every call keeps each lent length, and what lies behind the part that is the call's. Assumes nothing.
use Rattle.std.specs.Prelude.{◌≡◌, refl, Bool, true, false, not, List, [], ◌∷◌, ◌++◌, ℕ, ◌≤◌, ◌*◌, ℤ, length, take, drop, Ok, Err}
use Rattle.std.proofs.Common.{sym, ◌∙◌, subst, arith, length-append, length-drop, drop_at}
use Rattle.terms.specs.declared.Answer.{Answer}
use Rattle.terms.specs.declared.Question.{Question}
use Rattle.terms.specs.Tests.{and_both, of_true}
use Rattle.terms.specs.Limits.{LABEL_ENTRIES, LINK_ENTRIES}
use Rattle.refusals.specs.Refusals.{Tested, test, tested}
use Rattle.refusals.proofs.Joining.{clash}
use Rattle.terms.specs.Otherwise.{on_tested}
use Rattle.terms.specs.Held.{Held}
use Rattle.terms.specs.Lists.{limits}
use Rattle.terms.specs.Spans.{Run, flat}
use Rattle.block.specs.Block.{read_held, same_bytes, good}
use Rattle.places.specs.Layout.{SIZE, encode}
use Rattle.records.specs.declared.Command.TheVariants as Command
use Rattle.records.specs.Records.{question_tests, decoded_as, as_question, parsed_body, parse}
use Rattle.tables.specs.Tables.{label_table, link_table}
use Rattle.spans.proofs.Longest.{flat_length}
use Rattle.decide.specs.Answer.{answer}
use Rattle.decide.specs.Decides.{Yes, No, Spans, Reply, Contradiction, Answered}
use Rattle.decide.proofs.Verdicts.{spans_fit}
use Rattle.tables.proofs.TableLaws.{length_labels, length_links}
use Rattle.commands.specs.Call.{lent_tests, Outcome, Refused, Ended, Changed, Asked, judged, filled, replied, effect, on_lent, call, span_call}
use Rattle.commands.specs.Buffers.{Buffers, after, short}
use Rattle.commands.specs.Code.{Enough, enough}
use Rattle.terms.specs.Pairs.{pair_count}
use Rattle.claims.specs.Memory.{WrittenIn, LentKept}
use Rattle.claims.proofs.Kept.{Limited, limited, few_cuts}
use Rattle.claims.proofs.Life.{StaysLimited, judged_limited}
use Rattle.claims.proofs.Whole.{laws}

pub untouched : {A : Type 0} (n : ℕ) (old : List A) → WrittenIn n old old
untouched n old = record { same_length = refl; same_tail = refl }

pub written : {A : Type 0} (n : ℕ) (p old : List A) → length p ≡ n → n ≤ length old → WrittenIn n old (p ++ drop n old)
written n p old e l = record { same_length = length-append p (drop n old) ∙ omega (arith, e, length-drop n old); same_tail = drop_at p (drop n old) n e }

all_kept : (a : Answer) (m : Buffers) → pair_count a ≡ 0 → LentKept a m m
all_kept a m e = record {
  block = untouched SIZE m.block;
  labels = untouched LABEL_ENTRIES m.labels;
  links = untouched LINK_ENTRIES m.links;
  spans = untouched (2 * pair_count a) m.spans;
  pairs = omega (arith, e);
}

module _ (h : Held) (w : Limited h) (m : Buffers) (room : Enough (length m.block) (length m.labels) (length m.links) (length m.spans)) where
  -- both tables written, and a span buffer that the answer tells of
  filled_kept : (a : Answer) (s : List ℤ) → WrittenIn (2 * pair_count a) m.spans s → pair_count a ≤ 97 → LentKept a m (filled h m s)
  filled_kept a s k l = record {
    block = untouched SIZE m.block;
    labels = written LABEL_ENTRIES (label_table h) m.labels (length_labels h) room.labels;
    links = written LINK_ENTRIES (link_table h) m.links (length_links h) room.links;
    spans = k;
    pairs = l;
  }

  replied_kept : (u : ℕ) (r : Reply) → ((rs : List Run) → r ≡ Answered (Spans rs) → length rs ≤ 97) →
      LentKept (replied h m u r).answer m (replied h m u r).buffers
  replied_kept u (Contradiction a) f = filled_kept (Answer.Contradiction a) m.spans (untouched 0 m.spans) (omega arith)
  replied_kept u (Answered Yes) f = filled_kept Answer.Yes m.spans (untouched 0 m.spans) (omega arith)
  replied_kept u (Answered No) f = filled_kept Answer.No m.spans (untouched 0 m.spans) (omega arith)
  replied_kept u (Answered (Spans rs)) f =
      let k = flat_length rs in
      let few = f rs refl in
      filled_kept (Answer.Spans (length rs)) (flat rs ++ drop (length (flat rs)) m.spans)
      (subst (λ n. WrittenIn n m.spans (flat rs ++ drop (length (flat rs)) m.spans)) k
      (written (length (flat rs)) (flat rs) m.spans refl (omega (arith, k, few, room.spans)))) few

  effect_kept : (o : Outcome) → StaysLimited o → LentKept (effect h m o).answer m (effect h m o).buffers
  effect_kept (Refused n u) k = all_kept (Answer.Refused n) m refl
  effect_kept Ended k = all_kept Answer.End m refl
  effect_kept (Changed g u) k = record {
    block = written SIZE (encode g) m.block (laws.length_encode g k) room.block;
    labels = untouched LABEL_ENTRIES m.labels;
    links = untouched LINK_ENTRIES m.links;
    spans = untouched 0 m.spans;
    pairs = omega arith;
  }
  effect_kept (Asked q u) k = replied_kept u (answer h q) (λ rs e. spans_fit h (few_cuts h w) q rs e)

-- where no test of lent memory applies enough is lent, and the block is good
none_lent : (p g : Bool) → tested (test p 1 ∷ test (not g) 2 ∷ []) ≡ Ok tt → (p ≡ false) × (g ≡ true)
none_lent true g e = clash (sym e)
none_lent false true e = (refl, refl)
none_lent false false e = clash (sym e)

good_limited : (b : List ℕ) → good b ≡ true → Limited (read_held b)
unfolding good
good_limited b e = limited (read_held b) (and_both (limits (read_held b)) (same_bytes (encode (read_held b)) (take SIZE b)) (of_true e)).0

lent_kept : (m : Buffers) (o : Outcome) → (Limited (read_held m.block) → StaysLimited o) → LentKept (on_lent m o).answer m (on_lent m o).buffers
lent_kept m o k = go (tested (lent_tests m)) (λ e. none_lent (short m) (good m.block) e)
  where
    h : Held
    h = read_held m.block

    go :
        (t : Tested) → (t ≡ Ok tt → (short m ≡ false) × (good m.block ≡ true)) →
        let r = on_tested (effect h m o) (λ n. after (Answer.Refused n) 0 m) t in LentKept r.answer m r.buffers
    go (Ok passed) f =
        let (s, g) = f refl in
        let w = good_limited m.block g in
        effect_kept h w m (enough (length m.block) (length m.labels) (length m.links) (length m.spans) s) o (k w)
    go (Err n) f = all_kept (Answer.Refused n) m refl

-- demand 1: every lent length and every tail is kept, whatever is lent and whatever the input
pub call_lent : (m : Buffers) (s : List ℕ) → LentKept (call m s).answer m (call m s).buffers
unfolding call
call_lent m s = let h = read_held m.block in lent_kept m (judged h (parse h.settings s)) (λ w. judged_limited laws h s w)

asked_limited : (h : Held) (q : Question) (t : Tested) → StaysLimited (judged h (parsed_body (decoded_as t (Command.Ask q)) [] 0))
asked_limited h q (Ok passed) = tt
asked_limited h q (Err n) = tt

-- and so by the span call beside the records
pub span_lent : (m : Buffers) (a A : ℕ) → LentKept (span_call m a A).answer m (span_call m a A).buffers
unfolding span_call
span_lent m a A =
    let h = read_held m.block in
    let q = Question.Spans a A in
    lent_kept m (judged h (parsed_body (as_question h.settings q) [] 0)) (λ w. asked_limited h q (tested (question_tests h.settings q)))
