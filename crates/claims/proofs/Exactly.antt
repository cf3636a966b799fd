-- Demand 2 of the record call: its answers, the span buffer and both tables are exact. Assumes nothing.
use Rattle.std.specs.Prelude.{◌≡◌, refl, ◌↔◌, true, false, not, cond, List, ◌++◌, ℕ, ◌+◌, ◌*◌, ◌≤◌, eqb, ℤ, length, take, drop, Ok}
use Rattle.std.proofs.Common.{sym, ap, ◌∙◌, subst, arith, ne_eqb, take-append-drop, take_at}
use Rattle.terms.specs.declared.Answer.{Answer}
use Rattle.terms.specs.declared.Atom.TheVariants.{Has}
use Rattle.terms.specs.declared.Question.{Question}
use Rattle.terms.specs.Tests.{true_of, of_true, differ}
use Rattle.terms.specs.Limits.{LABEL_ENTRIES, LINK_ENTRIES}
use Rattle.terms.specs.Held.{Held}
use Rattle.logic.specs.Depths.{Derived}
use Rattle.refusals.specs.Refusals.{Tested, tested}
use Rattle.terms.specs.Otherwise.{on_tested}
use Rattle.terms.specs.Spans.{Run, Longest, flat}
use Rattle.line.specs.Intervals.{interval, count}
use Rattle.line.proofs.IntervalLaws.{pieces}
use Rattle.tables.proofs.TableLaws.{table_exact}
use Rattle.spans.proofs.Longest.{flat_length}
use Rattle.places.specs.Layout.{SIZE, encode}
use Rattle.block.specs.Block.{read_held, good}
use Rattle.records.specs.declared.Command.{Command}
use Rattle.frames.specs.Frames.{length_field, body_of, used_for}
use Rattle.decide.specs.Decides.{Yes, No, Spans, Reply, Contradiction, Answered, Never, Some, InAll, InOneNot}
use Rattle.decide.specs.Answer.{answer}
use Rattle.decide.proofs.Decide.{contradiction_exactly, yes_exactly, no_exactly, spans_exactly, clear_spans}
use Rattle.decide.proofs.Sentences.{some_never, none_satisfies, yes_in_all, no_in_one, spans_in_all, spans_longest}
use Rattle.decide.specs.Verdicts.{answer_of}
use Rattle.commands.specs.Buffers.{Buffers, After, after, short}
use Rattle.questions.specs.Code.{spans_after}
use Rattle.commands.specs.Code.{replied_is}
use Rattle.commands.specs.Call.{Ended, obey, filled, replied, effect, call}
use Rattle.claims.specs.Table.{Asks, table}
use Rattle.claims.specs.Exact.{feeding, Holding, Asking, RunsWritten, ToldBy, Exact}
use Rattle.claims.proofs.KindRows.{said_of}
use Rattle.claims.proofs.Refused.{command_of, obeyed, call_by_rows}
use Rattle.claims.proofs.Kept.{Limited, limited, in_range, few_cuts}
use Rattle.claims.proofs.Booked.{known}
use Rattle.claims.proofs.Whole.{laws, good_holding, reached_exactly}
use Rattle.claims.specs.Lives.{RunTo}

-- ---- a reply and its answer

-- one equivalence after another
through : {A B C : Type 0} → A ↔ B → B ↔ C → A ↔ C
through f g = (λ a. g.0 (f.0 a), λ c. f.1 (g.1 c))

says_yes : (r : Reply) → (answer_of r ≡ Answer.Yes) ↔ (r ≡ Answered Yes)
says_yes (Contradiction a) = (λ e. differ (cc), λ e. differ (cc))
says_yes (Answered Yes) = (λ e. refl, λ e. refl)
says_yes (Answered No) = (λ e. differ (cc), λ e. differ (cc))
says_yes (Answered (Spans rs)) = (λ e. differ (cc), λ e. differ (cc))

says_no : (r : Reply) → (answer_of r ≡ Answer.No) ↔ (r ≡ Answered No)
says_no (Contradiction a) = (λ e. differ (cc), λ e. differ (cc))
says_no (Answered Yes) = (λ e. differ (cc), λ e. differ (cc))
says_no (Answered No) = (λ e. refl, λ e. refl)
says_no (Answered (Spans rs)) = (λ e. differ (cc), λ e. differ (cc))

pub says_contradiction : (r : Reply) (a : ℕ) → (answer_of r ≡ Answer.Contradiction a) ↔ (r ≡ Contradiction a)
says_contradiction (Contradiction b) a = (λ e. let f : b ≡ a = cc in ap Contradiction f, λ e. ap answer_of e)
says_contradiction (Answered Yes) a = (λ e. differ (cc), λ e. differ (cc))
says_contradiction (Answered No) a = (λ e. differ (cc), λ e. differ (cc))
says_contradiction (Answered (Spans rs)) a = (λ e. differ (cc), λ e. differ (cc))

some_contradiction : (r : Reply) → ((a : ℕ) × (answer_of r ≡ Answer.Contradiction a)) ↔ ((a : ℕ) × (r ≡ Contradiction a))
some_contradiction r = (λ w. (w.0, (says_contradiction r w.0).0 w.1), λ w. (w.0, (says_contradiction r w.0).1 w.1))

-- the runs behind an answer of spans
record Behind (r : Reply) (n : ℕ) : Type 0 where
  runs : List Run
  said : r ≡ Answered (Spans runs)
  number : length runs ≡ n

says_spans : (r : Reply) (n : ℕ) → answer_of r ≡ Answer.Spans n → Behind r n
says_spans (Contradiction a) n e = differ (cc)
says_spans (Answered Yes) n e = differ (cc)
says_spans (Answered No) n e = differ (cc)
says_spans (Answered (Spans rs)) n e = let f : length rs ≡ n = cc in record { runs = rs; said = refl; number = f }

some_spans : (r : Reply) → ((n : ℕ) × (answer_of r ≡ Answer.Spans n)) ↔ ((rs : List Run) × (r ≡ Answered (Spans rs)))
some_spans r = (λ w. let v = says_spans r w.0 w.1 in (v.runs, v.said), λ w. (length w.0, ap answer_of w.1))

-- ---- what a reply leaves is exact

module _ (h : Held) (w : Limited h) (m : Buffers) (u : ℕ) where
  -- the reply, with the tables filled
  abbrev left : Question → After
  left q = let r = answer h q in after (answer_of r) u (filled h m (spans_after r m.spans))

  runs_written : (S : ℤ → Type 0) (r : Reply) (n : ℕ) (v : Behind r n) → Longest S v.runs → RunsWritten S n (spans_after r m.spans)
  runs_written S r n v L = record {
    runs = v.runs;
    longest = L;
    number = v.number;
    written =
        ap (λ (x : Reply). take (2 * n) (spans_after x m.spans)) v.said
        ∙ take_at (flat v.runs) (drop (length (flat v.runs)) m.spans) (2 * n) (flat_length v.runs ∙ ap (λ k. 2 * k) v.number);
  }

  by_model : (q : Question) → ToldBy (Never h q → ⊥) (Derived h) (λ x i. Derived h x i → ⊥) q (left q)
  by_model (Question.Holds x i) =
      let r = answer h (Question.Holds x i) in
      (through (says_yes r) (yes_exactly h (in_range h w) x i), through (says_no r) (no_exactly h (in_range h w) x i))
  by_model (Question.Spans a A) =
      let r = answer h (Question.Spans a A) in (
        through (some_spans r) (clear_spans h (in_range h w) a A),
        λ n e.
            let v = says_spans r n e in
            runs_written (λ i. Derived h (Has a A) i) r n v ((spans_exactly h (in_range h w) a A v.runs).0 v.said).1,
      )

  by_interpretations : (q : Question) → ToldBy (Some h q) (InAll h q) (InOneNot h q) q (left q)
  by_interpretations (Question.Holds x i) =
      let r = answer h (Question.Holds x i) in
      (through (says_yes r) (yes_in_all h (in_range h w) x i), through (says_no r) (no_in_one h (in_range h w) x i))
  by_interpretations (Question.Spans a A) =
      let r = answer h (Question.Spans a A) in (
        through (some_spans r) (spans_in_all h (in_range h w) a A),
        λ n e.
            let v = says_spans r n e in
            runs_written (InAll h (Question.Spans a A) (Has a A)) r n v (spans_longest h (in_range h w) a A v.runs v.said),
      )

  exact_reply : (q : Question) → Exact h q (left q)
  exact_reply q =
      let r = answer h q in
      let R = in_range h w in
      record {
        lowest = λ a. through (says_contradiction r a) (contradiction_exactly h R q a);
        some_never = through (some_contradiction r) (some_never h R q);
        none_satisfies = through (some_contradiction r) (none_satisfies h R q);
        by_model = by_model q;
        by_interpretations = by_interpretations q;
        number = interval h;
        count = count h;
        few = omega (arith, few_cuts h w);
        pieces = pieces h R.hole;
        tables = table_exact h R (few_cuts h w) (drop LABEL_ENTRIES m.labels) (drop LINK_ENTRIES m.links);
      }

-- ---- the call that asks

-- a block that holds h reads as h, and is good
pub held_in : (b : List ℕ) (h : Held) → Holding b h → (read_held b ≡ h) × (good b ≡ true)
held_in b h H =
    let t = drop SIZE b in
    let e : b ≡ encode h ++ t = sym (take-append-drop SIZE b) ∙ ap (λ x. x ++ t) H.encoded in
    (ap read_held e ∙ laws.read_encode h t H.within, ap good e ∙ true_of (good (encode h ++ t)) (laws.good_encode h t H.within))

-- what a block holds is one thing, and some is held exactly where a run of records leads to the block
pub holding_one : (b : List ℕ) (h k : Held) → Holding b h → Holding b k → h ≡ k
holding_one b h k H K = sym (held_in b h H).0 ∙ (held_in b k K).0

pub holding_exactly : (b : List ℕ) → SIZE ≤ length b → ((h : Held) × Holding b h) ↔ RunTo (take SIZE b)
holding_exactly b l = (
  λ w. (reached_exactly b l).0 (of_true (held_in b w.0 w.1).1),
  λ r. (read_held b, good_holding b ((reached_exactly b l).1 r)),
)

asks_command : (c : Command) (q : Question) → said_of c ≡ Asks q → c ≡ Command.Ask q
asks_command Command.Reset q e = differ (cc)
asks_command (Command.Add ρ) q e = differ (cc)
asks_command (Command.Put k) q e = differ (cc)
asks_command (Command.Take k) q e = differ (cc)
asks_command (Command.Count k) q e = differ (cc)
asks_command (Command.Confine t b) q e = differ (cc)
asks_command (Command.Shift c) q e = differ (cc)
asks_command Command.Restrict q e = differ (cc)
asks_command (Command.Ask p) q e = let f : p ≡ q = cc in ap Command.Ask f

module _ (m : Buffers) (s : List ℕ) (h : Held) (q : Question) (a : Asking m s h q) where
  abbrev used : ℕ
  used = length_field s + 2

  nothing_applies : tested (table (short m) (not (good m.block)) h s) ≡ Ok tt
  nothing_applies = ap (λ g. tested (table (short m) (not g) h s)) (held_in m.block h a.block).1 ∙ a.accepted.passes

  record_left : eqb (length s) 0 ≡ false
  record_left = ne_eqb (length s) 0 (λ e. omega (arith, a.accepted.left))

  -- it is answered from what is held
  pub asked_call : call m s ≡ replied h m used (answer h q)
  asked_call =
      call_by_rows m s
      ∙ (ap (λ (k : Held). on_held k (tested (table (short m) (not (good m.block)) k s))) (held_in m.block h a.block).0
      ∙ (ap (on_held h) nothing_applies
      ∙ (ap (λ v. effect h m (cond v Ended (obey h (command_of s) (body_of s) used))) record_left
      ∙ ap (λ (c : Command). effect h m (obey h c (body_of s) used))
      (asks_command (command_of s) q (known h (feeding m s) a.accepted.passes record_left ∙ a.accepted.says)))))
    where
      on_held : Held → Tested → After
      on_held k t = on_tested (effect k m (obeyed k s)) (λ n. after (Answer.Refused n) (used_for n s) m) t

  -- demand 2: for every lent memory that is long enough with a good block, and every record that is read as a question
  pub call_exact : Exact h q (call m s)
  call_exact =
      subst (Exact h q) (sym (asked_call ∙ replied_is h m used (answer h q)))
      (exact_reply h (limited h a.block.within) m used q)
