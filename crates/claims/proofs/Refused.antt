-- Demand 1, the numbers: the call by its rows, refused with the lowest number that applies, by rank, or accepted. Assumes nothing.
use Rattle.std.specs.Prelude.{◌≡◌, ◌↔◌, Bool, not, ℕ, ◌+◌, ◌≤◌, ◌<◌, T, length, Ok, Err}
use Rattle.std.proofs.Math.Path.{refl, ap}
use Rattle.std.proofs.Common.{sym, ◌∙◌, subst, true≢false, arith, eqb-true, eq-eqb, ne_eqb, le-ltb}
use Rattle.std.proofs.Math.Bool.{true, false, cond}
use mathlib.Core.List.{List, [], ◌∷◌, ◌++◌}
use Rattle.std.proofs.Math.Dec.{eqb}
use Rattle.terms.specs.declared.Answer.{Answer}
use Rattle.terms.specs.declared.Question.{Question}
use Rattle.refusals.specs.Refusals.{order, rank, Test, Tested, test, tested}
use Rattle.refusals.proofs.Joining.{tested_append}
use Rattle.refusals.proofs.Ranks.{thirteen_after_twelve, rank_ordered, rank_number, rank_lower}
use Rattle.terms.specs.Tests.{differ}
use Rattle.terms.specs.Otherwise.{on_tested, or_else}
use Rattle.terms.specs.Held.{◌∈◌, Held}
use Rattle.block.specs.Block.{read_held, good}
use Rattle.records.specs.declared.Command.{Command}
use Rattle.frames.specs.declared.Framed.TheVariants as Framed
use Rattle.frames.specs.Frames.{length_field, kind_field, body_of, used_for}
use Rattle.records.specs.Records.{body_tests, command_in, decoded_as, parsed_body, parsed_frame, parse}
use Rattle.frames.specs.Framing.{frame_tests, framed}
use Rattle.decide.specs.Decides.{Yes, No, Spans, Reply, Contradiction, Answered}
use Rattle.decide.specs.Answer.{answer}
use Rattle.decide.specs.Verdicts.{answer_of}
use Rattle.commands.specs.Buffers.{Buffers, After, after, short}
use Rattle.commands.specs.Code.{replied_is}
use Rattle.commands.specs.Call.{Outcome, Refused, Ended, held_tests, obey, judged, effect, call}
use Rattle.claims.proofs.Ascending.{
  same_number,
  tested_applies,
  tested_some,
  wider,
  ascends,
  tested_in,
  tested_lowest,
  in_range,
}
use Rattle.claims.specs.Table.{broken_frame, unknown_kind, wrong_length, record_rows, input_rows, table, rows, Ascends}
use Rattle.claims.proofs.KindRows.{record_tests, record_rows_lem, input_tests, input_rows_lem}

-- ---- the ranks ascend

record_ascends : (h : Held) (k : ℕ) (b : List ℕ) → Ascends (rank 6) (rank 12) (record_rows h k b)
unfolding rank
record_ascends h k b = ascends (rank 6) (rank 12) (record_rows h k b) tt

input_ascends : (h : Held) (s : List ℕ) → Ascends (rank 3) (rank 12) (input_rows h s)
unfolding rank
input_ascends h s = go (eqb (length s) 0)
  where
    left : List Test
    left = test (broken_frame s) 3 ∷ test (unknown_kind s) 4 ∷ test (wrong_length s) 5 ∷ record_rows h (kind_field s) (body_of s)

    go : (v : Bool) → Ascends (rank 3) (rank 12) (cond v [] left)
    go true = tt
    go false = ascends (rank 3) (rank 12) left tt

-- from the first to the last, whatever applies
pub table_ascends : (a b : Bool) (h : Held) (s : List ℕ) → Ascends (rank 1) (rank 12) (table a b h s)
unfolding rank
table_ascends a b h s =
    let inputs = wider (rank 3) (rank 12) (rank 2) (rank 12) (input_rows h s) (omega arith) (omega arith) (input_ascends h s) in
    (omega arith, omega arith, (omega arith, omega arith, inputs))

-- ---- what is left of the input, by its rows

two_three : rank 2 < rank 3
unfolding rank
two_three = omega arith

three_six : rank 3 < rank 6
unfolding rank
three_six = omega arith

-- what the record says to whoever reads it
abbrev pub command_of : List ℕ → Command
command_of s = command_in (kind_field s) (body_of s)

-- what comes of a call's bytes where no row applies: end, or the record obeyed
abbrev pub obeyed : Held → List ℕ → Outcome
obeyed h s = cond (eqb (length s) 0) Ended (obey h (command_of s) (body_of s) (length_field s + 2))

abbrev pub outcome_by : Held → List ℕ → Tested → Outcome
outcome_by h s t = on_tested (obeyed h s) (λ n. Refused n (used_for n s)) t

module _ (h : Held) (s : List ℕ) where
  abbrev k : ℕ
  k = kind_field s

  abbrev b : List ℕ
  b = body_of s

  abbrev used : ℕ
  used = length_field s + 2

  used_whole : (n : ℕ) → rank 3 < rank n → used_for n s ≡ used
  used_whole n l =
      ap (λ v. cond v 0 (cond (eqb n 3) (length s) used)) (le-ltb (rank n) (rank 3) (omega arith))
      ∙ ap (λ v. cond v (length s) used) (ne_eqb n 3 (λ e. omega (arith, ap rank e)))

  -- the rows of the lists
  by_lists :
      eqb (length s) 0 ≡ false → (t : Tested) → ((n : ℕ) → t ≡ Err n → rank 3 < rank n) →
      on_tested (obey h (command_of s) b used) (λ n. Refused n used) t ≡ outcome_by h s t
  by_lists e (Ok passed) r = ap (λ v. cond v Ended (obey h (command_of s) b used)) (sym e)
  by_lists e (Err n) r = ap (Refused n) (sym (used_whole n (r n refl)))

  -- the rows of the body before them
  by_body :
      eqb (length s) 0 ≡ false → (t u : Tested) → u ≡ tested (held_tests h (command_of s) b) →
      ((n : ℕ) → or_else t u ≡ Err n → rank 3 < rank n) →
      judged h (parsed_body (decoded_as t (command_of s)) b used) ≡ outcome_by h s (or_else t u)
  by_body e (Ok passed) u f r = ap (λ (v : Tested). on_tested (obey h (command_of s) b used) (λ n. Refused n used) v) (sym f) ∙ by_lists e u r
  by_body e (Err n) u f r = ap (Refused n) (sym (used_whole n (r n refl)))

  abbrev rest : Tested
  rest = or_else (tested (body_tests h.settings k b)) (tested (held_tests h (command_of s) b))

  tested_rest : tested (record_tests h k b) ≡ rest
  tested_rest = tested_append (body_tests h.settings k b) (held_tests h (command_of s) b)

  past_frame : (n : ℕ) → rest ≡ Err n → rank 3 < rank n
  past_frame n e =
      let w = tested_in (rank 6) (rank 12) (record_rows h k b) (record_ascends h k b) n (sym (record_rows_lem h k b) ∙ (tested_rest ∙ e)) in
      omega (arith, w.0, three_six)

  -- the rows of the frame
  by_frame :
      eqb (length s) 0 ≡ false → (t : Tested) →
      judged h (parsed_frame h.settings s (on_tested (Framed.Record k used) (λ n. Framed.Refused n (used_for n s)) t)) ≡ outcome_by h s (or_else t rest)
  by_frame e (Ok passed) = by_body e (tested (body_tests h.settings k b)) (tested (held_tests h (command_of s) b)) refl past_frame
  by_frame e (Err n) = refl

  tested_record : tested (frame_tests s ++ record_tests h k b) ≡ or_else (tested (frame_tests s)) rest
  tested_record = tested_append (frame_tests s) (record_tests h k b) ∙ ap (or_else (tested (frame_tests s))) tested_rest

  by_input : judged h (parse h.settings s) ≡ outcome_by h s (tested (input_tests h s))
  unfolding parse framed
  by_input = go (eqb (length s) 0) refl
    where
      go :
          (v : Bool) → eqb (length s) 0 ≡ v →
          judged h (parsed_frame h.settings s (cond v Framed.Nothing
          (on_tested (Framed.Record k used) (λ n. Framed.Refused n (used_for n s)) (tested (frame_tests s)))))
          ≡ outcome_by h s (tested (cond v [] (frame_tests s ++ record_tests h k b)))
      go true e = ap (λ v. cond v Ended (obey h (command_of s) b used)) (sym e)
      go false e = by_frame e (tested (frame_tests s)) ∙ ap (outcome_by h s) (sym tested_record)

  -- refused with the bytes that 01 says, ended or obeyed
  pub judged_by_rows : judged h (parse h.settings s) ≡ outcome_by h s (tested (input_rows h s))
  judged_by_rows = by_input ∙ ap (outcome_by h s) (input_rows_lem h s)

-- ---- the call by its rows

-- a call that is refused with a number, or accepted
abbrev pub by_rows : Buffers → List ℕ → Tested → After
by_rows m s t = let h = read_held m.block in on_tested (effect h m (obeyed h s)) (λ n. after (Answer.Refused n) (used_for n s) m) t

-- the call is refused with the lowest number that applies, by rank, uses the bytes that 01 says and leaves everything lent; or it is accepted
pub call_by_rows : (m : Buffers) (s : List ℕ) → call m s ≡ by_rows m s (tested (rows m s))
unfolding call rank
call_by_rows m s = go (short m) (not (good m.block))
  where
    h : Held
    h = read_held m.block

    effect_by : (t : Tested) → effect h m (outcome_by h s t) ≡ by_rows m s t
    effect_by (Ok passed) = refl
    effect_by (Err n) = refl

    go : (a b : Bool) →
        on_tested (effect h m (judged h (parse h.settings s))) (λ n. after (Answer.Refused n) 0 m) (tested (test a 1 ∷ test b 2 ∷ []))
        ≡ by_rows m s (tested (test a 1 ∷ test b 2 ∷ input_rows h s))
    go true b = refl
    go false true = refl
    go false false = ap (effect h m) (judged_by_rows h s) ∙ effect_by (tested (input_rows h s))

-- ---- in its row's case and in no other

-- a reply is no refusal and no end
pub reply_accepts : (r : Reply) (n : ℕ) {A : Type 0} → answer_of r ≡ Answer.Refused n → A
reply_accepts (Contradiction a) n e = differ (cc)
reply_accepts (Answered Yes) n e = differ (cc)
reply_accepts (Answered No) n e = differ (cc)
reply_accepts (Answered (Spans rs)) n e = differ (cc)

reply_goes : (r : Reply) {A : Type 0} → answer_of r ≡ Answer.End → A
reply_goes (Contradiction a) e = differ (cc)
reply_goes (Answered Yes) e = differ (cc)
reply_goes (Answered No) e = differ (cc)
reply_goes (Answered (Spans rs)) e = differ (cc)

-- what an accepted call answers: end where nothing is left, done, or the reply to a question
pub data Accepts (h : Held) (s : List ℕ) : Answer → Type 0 where
  over : length s ≡ 0 → Accepts h s Answer.End
  done : Accepts h s Answer.Done
  reply : (q : Question) → Accepts h s (answer_of (answer h q))

pub obeyed_accepts : (h : Held) (m : Buffers) (s : List ℕ) → Accepts h s (effect h m (obeyed h s)).answer
obeyed_accepts h m s = go (eqb (length s) 0) refl
  where
    obeys : (c : Command) (u : ℕ) → Accepts h s (effect h m (obey h c (body_of s) u)).answer
    obeys Command.Reset u = done
    obeys (Command.Add ρ) u = done
    obeys (Command.Put k) u = done
    obeys (Command.Take k) u = done
    obeys (Command.Count c) u = done
    obeys (Command.Confine t b) u = done
    obeys (Command.Shift c) u = done
    obeys Command.Restrict u = done
    obeys (Command.Ask q) u = subst (λ (x : After). Accepts h s x.answer) (sym (replied_is h m u (answer h q))) (reply q)

    go : (v : Bool) → eqb (length s) 0 ≡ v → Accepts h s (effect h m (cond v Ended (obey h (command_of s) (body_of s) (length_field s + 2)))).answer
    go true d = over (eqb-true (length s) 0 d)
    go false d = obeys (command_of s) (length_field s + 2)

not_refused : {h : Held} {s : List ℕ} {a : Answer} (n : ℕ) → Accepts h s a → a ≡ Answer.Refused n → ⊥
not_refused n (over l) e = differ (cc)
not_refused n done e = differ (cc)
not_refused {h} n (reply q) e = reply_accepts (answer h q) n e

ended_only : {h : Held} {s : List ℕ} {a : Answer} → Accepts h s a → a ≡ Answer.End → length s ≡ 0
ended_only (over l) e = l
ended_only done e = differ (cc)
ended_only {h} (reply q) e = reply_goes (answer h q) e

refused_number : (m : Buffers) (s : List ℕ) (n : ℕ) (t : Tested) → (by_rows m s t).answer ≡ Answer.Refused n → t ≡ Err n
refused_number m s n (Ok passed) e = absurd (not_refused n (obeyed_accepts (read_held m.block) m s) e)
refused_number m s n (Err k) e = let f : k ≡ n = cc in ap Err f

-- the call is refused with a number exactly if that is what its rows come to
pub refused_exactly : (m : Buffers) (s : List ℕ) (n : ℕ) → ((call m s).answer ≡ Answer.Refused n) ↔ (tested (rows m s) ≡ Err n)
refused_exactly m s n = (
  λ e. refused_number m s n (tested (rows m s)) (sym (ap (λ (x : After). x.answer) (call_by_rows m s)) ∙ e),
  λ e. ap (λ (x : After). x.answer) (call_by_rows m s) ∙ ap (λ (t : Tested). (by_rows m s t).answer) e,
)

pub rows_ascend : (m : Buffers) (s : List ℕ) → Ascends (rank 1) (rank 12) (rows m s)
rows_ascend m s = table_ascends (short m) (not (good m.block)) (read_held m.block) s

-- what is given has a rank up to the last one's
pub refused_ranked : (m : Buffers) (s : List ℕ) (n : ℕ) → (call m s).answer ≡ Answer.Refused n → rank n ≤ rank 12
refused_ranked m s n e = (tested_in (rank 1) (rank 12) (rows m s) (rows_ascend m s) n ((refused_exactly m s n).0 e)).1

-- so it is in the order
pub refused_ordered : (m : Buffers) (s : List ℕ) (n : ℕ) → (call m s).answer ≡ Answer.Refused n → n ∈ order
refused_ordered m s n e = rank_ordered n (omega (arith, thirteen_after_twelve, refused_ranked m s n e))

-- a refusal's number is that of a row that applies, and by rank the lowest of those
pub refused_lowest :
    (m : Buffers) (s : List ℕ) (n : ℕ) → (call m s).answer ≡ Answer.Refused n →
    ((t : Test) × (t ∈ rows m s) × T t.applies × (t.number ≡ n)) × ((t : Test) → t ∈ rows m s → T t.applies → rank n ≤ rank t.number)
refused_lowest m s n e =
    let f = (refused_exactly m s n).0 e in
    (tested_applies (rows m s) n f, λ t i a. tested_lowest (rank 1) (rank 12) (rows m s) (rows_ascend m s) n f t i a)

-- so a number of 01's is the lowest number that applies too: among them the order is that of the numbers
pub refused_lowest_number :
    (m : Buffers) (s : List ℕ) (n : ℕ) → (call m s).answer ≡ Answer.Refused n → n ≤ 12 → (t : Test) → t ∈ rows m s → T t.applies → n ≤ t.number
refused_lowest_number m s n e o t i a =
    let w = refused_lowest m s n e in
    let own = (in_range (rank 1) (rank 12) (rows m s) (rows_ascend m s) t i).1 in
    rank_lower n t.number o (rank_number t.number (omega (arith, thirteen_after_twelve, own))).0 (w.1 t i a)

-- where a row applies, the call is refused
pub applies_refused : (m : Buffers) (s : List ℕ) (t : Test) → t ∈ rows m s → T t.applies → (n : ℕ) × ((call m s).answer ≡ Answer.Refused n)
applies_refused m s t i a = let (n, e) = tested_some (rows m s) t i a in (n, (refused_exactly m s n).1 e)

-- ---- number 2, and end

lent_number : (p g : Bool) (ts : List Test) → ((n : ℕ) → tested ts ≡ Err n → n ≡ 2 → ⊥) →
    tested (test p 1 ∷ test (not g) 2 ∷ ts) ≡ Err 2 → (p ≡ false) × (g ≡ false)
lent_number true g ts f e = let z : ◌≡◌ {A = ℕ} 1 2 = same_number e in let w : ⊥ = omega arith in absurd w
lent_number false true ts f e = absurd (f 2 e refl)
lent_number false false ts f e = (refl, refl)

-- number 2 is given exactly where enough is lent and the block is not good
pub two_by_block : (m : Buffers) (s : List ℕ) → ((call m s).answer ≡ Answer.Refused 2) ↔ ((short m ≡ false) × (good m.block ≡ false))
two_by_block m s = (
  λ e. lent_number (short m) (good m.block) (input_rows h s) later ((refused_exactly m s 2).0 e),
  λ w. (refused_exactly m s 2).1
      (ap (λ v. tested (table v (not (good m.block)) h s)) w.0 ∙ ap (λ v. tested (table false (not v) h s)) w.1),
)
  where
    h : Held
    h = read_held m.block

    later : (n : ℕ) → tested (input_rows h s) ≡ Err n → n ≡ 2 → ⊥
    later n e d = let w = tested_in (rank 3) (rank 12) (input_rows h s) (input_ascends h s) n e in omega (arith, w.0, two_three, ap rank d)

-- end is given exactly where nothing is left, enough is lent and the block is good
pub end_by_block : (m : Buffers) (s : List ℕ) → ((call m s).answer ≡ Answer.End) ↔ ((length s ≡ 0) × (short m ≡ false) × (good m.block ≡ true))
end_by_block m s = (λ e. there (short m) (good m.block) (sym (ap (λ (x : After). x.answer) (call_by_rows m s)) ∙ e), back)
  where
    h : Held
    h = read_held m.block

    passes : (t : Tested) → (by_rows m s t).answer ≡ Answer.End → length s ≡ 0
    passes (Ok passed) e = ended_only (obeyed_accepts h m s) e
    passes (Err n) e = differ (cc)

    there : (p g : Bool) → (by_rows m s (tested (table p (not g) h s))).answer ≡ Answer.End → (length s ≡ 0) × (p ≡ false) × (g ≡ true)
    there true g e = differ (cc)
    there false false e = differ (cc)
    there false true e = (passes (tested (input_rows h s)) e, refl, refl)

    none : (v : Bool) → v ≡ true →
        by_rows m s (tested (cond v [] (test (broken_frame s) 3 ∷ test (unknown_kind s) 4 ∷ test (wrong_length s) 5 ∷ record_rows h (kind_field s) (body_of s))))
        ≡ effect h m (obeyed h s)
    none true d = refl
    none false d = absurd (true≢false (sym d))

    over : (v : Bool) → v ≡ true → (effect h m (cond v Ended (obey h (command_of s) (body_of s) (length_field s + 2)))).answer ≡ Answer.End
    over true d = refl
    over false d = absurd (true≢false (sym d))

    back : (length s ≡ 0) × (short m ≡ false) × (good m.block ≡ true) → (call m s).answer ≡ Answer.End
    back w =
        let d = eq-eqb (length s) 0 w.0 in
        ap (λ (x : After). x.answer) (call_by_rows m s)
        ∙ (ap (λ v. (by_rows m s (tested (table v (not (good m.block)) h s))).answer) w.1
        ∙ (ap (λ v. (by_rows m s (tested (table false (not v) h s))).answer) w.2
        ∙ (ap (λ (x : After). x.answer) (none (eqb (length s) 0) d) ∙ over (eqb (length s) 0) d)))

-- 01, Where a record is turned away: the bytes used, where lent memory is refused too
pub call_used : (m : Buffers) (s : List ℕ) →
    ((n : ℕ) → (call m s).answer ≡ Answer.Refused n → (call m s).used ≡ used_for n s) × ((call m s).answer ≡ Answer.End → (call m s).used ≡ 0)
call_used m s = (
  λ n e. ap (λ (x : After). x.used) (call_by_rows m s) ∙ ap (λ (t : Tested). (by_rows m s t).used) ((refused_exactly m s n).0 e),
  λ e. subst (λ (x : After). x.answer ≡ Answer.End → x.used ≡ 0) (sym (call_by_rows m s)) (λ d. ended_used (tested (rows m s)) d) e,
)
  where
    h : Held
    h = read_held m.block

    nothing_used : (v : Bool) → v ≡ true → (effect h m (cond v Ended (obey h (command_of s) (body_of s) (length_field s + 2)))).used ≡ 0
    nothing_used true d = refl
    nothing_used false d = absurd (true≢false (sym d))

    ended_used : (t : Tested) → (by_rows m s t).answer ≡ Answer.End → (by_rows m s t).used ≡ 0
    ended_used (Ok passed) e = nothing_used (eqb (length s) 0) (eq-eqb (length s) 0 (ended_only (obeyed_accepts h m s) e))
    ended_used (Err n) e = differ (cc)
