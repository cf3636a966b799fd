-- The record call, whole: from what is lent and the bytes left to the answer, the bytes used and what is lent afterwards;
-- and the calls beside the records.
use Rattle.std.specs.Prelude.{not, List, [], ◌∷◌, ◌++◌, ℕ, ℤ, length, drop}
use Rattle.terms.specs.declared.Answer.{Answer}
use Rattle.terms.specs.declared.Question.{Question}
use Rattle.terms.specs.Limits.{LABEL_ENTRIES, LINK_ENTRIES}
use Rattle.terms.specs.declared.Hole.TheVariants.{Part}
use Rattle.terms.specs.declared.Profile.TheVariants.{On}
use Rattle.terms.specs.Held.{Held, with_counting, with_hole, with_profile, empty_held}
use Rattle.refusals.specs.Refusals.{Test, test, tested}
use Rattle.terms.specs.Otherwise.{on_tested}
use Rattle.shift.specs.Shifted.{shifted}
use Rattle.rules.specs.Changes.{rule_tests, add_rule}
use Rattle.marks.specs.Changes.{put_tests, take_tests, put_mark, take_mark}
use Rattle.settings.specs.Changes.{count_tests, confine_tests, restrict_tests}
use Rattle.correction.specs.Changes.{shift_tests}
use Rattle.block.specs.Block.{read_held, good}
use Rattle.places.specs.Layout.{SIZE, encode}
use Rattle.records.specs.declared.Command.{Command}
use Rattle.records.specs.Parsed.{Parsed}
use Rattle.records.specs.Records.{as_question, parsed_body, parse}
use Rattle.tables.specs.Tables.{label_table, link_table}
use Rattle.terms.specs.Spans.{flat}
use Rattle.decide.specs.Answer.{answer}
use Rattle.decide.specs.Decides.{Yes, No, Spans, Reply, Contradiction, Answered}
use Rattle.commands.specs.Buffers.{Buffers, lent, After, after, short}

-- ---- 01, Where a record is turned away: lent memory

abbrev pub lent_tests : Buffers → List Test
lent_tests m = test (short m) 1 ∷ test (not (good m.block)) 2 ∷ []

-- ---- what a record comes to, with these rules, marks and settings held

-- refused with a number; nothing left; something else held; a question; with the bytes used
pub data Outcome : Type 0 where
  Refused : ℕ → ℕ → Outcome
  Ended : Outcome
  Changed : Held → ℕ → Outcome
  Asked : Question → ℕ → Outcome

-- 01, Where a record is turned away: lists. A command is judged with its body
abbrev pub held_tests : Held → Command → List ℕ → List Test
held_tests h Command.Reset b = []
held_tests h (Command.Add ρ) b = rule_tests h ρ
held_tests h (Command.Put m) b = put_tests h m
held_tests h (Command.Take m) b = take_tests h m
held_tests h (Command.Count c) b = count_tests h
held_tests h (Command.Confine t d) b = confine_tests h
held_tests h (Command.Shift c) b = shift_tests h c
held_tests h Command.Restrict b = restrict_tests h
held_tests h (Command.Ask q) b = []

-- 01, The book: what is held after an accepted record; questions change nothing
abbrev pub changed_by : Held → Command → List ℕ → Held
changed_by h Command.Reset b = empty_held
changed_by h (Command.Add ρ) b = add_rule h ρ
changed_by h (Command.Put m) b = put_mark h m
changed_by h (Command.Take m) b = take_mark h m
changed_by h (Command.Count c) b = with_counting h c
changed_by h (Command.Confine t d) b = with_hole h (Part t d)
changed_by h (Command.Shift c) b = shifted c h
changed_by h Command.Restrict b = with_profile h On
changed_by h (Command.Ask q) b = h

-- one thing for a question, another for every other command
abbrev pub on_asked : {A : Type 0} → (Question → A) → A → Command → A
on_asked f d Command.Reset = d
on_asked f d (Command.Add ρ) = d
on_asked f d (Command.Put m) = d
on_asked f d (Command.Take m) = d
on_asked f d (Command.Count c) = d
on_asked f d (Command.Confine t b) = d
on_asked f d (Command.Shift c) = d
on_asked f d Command.Restrict = d
on_asked f d (Command.Ask q) = f q

-- 01, The book: what an accepted record does
abbrev pub obey : Held → Command → List ℕ → ℕ → Outcome
obey h c b u = on_asked (λ q. Asked q u) (Changed (changed_by h c b) u) c

abbrev pub judged : Held → Parsed → Outcome
judged h Parsed.Nothing = Ended
judged h (Parsed.Refused n u) = Refused n u
judged h (Parsed.Record c b u) = on_tested (obey h c b u) (λ n. Refused n u) (tested (held_tests h c b))

-- ---- what it leaves

-- 01, State and tables: after a question both tables show the least collection; tails are kept
abbrev pub filled : Held → Buffers → List ℤ → Buffers
filled h m s = lent m.block (label_table h ++ drop LABEL_ENTRIES m.labels) (link_table h ++ drop LINK_ENTRIES m.links) s

-- 01, Records: only spans write the span buffer, and not on contradiction
abbrev pub replied : Held → Buffers → ℕ → Reply → After
replied h m u (Contradiction a) = after (Answer.Contradiction a) u (filled h m m.spans)
replied h m u (Answered Yes) = after Answer.Yes u (filled h m m.spans)
replied h m u (Answered No) = after Answer.No u (filled h m m.spans)
replied h m u (Answered (Spans rs)) = after (Answer.Spans (length rs)) u (filled h m (flat rs ++ drop (length (flat rs)) m.spans))

abbrev pub effect : Held → Buffers → Outcome → After
effect h m (Refused n u) = after (Answer.Refused n) u m
effect h m Ended = after Answer.End 0 m
effect h m (Changed k u) = after Answer.Done u (lent (encode k ++ drop SIZE m.block) m.labels m.links m.spans)
effect h m (Asked q u) = replied h m u (answer h q)

-- ---- the calls

-- lent memory first; then the record, or whatever else is asked
abbrev pub on_lent : Buffers → Outcome → After
on_lent m o = on_tested (effect (read_held m.block) m o) (λ n. after (Answer.Refused n) 0 m) (tested (lent_tests m))

-- 01: one record
unfoldable pub call : Buffers → List ℕ → After
call m s = let h = read_held m.block in on_lent m (judged h (parse h.settings s))

-- the span call beside the records: item and label as numbers, answered as SPANS is; no bytes are used
unfoldable pub span_call : Buffers → ℕ → ℕ → After
span_call m a A = let h = read_held m.block in on_lent m (judged h (parsed_body (as_question h.settings (Question.Spans a A)) [] 0))
