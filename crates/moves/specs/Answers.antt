-- 02's answers after a shift and of the reversed line: the question moved, and the reply with its spans moved.
use Rattle.std.specs.Prelude.{cond, List, map, reverse, ℤ, neg_ℤ}
use Rattle.terms.specs.declared.Question.{Question}
use Rattle.terms.specs.Limits.{NO_TOP, NO_BOTTOM}
use Rattle.terms.specs.Same.{same_depth}
use Rattle.terms.specs.Spans.{Run, run}
use Rattle.decide.specs.Decides.{Verdict, Yes, No, Spans, Reply, Contradiction, Answered}
use Rattle.shift.specs.Shifted.{by}

-- an end of a span moved, unless it is the number `gone`, which means that it is missing: then `new` does
abbrev pub move_end : (ℤ → ℤ) → ℤ → ℤ → ℤ → ℤ
move_end f gone new e = cond (same_depth e gone) new (f e)

-- 02, Slip 9: spans moved by c, and missing ends still missing
abbrev pub shift_run : ℤ → Run → Run
shift_run c r = run (move_end (by c) NO_TOP NO_TOP r.top) (move_end (by c) NO_BOTTOM NO_BOTTOM r.bottom)

abbrev pub shift_runs : ℤ → List Run → List Run
shift_runs c rs = map (shift_run c) rs

-- 02, Slip 9: each span's ends are exchanged and, unless missing, negated
abbrev pub mirror_run : Run → Run
mirror_run r = run (move_end neg_ℤ NO_BOTTOM NO_TOP r.bottom) (move_end neg_ℤ NO_TOP NO_BOTTOM r.top)

-- and the spans come in reverse order
abbrev pub mirror_runs : List Run → List Run
mirror_runs rs = reverse (map mirror_run rs)

-- 02, Slip 9: the same question at the moved depth
abbrev pub move_question : (ℤ → ℤ) → Question → Question
move_question f (Question.Holds x i) = Question.Holds x (f i)
move_question f (Question.Spans a A) = Question.Spans a A

-- 02, Slip 9: yes, no, and contradiction with its item stay; spans are moved
abbrev pub move_verdict : (List Run → List Run) → Verdict → Verdict
move_verdict g Yes = Yes
move_verdict g No = No
move_verdict g (Spans rs) = Spans (g rs)

abbrev pub move_reply : (List Run → List Run) → Reply → Reply
move_reply g (Contradiction a) = Contradiction a
move_reply g (Answered v) = Answered (move_verdict g v)
