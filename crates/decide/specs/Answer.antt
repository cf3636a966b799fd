-- The reply, computed: from the least model on the intervals.
use Rattle.std.specs.Prelude.{Bool, cond, ◌&&◌, List, ℕ}
use Rattle.terms.specs.declared.Atom.TheVariants.{Has}
use Rattle.terms.specs.declared.Question.{Question}
use Rattle.terms.specs.Limits.{ITEMS, NEVER}
use Rattle.terms.specs.Holes.{is_inside}
use Rattle.terms.specs.Held.{Held, hole_in}
use Rattle.terms.specs.HoleLaws.{line_of}
use Rattle.logic.specs.Classes.{concerns_b}
use Rattle.line.specs.Intervals.{cuts_of, interval, count}
use Rattle.spans.specs.Runs.{runs}
use Rattle.verdicts.specs.Reading.{any_below, lowest_of}
use Rattle.std.specs.Prelude.{Option, Some, None}
use Rattle.tables.specs.Saturate.{Fact, fact, mem}
use Rattle.tables.specs.Executed.{model}
use Rattle.decide.specs.Decides.{Verdict, Yes, No, Spans, Reply, Contradiction, Answered}

-- item a has NEVER somewhere
abbrev pub never_b : Held → List Fact → ℕ → Bool
never_b h fs a = any_below (count h) (λ p. mem (fact (Has a NEVER) p) fs)

-- and the question concerns it
abbrev pub clashes : Held → Question → List Fact → ℕ → Bool
clashes h q fs a = concerns_b h.marks q a && never_b h fs a

abbrev pub clash_or : Option ℕ → Verdict → Reply
clash_or None v = Answered v
clash_or (Some a) v = Contradiction a

abbrev pub verdict : Held → List Fact → Question → Verdict
verdict h fs (Question.Holds x i) = cond (is_inside (hole_in h) i && mem (fact x (interval h i)) fs) Yes No
verdict h fs (Question.Spans a A) = Spans (runs (line_of (hole_in h)) (cuts_of h) (λ p. mem (fact (Has a A) p) fs))

unfoldable pub answer : Held → Question → Reply
answer h q = let fs = model h in let v = verdict h fs q in clash_or (lowest_of (clashes h q fs) ITEMS 0) v
