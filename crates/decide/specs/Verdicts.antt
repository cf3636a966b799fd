-- A reply as an answer, and what the tables say of a question. Their laws stand in proofs/Verdicts.
use Rattle.std.specs.Prelude.{cond, ◌&&◌, List, ℕ, length, ℤ}
use Rattle.terms.specs.declared.Question.{Question}
use Rattle.terms.specs.declared.Answer.{Answer}
use Rattle.terms.specs.declared.Hole.{Hole}
use Rattle.terms.specs.Holes.{is_inside}
use Rattle.terms.specs.HoleLaws.{line_of}
use Rattle.line.specs.Cuts.{upto}
use Rattle.spans.specs.Runs.{runs, has_label}
use Rattle.verdicts.specs.Reading.{holds_in}
use Rattle.decide.specs.Decides.{Yes, No, Spans, Reply, Verdict, Contradiction, Answered}

-- a reply as an answer
abbrev pub answer_of : Reply → Answer
answer_of (Contradiction a) = Answer.Contradiction a
answer_of (Answered Yes) = Answer.Yes
answer_of (Answered No) = Answer.No
answer_of (Answered (Spans rs)) = Answer.Spans (length rs)

-- what the tables say of a question in the hole, on a line with these cuts, where nothing is contradictory
abbrev pub table_verdict : Hole → List ℤ → List ℕ → List ℕ → Question → Verdict
table_verdict H cs labels links (Question.Holds x i) = cond (is_inside H i && holds_in labels links x (upto cs i)) Yes No
table_verdict H cs labels links (Question.Spans a A) = Spans (runs (line_of H) cs (has_label labels a A))
