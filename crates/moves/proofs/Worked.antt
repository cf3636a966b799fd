-- The rows are as both definitions have them, by computing. Assumes nothing.
use Rattle.std.specs.Prelude.{◌≡◌, refl, ◌&&◌, map, T, pos, neg_ℤ}
use Rattle.terms.specs.Lists.{some, every, once, depth_count, limits}
use Rattle.logic.specs.Classes.{joined_b}
use Rattle.tables.specs.Executed.{model}
use Rattle.spans.specs.Runs.{runs}
use Rattle.decide.specs.Answer.{answer}
use Rattle.shift.specs.Shifted.{by, shifted, stays}
use Rattle.moves.specs.Mirrored.{mirrored, mirrors}
use Rattle.moves.specs.Answers.{shift_runs, mirror_runs, move_question, move_reply}
use Rattle.moves.specs.Rows.{rows}

-- 02, Slip 9: the replies are those of the rows
pub worked : map (λ r. answer r.held r.question) rows ≡ map (λ r. r.before) rows
unfolding some answer model runs joined_b
worked = refl

-- after a shift by 10
pub shift_worked : map (λ r. answer (shifted (pos 10) r.held) (move_question (by (pos 10)) r.question)) rows ≡ map (λ r. r.shift) rows
unfolding some answer model runs joined_b
shift_worked = refl

-- and on the reversed line
pub mirror_worked : map (λ r. answer (mirrored r.held) (move_question neg_ℤ r.question)) rows ≡ map (λ r. r.mirror) rows
unfolding some answer model runs joined_b
mirror_worked = refl

-- so they are the earlier replies, moved
pub moved_worked :
    (map (λ r. move_reply (shift_runs (pos 10)) r.before) rows ≡ map (λ r. r.shift) rows)
    × (map (λ r. move_reply mirror_runs r.before) rows ≡ map (λ r. r.mirror) rows)
moved_worked = (refl, refl)

-- and the premises of both theorems hold
pub premises : T (every (λ r. limits r.held && (stays (pos 10) r.held && mirrors r.held)) rows)
unfolding limits every once some depth_count
premises = tt
