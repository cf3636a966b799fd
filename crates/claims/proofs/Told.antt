-- What a call's outcome tells, on the way from the call to the book. Assumes nothing.
use Rattle.std.specs.Prelude.{cond, ℕ}
use Rattle.terms.specs.declared.Answer.TheVariants as Answer
use Rattle.terms.specs.declared.Question.{Question}
use Rattle.terms.specs.Held.{Held}
use Rattle.records.specs.Records.{parse}
use Rattle.decide.specs.Decides.{Reply, Decides}
use Rattle.commands.specs.Buffers.{is_short}
use Rattle.commands.specs.Call.{Outcome, Refused, Ended, Changed, Asked, judged}
use Rattle.claims.specs.Reference.{Fed, Result, plain, shown}

-- what the call comes to with these lists held
abbrev pub outcome : Held → Fed → Outcome
outcome h f = cond (is_short f.block f.labels f.links f.spans) (Refused 1 0) (judged h (parse h.settings f.bytes))

-- its result, and what is held then
pub data Told (h : Held) : Outcome → Result → Held → Type 0 where
  refused : {n u : ℕ} → Told h (Refused n u) (plain (Answer.Refused n) u) h
  ended : Told h Ended (plain Answer.End 0) h
  changed : {k : Held} {u : ℕ} → Told h (Changed k u) (plain Answer.Done u) k
  asked : {q : Question} {u : ℕ} (r : Reply) → Decides h q r → Told h (Asked q u) (shown r u) h
