-- Demand 1, about the record call: a refusal changes nothing, and what each answer leaves. Assumes nothing.
use Rattle.std.specs.Prelude.{◌≡◌, refl, List, ℕ, length, Ok, Err}
use Rattle.terms.specs.declared.Answer.{Answer}
use Rattle.refusals.specs.Refusals.{Tested, tested}
use Rattle.terms.specs.Otherwise.{on_tested}
use Rattle.terms.specs.Held.{Held}
use Rattle.terms.specs.Tests.{differ}
use Rattle.block.specs.Block.{read_held}
use Rattle.records.specs.Records.{parse}
use Rattle.decide.specs.Answer.{answer}
use Rattle.decide.specs.Decides.{Yes, No, Spans, Reply, Contradiction, Answered}
use Rattle.claims.specs.Memory.{Keeps}
use Rattle.commands.specs.Call.{lent_tests, Outcome, Refused, Ended, Changed, Asked, judged, replied, effect, call}
use Rattle.commands.specs.Buffers.{Buffers, after}

-- ---- what an answer leaves

-- memory as lent is kept by every answer
same_keeps : (a : Answer) (m : Buffers) → Keeps a m m
same_keeps a m = record { block = λ f. refl; tables = λ e. (refl, refl); spans = λ f. refl; ended = λ e. refl; refused = λ n e. refl }

reply_keeps : (h : Held) (m : Buffers) (u : ℕ) (r : Reply) → Keeps (replied h m u r).answer m (replied h m u r).buffers
reply_keeps h m u (Contradiction a) =
    record { block = λ f. refl; tables = λ e. differ (cc); spans = λ f. refl; ended = λ e. differ (cc); refused = λ n e. differ (cc) }
reply_keeps h m u (Answered Yes) =
    record { block = λ f. refl; tables = λ e. differ (cc); spans = λ f. refl; ended = λ e. differ (cc); refused = λ n e. differ (cc) }
reply_keeps h m u (Answered No) =
    record { block = λ f. refl; tables = λ e. differ (cc); spans = λ f. refl; ended = λ e. differ (cc); refused = λ n e. differ (cc) }
reply_keeps h m u (Answered (Spans rs)) =
    record { block = λ f. refl; tables = λ e. differ (cc); spans = λ f. absurd (f (length rs) refl); ended = λ e. differ (cc); refused = λ n e. differ (cc) }

effect_keeps : (h : Held) (m : Buffers) (o : Outcome) → Keeps (effect h m o).answer m (effect h m o).buffers
effect_keeps h m (Refused n u) = same_keeps (Answer.Refused n) m
effect_keeps h m Ended = same_keeps Answer.End m
effect_keeps h m (Changed k u) =
    record { block = λ f. absurd (f refl); tables = λ e. (refl, refl); spans = λ f. refl; ended = λ e. differ (cc); refused = λ n e. differ (cc) }
effect_keeps h m (Asked q u) = reply_keeps h m u (answer h q)

-- 01, State and tables: what each answer leaves
pub call_keeps : (m : Buffers) (s : List ℕ) → Keeps (call m s).answer m (call m s).buffers
unfolding call
call_keeps m s = go (tested (lent_tests m))
  where
    h : Held
    h = read_held m.block

    go :
        (t : Tested) → let r = on_tested (effect h m (judged h (parse h.settings s))) (λ n. after (Answer.Refused n) 0 m) t in
        Keeps r.answer m r.buffers
    go (Ok passed) = effect_keeps h m (judged h (parse h.settings s))
    go (Err k) = same_keeps (Answer.Refused k) m

-- 01, Where a record is turned away: refusals leave all lent memory unchanged
pub refused_keeps : (m : Buffers) (s : List ℕ) (n : ℕ) → (call m s).answer ≡ Answer.Refused n → (call m s).buffers ≡ m
refused_keeps m s n e = (call_keeps m s).refused n e
