-- 02, Slip 3: the spans in the lent buffer: after each interval those that ended before it, and in the end all.
use Rattle.std.specs.Prelude.{◌≡◌, List, ◌++◌, ℕ, ℤ, ◌<ℤ◌, length, drop}
use Rattle.terms.specs.declared.Hole.{Hole}
use Rattle.terms.specs.Holes.{InHole}
use Rattle.terms.specs.Held.{◌∈◌}
use Rattle.terms.specs.Spans.{Run, flat}

-- 01, Records: the pairs stand first in the buffer, and behind them it is as lent
pub record SpansWritten (rs : List Run) (before after : List ℤ) (r : ℕ) : Type 0 where
  pub count : r ≡ length rs
  pub buffer : after ≡ flat rs ++ drop (length (flat rs)) before

-- 02, Slip 3: the span ended before interval p, 01's piece of this number: all depths of the interval are deeper than the span's bottom; behind the
-- last interval there are none, and each span has ended
abbrev pub EndedBefore : Hole → (ℤ → ℕ) → ℕ → Run → Type 0
EndedBefore H number p r = (i : ℤ) → InHole H i → number i ≡ p → r.bottom <ℤ i

-- 02, Slip 3: after interval p the buffer holds exactly the spans that ended before it, and is as lent behind them; rs are all spans, shallow to deep,
-- and count is how many are written
pub record AfterInterval (H : Hole) (number : ℤ → ℕ) (rs : List Run) (p : ℕ) (lent now : List ℤ) (count : ℕ) : Type 0 where
  pub ended : List Run
  pub others : List Run
  pub all : rs ≡ ended ++ others
  pub ended_before : (r : Run) → r ∈ ended → EndedBefore H number p r
  pub not_ended_before : (r : Run) → r ∈ others → EndedBefore H number p r → ⊥
  pub written : SpansWritten ended lent now count
