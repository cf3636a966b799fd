-- The spans of a label, interval by interval.
use Rattle.std.specs.Prelude.{Option, None, Some, Bool, true, false, List, [], ◌∷◌, ℕ, zero, suc, pred, ◌+◌, ◌*◌, eqb, ℤ, length, get_or}
use Rattle.terms.specs.Limits.{INTERVALS}
use Rattle.terms.specs.Spans.{Run, run}
use Rattle.words.specs.Bit.{bit_at}
use Rattle.line.specs.Cuts.{top_from, bottom_to}

-- from the top of interval s to the bottom of interval q, on a line with the ends e
abbrev pub stretch_of : Run → List ℤ → ℕ → ℕ → Run
stretch_of e cs s q = run (top_from e.top cs s) (bottom_to e.bottom cs q)

-- the spans that end at or behind interval p, with n intervals to go, where a span has begun at the interval that is given, if one is; `has` says which
-- intervals have the label
abbrev pub runs_from : Run → List ℤ → (ℕ → Bool) → ℕ → ℕ → Option ℕ → List Run
runs_from e cs has zero p None = []
runs_from e cs has zero p (Some s) = stretch_of e cs s (pred p) ∷ []
runs_from e cs has (suc n) p None = elim (has p) [ true ↦ runs_from e cs has n (suc p) (Some p) | false ↦ runs_from e cs has n (suc p) None ]
runs_from e cs has (suc n) p (Some s) = elim (has p) [
  | true ↦ runs_from e cs has n (suc p) (Some s)
  | false ↦ stretch_of e cs s (pred p) ∷ runs_from e cs has n (suc p) None
]

-- 01, Records: the longest runs, shallow to deep; neighbouring intervals that both have the label are one span
unfoldable pub runs : Run → List ℤ → (ℕ → Bool) → List Run
runs e cs has = runs_from e cs has (suc (length cs)) 0 None

-- the label's bit in an item's entries of the label table
abbrev pub has_label : List ℕ → ℕ → ℕ → ℕ → Bool
has_label labels item label p = eqb (bit_at (get_or labels (item * INTERVALS + p) 0) label) 1
