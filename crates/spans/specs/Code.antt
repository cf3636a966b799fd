-- What the contracts say of the spans in the lent buffer. Assumes nothing.
use Rattle.std.specs.Prelude.{◌≡◌, Option, None, Some, Bool, true, false, List, [], ◌∷◌, ◌++◌, ℕ, zero, suc, pred, ◌+◌, ◌*◌, ◌≤◌, ◌<◌, ℤ, length, take, drop}
use Rattle.terms.specs.Limits.{ITEMS, LABELS, LABEL_ENTRIES, SPAN_NUMBERS}
use Rattle.terms.specs.Spans.{Run, run, flat}
use Rattle.spans.specs.declared.Ends.{Ends}
use Rattle.spans.specs.declared.Progress.{Progress}
pub use Rattle.spans.specs.Ended.{SpansWritten}
use Rattle.spans.specs.Runs.{stretch_of}

-- item and label are in the label table
pub record InTable (table : List ℕ) (a A : ℕ) : Type 0 where
  pub item : a < ITEMS
  pub label : A < LABELS
  pub labels : LABEL_ENTRIES ≤ length table

-- what a call for a label's spans may be given
pub record ToWrite (buffer : List ℤ) (table : List ℕ) (a A : ℕ) : Type 0 where
  pub in_table : InTable table a A
  pub spans : SPAN_NUMBERS ≤ length buffer

-- these values from this place on, and the others as they were
unfoldable pub laid : List ℤ → ℕ → List ℤ → List ℤ
laid l at vs = (take at l ++ vs) ++ drop (at + length vs) l

-- the span that has begun, if there is one, began before interval p
abbrev pub Earlier : Option ℕ → ℕ → Type 0
Earlier None p = Unit {0}
Earlier (Some s) p = s < p

-- the span that ends before interval p, by whether p has the label
abbrev pub ended_at : Run → List ℤ → ℕ → Bool → Option ℕ → List Run
ended_at e cs p true g = []
ended_at e cs p false None = []
ended_at e cs p false (Some s) = stretch_of e cs s (pred p) ∷ []

-- whether a span has begun behind interval p
abbrev pub begun_after : ℕ → Bool → Option ℕ → Option ℕ
begun_after p false g = None
begun_after p true None = Some p
begun_after p true (Some s) = Some s

-- a span from one interval to the one before another
pub record ToEnd (cs : List ℤ) (since p : ℕ) : Type 0 where
  pub begins : since < p
  pub inside : p ≤ length cs + 1

-- what a pass of interval p may be given; behind the last interval one more, without the label, ends the open span
pub record ToPass (cs : List ℤ) (p : ℕ) (g : Option ℕ) : Type 0 where
  pub inside : p ≤ length cs + 1
  pub begins : Earlier g p

-- the span that a pass gives, by its two ends
abbrev pub given : Option Ends → List Run
given None = []
given (Some e) = run e.top e.bottom ∷ []

-- and what a step, which writes it
pub record ToStep (e : Run) (buffer cs : List ℤ) (p : ℕ) (has : Bool) (g : Progress) : Type 0 where
  pub pass : ToPass cs p g.since
  pub room : 2 * (g.count + length (ended_at e cs p has g.since)) ≤ length buffer

-- what the step at interval p does
pub record Stepped (e : Run) (cs : List ℤ) (p : ℕ) (has : Bool) (g : Progress) (before after : List ℤ) (r : Progress) : Type 0 where
  pub begun : r.since ≡ begun_after p has g.since
  pub count : r.count ≡ g.count + length (ended_at e cs p has g.since)
  pub buffer : after ≡ laid before (2 * g.count) (flat (ended_at e cs p has g.since))

-- nothing has begun, and nothing is written
abbrev pub fresh : Progress
fresh = record { since = None; count = 0 }

-- the loop of `write_spans` where it comes to an interval: the progress and the buffer that so many steps from the lent one on leave, each by `step`'s contract
pub data Walked (e : Run) (cs : List ℤ) (has : ℕ → Bool) (lent : List ℤ) : ℕ → Progress → List ℤ → Type 0 where
  none : Walked e cs has lent zero fresh lent
  next : (p : ℕ) (g r : Progress) (now after : List ℤ) → Walked e cs has lent p g now → Stepped e cs p (has p) g now after r →
      Walked e cs has lent (suc p) r after
