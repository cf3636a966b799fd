-- What the parts of the program say.
use Rattle.std.specs.Prelude.{◌≡◌, Bool, true, false, List, ℕ, ◌≤◌, length, drop}
use Rattle.terms.specs.declared.Answer.{Answer}
use Rattle.commands.specs.Buffers.{Buffers}
use Rattle.harmikse.specs.declared.Place.{Place}
use Rattle.harmikse.specs.Program.{Reaches, Whole}

abbrev pub is_end : Answer → Bool
is_end Answer.Done = false
is_end Answer.Yes = false
is_end Answer.No = false
is_end (Answer.Contradiction item) = false
is_end (Answer.Spans count) = false
is_end Answer.End = true
is_end (Answer.Refused number) = false

-- a record stands at a place, after n of them; each has used a byte at least
pub record On (input : List ℕ) (m : Buffers) (n at : ℕ) : Type 0 where
  pub reached : Reaches input n m (drop at input)
  pub place : at ≤ length input
  pub few : n ≤ at

-- where the run is: at a record, or behind its last line, unless a write failed
pub record Runs (input : List ℕ) (m : Buffers) (r : Place) : Type 0 where
  pub on : r.going ≡ true → On input m r.printed r.at
  pub whole : r.going ≡ false → r.failed ≡ false → Whole input r.printed
