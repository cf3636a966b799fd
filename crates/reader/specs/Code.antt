-- What the parts of the reading say.
use Rattle.std.specs.Prelude.{◌≡◌, List, ℕ, Result, Ok, Err}
use Rattle.reader.specs.declared.Input.{Input}
use Rattle.records.specs.declared.Command.{Command}
use Rattle.records.specs.Parsed.{Parsed}
use Rattle.records.specs.Records.{parse}
use Rattle.frames.specs.Frames.{body_of}
use Rattle.frames.specs.Framing.{FramedIn}
use Rattle.terms.specs.declared.Settings.{Settings}

-- what was decoded, with the bytes of its record
abbrev pub input_of : Result Command ℕ → ℕ → Input
input_of (Ok c) u = Input.Record c u
input_of (Err n) u = Input.Refused n u

-- what was read, with the body beside its command
abbrev pub parsed_of : Input → List ℕ → Parsed
parsed_of Input.Nothing b = Parsed.Nothing
parsed_of (Input.Refused n u) b = Parsed.Refused n u
parsed_of (Input.Record c u) b = Parsed.Record c b u

-- the bytes are read as the definition says, and a record lies within them
pub record ParsedAs (σ : Settings) (s : List ℕ) (r : Input) : Type 0 where
  pub parsed : parsed_of r (body_of s) ≡ parse σ s
  pub framed : (c : Command) (u : ℕ) → r ≡ Input.Record c u → (k : ℕ) × FramedIn s k u
