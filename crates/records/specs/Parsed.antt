-- What the bytes left are read as.
use Rattle.std.specs.Prelude.{List, ℕ}
use Rattle.records.specs.declared.Command.{Command}

-- nothing; refused with a number; a command with its body, which may have any length; with the bytes used
pub data Parsed : Type 0 where
  Nothing : Parsed
  Refused : ℕ → ℕ → Parsed
  Record : Command → List ℕ → ℕ → Parsed
