-- How many bytes came, whether a read failed behind them or none did.
use Rattle.std.specs.Prelude.{ℕ, Result, Ok, Err}

abbrev pub came : Result ℕ ℕ → ℕ
came (Ok n) = n
came (Err n) = n
