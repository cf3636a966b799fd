-- What tests came to, handed on, and the refusals of the code as numbers.
use Rattle.std.specs.Prelude.{ℕ, Result, Ok, Err}
use Rattle.terms.specs.declared.Refusal.{Refusal}
use Rattle.terms.specs.Refusals.{number_of_refusal}

-- one thing where no test applies, another by the number where one does
abbrev pub on_tested : {A : Type 0} → A → (ℕ → A) → Result (Unit {0}) ℕ → A
on_tested a f (Ok passed) = a
on_tested a f (Err n) = f n

-- this, and where it passes what comes after it
abbrev pub or_else : Result (Unit {0}) ℕ → Result (Unit {0}) ℕ → Result (Unit {0}) ℕ
or_else t u = on_tested u Err t

-- what the code answers, with the number of its refusal
abbrev pub by_number : {A : Type 0} → Result A Refusal → Result A ℕ
by_number (Ok a) = Ok a
by_number (Err r) = Err (number_of_refusal r)

-- whether it refused, and with what number
abbrev pub tested_of : {A : Type 0} → Result A ℕ → Result (Unit {0}) ℕ
tested_of (Ok a) = Ok tt
tested_of (Err n) = Err n
