-- What is lent to a charge, and what it gives back.
use Rattle.std.specs.Prelude.{Bool, not, List, ℕ, ◌%◌, eqb, length}
use Rattle.commands.specs.Buffers.{is_short_or}
use Rattle.charges.specs.declared.Charge.{Charge}

-- 02, Slip 1: block and tables; no span buffer is lent
pub record Tables : Type 0 where
  pub block : List ℕ
  pub labels : List ℕ
  pub links : List ℕ

abbrev pub tables : List ℕ → List ℕ → List ℕ → Tables
tables b t k = record { block = b; labels = t; links = k }

-- the answer, and what is lent afterwards
pub record AfterCharge : Type 0 where
  pub answer : Charge
  pub lent : Tables

abbrev pub after_charge : Charge → Tables → AfterCharge
after_charge c m = record { answer = c; lent = m }

-- 02, Slip 1: three numbers a line; a length that ends inside one
abbrev pub in_line : List ℕ → Bool
in_line ns = not (eqb (length ns % 3) 0)

-- 02, Slip 1: block or a table too short, or lines that end inside one
abbrev pub charge_short : Tables → List ℕ → Bool
charge_short m ns = is_short_or (in_line ns) (length m.block) (length m.labels) (length m.links)
