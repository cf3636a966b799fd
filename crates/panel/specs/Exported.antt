-- The exported calls: what C gets back is what the service's definitions give, with the answer as one number.
use Rattle.std.specs.Prelude.{◌≡◌, ℕ, ◌+◌, ◌*◌, ◌/◌, ◌%◌, ◌^◌, ◌<◌}
use Rattle.terms.specs.declared.Answer.{Answer}
use Rattle.terms.specs.Answers.{number_of, value_of}
use Rattle.commands.specs.Buffers.{Buffers, After}
use Rattle.charges.specs.declared.Charge.{Charge}
use Rattle.charges.specs.Charges as Charges
use Rattle.charges.specs.Charges.{total_or}
use Rattle.service.specs.Tables.{Tables, AfterCharge}

-- one number of two: one in the upper half, one in the lower
abbrev pub halves : ℕ → ℕ → ℕ
halves n v = n * 65536 + v

-- an answer as one number: its own number in the upper half, its value in the lower
abbrev pub packed : Answer → ℕ
packed a = halves (number_of a) (value_of a)

-- what C gets back: the number, the bytes used and the lent memory
pub record Returned : Type 0 where
  pub number : ℕ
  pub used : ℕ
  pub buffers : Buffers

abbrev pub returned : ℕ → ℕ → Buffers → Returned
returned n u m = record { number = n; used = u; buffers = m }

abbrev pub exported : After → Returned
exported a = returned (packed a.answer) a.used a.buffers

-- 02, Slip 1: a charge as one number, in the same way
abbrev pub packed_charge : Charge → ℕ
packed_charge c = halves (Charges.number_of c) (Charges.value_of c)

-- 02, Slip 1: what C gets back of one: the number, the total, and the lent memory
pub record ReturnedCharge : Type 0 where
  pub number : ℕ
  pub total : ℕ
  pub lent : Tables

abbrev pub returned_charge : ℕ → ℕ → Tables → ReturnedCharge
returned_charge n t m = record { number = n; total = t; lent = m }

-- 02, Slip 1: where there is no total, the lent number is as it was
abbrev pub exported_charge : ℕ → AfterCharge → ReturnedCharge
exported_charge before r = returned_charge (packed_charge r.answer) (total_or before r.answer) r.lent

-- C gets the answer back: its number and value, read off the number that C gets, which 32 bits hold
pub record Unpacked (a : Answer) : Type 0 where
  pub number : packed a / 65536 ≡ number_of a
  pub value : packed a % 65536 ≡ value_of a
  pub fits : packed a < 2 ^ 32

-- and a charge: beside these a total that 64 bits hold
pub record UnpackedCharge (c : Charge) : Type 0 where
  pub number : packed_charge c / 65536 ≡ Charges.number_of c
  pub value : packed_charge c % 65536 ≡ Charges.value_of c
  pub fits : packed_charge c < 2 ^ 32
  pub total : total_or 0 c < 2 ^ 64
