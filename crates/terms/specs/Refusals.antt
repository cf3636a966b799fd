-- 01's refusals, as the code names them, by number.
use Rattle.std.specs.Prelude.{ℕ}
use Rattle.terms.specs.declared.Refusal.{Refusal}
use Rattle.terms.specs.declared.Refusal.TheVariants.{
  ShortMemory,
  BadBlock,
  BadFrame,
  UnknownKind,
  BadLength,
  BadName,
  BadOperator,
  BadDepth,
  AlreadyHeld,
  NotHeld,
  ListFull,
  TooManyDepths,
  BadPrice,
  EndsReversed,
  RulesHeld,
  OutsideHole,
  MarksHeld,
  OutsideProfile,
}

-- 01, Where a record is turned away: the number of each; 13 to 17 and 20 are 02's, which has no 18 and 19
abbrev pub number_of_refusal : Refusal → ℕ
number_of_refusal ShortMemory = 1
number_of_refusal BadBlock = 2
number_of_refusal BadFrame = 3
number_of_refusal UnknownKind = 4
number_of_refusal BadLength = 5
number_of_refusal BadName = 6
number_of_refusal BadOperator = 7
number_of_refusal BadDepth = 8
number_of_refusal AlreadyHeld = 9
number_of_refusal NotHeld = 10
number_of_refusal ListFull = 11
number_of_refusal TooManyDepths = 12
number_of_refusal BadPrice = 13
number_of_refusal EndsReversed = 14
number_of_refusal RulesHeld = 15
number_of_refusal OutsideHole = 16
number_of_refusal MarksHeld = 17
number_of_refusal OutsideProfile = 20
