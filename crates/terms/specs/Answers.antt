-- 01's answers as numbers.
use Rattle.std.specs.Prelude.{ℕ}
use Rattle.terms.specs.declared.Answer.{Answer}
use Rattle.terms.specs.declared.Answer.TheVariants.{Done, Yes, No, Contradiction, Spans, End, Refused}

-- 01, Records: the answers in the order in which Results names them; a refusal is the last
abbrev pub number_of : Answer → ℕ
number_of Done = 0
number_of Yes = 1
number_of No = 2
number_of (Contradiction item) = 3
number_of (Spans count) = 4
number_of End = 5
number_of (Refused number) = 6

-- 01, Records: the value that an answer carries
abbrev pub value_of : Answer → ℕ
value_of Done = 0
value_of Yes = 0
value_of No = 0
value_of (Contradiction item) = item
value_of (Spans count) = count
value_of End = 0
value_of (Refused number) = number
