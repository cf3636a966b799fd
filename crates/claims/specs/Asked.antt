-- The records of a question and of a shift, as bytes.
use Rattle.std.specs.Prelude.{List, ◌∷◌, ℕ, ℤ}
use Rattle.std.specs.Int.{w32, w64}
use Rattle.std.proofs.Common.{SFits}
use Rattle.codec.specs.Bytes.{bytes_of_signed32, bytes_of_signed64}
use Rattle.terms.specs.declared.Atom.TheVariants.{Has, Linked}
use Rattle.terms.specs.declared.Question.{Question}
use Rattle.claims.specs.Beside.{spans_record}

-- 01, Records: a question as a record of kind 10, 11 or 12
abbrev pub question_record : Question → List ℕ
question_record (Question.Holds (Has a A) i) = 12 ∷ 0 ∷ 10 ∷ 0 ∷ a ∷ A ∷ bytes_of_signed64 i
question_record (Question.Holds (Linked a r b) i) = 13 ∷ 0 ∷ 11 ∷ 0 ∷ a ∷ r ∷ b ∷ bytes_of_signed64 i
question_record (Question.Spans a A) = spans_record a A

-- 01, Records: its depth is a signed number of 64 bits
abbrev pub Wide : Question → Type 0
Wide (Question.Holds x i) = SFits w64 i
Wide (Question.Spans a A) = Unit {0}

-- 02, Slip 9: a shift as a record of kind 20
abbrev pub shift_record : ℤ → List ℕ
shift_record c = 6 ∷ 0 ∷ 20 ∷ 0 ∷ bytes_of_signed32 c

-- its amount is a signed number of 32 bits
abbrev pub Narrow : ℤ → Type 0
Narrow c = SFits w32 c
