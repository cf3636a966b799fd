-- 01's records: the fields of each kind's body.
use Rattle.std.specs.Prelude.{Bool, true, false, not, List, ℕ, ℤ, get_or, Option, Some, None}
use Rattle.codec.specs.Bytes.{little, signed32_at, signed64_at}
use Rattle.terms.specs.declared.Operator.{Operator}
use Rattle.terms.specs.declared.Counting.{Counting}
use Rattle.terms.specs.declared.Rule.{Rule}
use Rattle.terms.specs.declared.Rule.TheVariants.{Label, Both, Link, Via}
use Rattle.terms.specs.declared.Atom.TheVariants.{Has, Linked}
use Rattle.terms.specs.declared.Mark.{Mark}
use Rattle.terms.specs.declared.Question.{Question}
use Rattle.terms.specs.Countings.{is_counting, counting_of}
use Rattle.terms.specs.Operators.{operator_of, or_identity}

-- ---- the bodies

-- 01, Records: code and n, one after the other
abbrev pub operator_at : List ℕ → Option Operator
operator_at b = operator_of (get_or b 0 0) (little 4 b 1)

abbrev pub is_invalid : Option Operator → Bool
is_invalid (Some o) = false
is_invalid None = true

-- 01, Records: the rules
abbrev pub label_rule : List ℕ → Rule
label_rule b = Label (or_identity (operator_at b)) (get_or b 5 0) (get_or b 6 0)

abbrev pub both_rule : List ℕ → Rule
both_rule b = Both (get_or b 0 0) (get_or b 1 0) (get_or b 2 0)

abbrev pub link_rule : List ℕ → Rule
link_rule b = Link (or_identity (operator_at b)) (get_or b 5 0) (get_or b 6 0)

abbrev pub via_rule : List ℕ → Rule
via_rule b = Via (get_or b 0 0) (get_or b 1 0) (get_or b 2 0)

-- 01, Records: the marks; 02, Slip 2: the old kinds have both ends equal
abbrev pub label_mark : List ℕ → Mark
label_mark b = record { atom = Has (get_or b 0 0) (get_or b 1 0); top = signed32_at b 2; bottom = signed32_at b 2 }

abbrev pub link_mark : List ℕ → Mark
link_mark b = record { atom = Linked (get_or b 0 0) (get_or b 1 0) (get_or b 2 0); top = signed32_at b 3; bottom = signed32_at b 3 }

-- 02, Slip 2: top and bottom after the names
abbrev pub label_stretch : List ℕ → Mark
label_stretch b = record { atom = Has (get_or b 0 0) (get_or b 1 0); top = signed32_at b 2; bottom = signed32_at b 6 }

abbrev pub link_stretch : List ℕ → Mark
link_stretch b = record { atom = Linked (get_or b 0 0) (get_or b 1 0) (get_or b 2 0); top = signed32_at b 3; bottom = signed32_at b 7 }

-- 02, Slip 4: the counting that the byte names
abbrev pub counting_at : List ℕ → Counting
counting_at b = counting_of (get_or b 0 0)

-- and that it names none
abbrev pub is_no_counting : List ℕ → Bool
is_no_counting b = not (is_counting (get_or b 0 0))

-- 02, Slip 5: the hole's top and bottom
abbrev pub hole_top : List ℕ → ℤ
hole_top b = signed32_at b 0

abbrev pub hole_bottom : List ℕ → ℤ
hole_bottom b = signed32_at b 4

-- 02, Slip 9: the shift
abbrev pub shift_at : List ℕ → ℤ
shift_at b = signed32_at b 0

-- 01, Records: the questions
abbrev pub label_question : List ℕ → Question
label_question b = Question.Holds (Has (get_or b 0 0) (get_or b 1 0)) (signed64_at b 2)

abbrev pub link_question : List ℕ → Question
link_question b = Question.Holds (Linked (get_or b 0 0) (get_or b 1 0) (get_or b 2 0)) (signed64_at b 3)

abbrev pub spans_question : List ℕ → Question
spans_question b = Question.Spans (get_or b 0 0) (get_or b 1 0)
