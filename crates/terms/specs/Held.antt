-- What is held, and the ranges of what can be.
use Rattle.std.specs.Prelude.{Bool, ◌&&◌, ℤ, ◌≤ℤ◌}
use mathlib.Core.List.{List, [], ◌∷◌, Memᴰ}
use Rattle.std.specs.Int.Signed.{le_z}
use Rattle.terms.specs.declared.Operator.{Operator}
use Rattle.terms.specs.declared.Operator.TheVariants.{Between}
use Rattle.terms.specs.declared.Rule.{Rule}
use Rattle.terms.specs.declared.Rule.TheVariants.{Label, Both, Link, Via}
use Rattle.terms.specs.declared.Atom.{Atom}
use Rattle.terms.specs.declared.Atom.TheVariants.{Has, Linked}
use Rattle.terms.specs.declared.Mark.{Mark}
use Rattle.terms.specs.declared.Question.{Question}
use Rattle.terms.specs.declared.Counting.{Counting}
use Rattle.terms.specs.declared.Counting.TheVariants.{Old}
use Rattle.terms.specs.declared.Hole.{Hole}
use Rattle.terms.specs.declared.Hole.TheVariants.{Whole}
use Rattle.terms.specs.declared.Profile.{Profile}
use Rattle.terms.specs.declared.Profile.TheVariants.{Off}
use Rattle.terms.specs.declared.Settings.{Settings}
use Rattle.terms.specs.Limits.{is_item, is_kind, is_left, is_concluded, is_marked, is_label, is_depth}
use Rattle.terms.specs.Operators.{is_operator}
use Rattle.terms.specs.Holes.{is_hole}

infix 50 ◌∈◌
abbrev pub ◌∈◌ : {X : Type 0} → X → List X → Type 0
x ∈ xs = Memᴰ x xs

-- 01, The book: what RESET sets beside the lists; 02, Slips 4, 5 and 10: it goes back to the old counting, there is no hole, and the profile is off
abbrev pub fresh_settings : Settings
fresh_settings = record { counting = Old; hole = Whole; profile = Off }

-- and what may be set: either counting, no hole or one within the range of marks, its top not deeper than its bottom, and the profile off or on
abbrev pub is_settings : Settings → Bool
is_settings s = is_hole s.hole

-- 01, State and tables: the held rules and marks, in the order of putting, and the settings
pub record Held : Type 0 where
  pub rules : List Rule
  pub marks : List Mark
  pub settings : Settings

abbrev pub with_rules : Held → List Rule → Held
with_rules h rs = record { rules = rs; marks = h.marks; settings = h.settings }

abbrev pub with_marks : Held → List Mark → Held
with_marks h ms = record { rules = h.rules; marks = ms; settings = h.settings }

-- 02: other settings
abbrev pub with_settings : Held → Settings → Held
with_settings h s = record { rules = h.rules; marks = h.marks; settings = s }

-- 02, Slip 4: the counting in force, and another set
abbrev pub counting_in : Held → Counting
counting_in h = h.settings.counting

abbrev pub with_counting : Held → Counting → Held
with_counting h c = with_settings h (record { counting = c; hole = h.settings.hole; profile = h.settings.profile })

-- 02, Slip 5: the hole in force, and another set
abbrev pub hole_in : Held → Hole
hole_in h = h.settings.hole

abbrev pub with_hole : Held → Hole → Held
with_hole h H = with_settings h (record { counting = h.settings.counting; hole = H; profile = h.settings.profile })

-- 02, Slip 10: whether the profile is on, and switched
abbrev pub profile_in : Held → Profile
profile_in h = h.settings.profile

abbrev pub with_profile : Held → Profile → Held
with_profile h p = with_settings h (record { counting = h.settings.counting; hole = h.settings.hole; profile = p })

-- 01, The book: both lists empty at first, and nothing set
abbrev pub empty_held : Held
empty_held = record { rules = []; marks = []; settings = fresh_settings }

-- 02, Slip 2: where a mark is true, at each depth from its top to its bottom
abbrev pub At : Mark → ℤ → Type 0
At m i = (m.top ≤ℤ i) × (i ≤ℤ m.bottom)

-- 02, Slip 2: the marked depths, both ends of each mark
abbrev pub ends_of : List Mark → List ℤ
ends_of [] = []
ends_of (m ∷ ms) = m.top ∷ m.bottom ∷ ends_of ms

-- 01, Rules of derivation: a statement names items, a label or a link kind that there are
abbrev pub is_statement : Atom → Bool
is_statement (Has a A) = is_item a && is_label A
is_statement (Linked a r b) = is_item a && (is_kind r && is_item b)

-- 01, Records: a question names what there is; its depth may be any
abbrev pub is_question : Question → Bool
is_question (Question.Holds x i) = is_statement x
is_question (Question.Spans a A) = is_statement (Has a A)

-- a rule's operator; BETWEEN, which is always in range, where it has none
abbrev pub operator_in : Rule → Operator
operator_in (Label o A B) = o
operator_in (Both A B C) = Between
operator_in (Link o r s) = o
operator_in (Via r A B) = Between

-- a rule with what f makes of its operator in its place
abbrev pub turn : (Operator → Operator) → Rule → Rule
turn f (Label op A B) = Label (f op) A B
turn f (Both A B C) = Both A B C
turn f (Link op r s) = Link (f op) r s
turn f (Via r A B) = Via r A B

-- 01, Records: the labels and link kinds of a rule
abbrev pub is_named : Rule → Bool
is_named (Label op A B) = is_left A && is_concluded B
is_named (Both A B C) = is_left A && (is_left B && is_concluded C)
is_named (Link op r s) = is_kind r && is_kind s
is_named (Via r A B) = is_kind r && (is_left A && is_concluded B)

-- 01, Records: the fields of a rule
abbrev pub is_rule : Rule → Bool
is_rule ρ = is_operator (operator_in ρ) && is_named ρ

-- 01, Records: the fields of a mark, without its ends
abbrev pub is_markable : Atom → Bool
is_markable (Has a A) = is_item a && is_marked A
is_markable (Linked a r b) = is_item a && (is_kind r && is_item b)

-- 01, Names and depths: both ends lie where marks lie
abbrev pub is_placed : Mark → Bool
is_placed m = is_depth m.top && is_depth m.bottom

-- 02, Slip 2: the top is not deeper than the bottom
abbrev pub is_ordered : Mark → Bool
is_ordered m = le_z m.top m.bottom

-- 01, Records: the fields of a mark
abbrev pub is_mark : Mark → Bool
is_mark m = is_markable m.atom && (is_placed m && is_ordered m)
