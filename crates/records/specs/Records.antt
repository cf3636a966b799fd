-- How a record is read, by its kind: the tests of each body, and the command that it says.
use Rattle.std.specs.Prelude.{not, cond, ◌&&◌, List, [], ◌∷◌, ℕ, eqb, ℤ, Option, Result, Ok, Err}
use Rattle.std.specs.Int.Signed.{le_z}
use Rattle.terms.specs.declared.Operator.{Operator}
use Rattle.terms.specs.declared.Rule.{Rule}
use Rattle.terms.specs.declared.Mark.{Mark}
use Rattle.terms.specs.declared.Question.{Question}
use Rattle.terms.specs.declared.Settings.{Settings}
use Rattle.terms.specs.Limits.{is_depth}
use Rattle.terms.specs.Held.{is_named, is_markable, is_placed, is_ordered, is_question}
use Rattle.refusals.specs.Refusals.{Test, Tested, test, tested}
use Rattle.terms.specs.Otherwise.{on_tested}
use Rattle.records.specs.declared.Command.{Command}
use Rattle.frames.specs.declared.Framed.{Framed}
use Rattle.frames.specs.Framing.{framed}
use Rattle.frames.specs.Frames.{body_of}
use Rattle.records.specs.Formats.{
  operator_at,
  is_invalid,
  label_rule,
  both_rule,
  link_rule,
  via_rule,
  label_mark,
  link_mark,
  label_stretch,
  link_stretch,
  counting_at,
  is_no_counting,
  hole_top,
  hole_bottom,
  shift_at,
  label_question,
  link_question,
  spans_question,
}
use Rattle.records.specs.Parsed.{Parsed}

-- ---- 01, Where a record is turned away: body. Names are judged under the settings

-- a rule without an operator, one with an operator, a mark to put or to take, a question
abbrev pub named_tests : Settings → Rule → List Test
named_tests σ ρ = test (not (is_named ρ)) 6 ∷ []

abbrev pub operator_tests : Settings → Option Operator → Rule → List Test
operator_tests σ r ρ = test (not (is_named ρ)) 6 ∷ test (is_invalid r) 7 ∷ []

abbrev pub mark_tests : Settings → Mark → List Test
mark_tests σ m = test (not (is_markable m.atom)) 6 ∷ test (not (is_placed m)) 8 ∷ test (not (is_ordered m)) 14 ∷ []

-- 02, Slip 4: what is no counting is number 7
abbrev pub counting_tests : List ℕ → List Test
counting_tests b = test (is_no_counting b) 7 ∷ []

-- 02, Slip 5: an end out of range is number 8, a top deeper than the bottom 14
abbrev pub hole_tests : ℤ → ℤ → List Test
hole_tests t b = test (not (is_depth t && is_depth b)) 8 ∷ test (not (le_z t b)) 14 ∷ []

abbrev pub question_tests : Settings → Question → List Test
question_tests σ q = test (not (is_question q)) 6 ∷ []

-- ---- kinds

-- a row of the table of kinds: number, the tests of its body, and what the body says
pub record Kind : Type 0 where
  pub number : ℕ
  pub tests : Settings → List ℕ → List Test
  pub command : List ℕ → Command

abbrev pub kind : ℕ → (Settings → List ℕ → List Test) → (List ℕ → Command) → Kind
kind n t c = record { number = n; tests = t; command = c }

-- 01, Records: the table; 02, Slip 2: the stretches; Slip 4: the counting; Slip 5: the hole; Slip 9: the shift; Slip 10: the profile
abbrev pub kinds : List Kind
kinds =
    kind 1 (λ σ b. []) (λ b. Command.Reset)
    ∷ kind 2 (λ σ b. operator_tests σ (operator_at b) (label_rule b)) (λ b. Command.Add (label_rule b))
    ∷ kind 3 (λ σ b. named_tests σ (both_rule b)) (λ b. Command.Add (both_rule b))
    ∷ kind 4 (λ σ b. operator_tests σ (operator_at b) (link_rule b)) (λ b. Command.Add (link_rule b))
    ∷ kind 5 (λ σ b. named_tests σ (via_rule b)) (λ b. Command.Add (via_rule b))
    ∷ kind 6 (λ σ b. mark_tests σ (label_mark b)) (λ b. Command.Put (label_mark b))
    ∷ kind 7 (λ σ b. mark_tests σ (link_mark b)) (λ b. Command.Put (link_mark b))
    ∷ kind 8 (λ σ b. mark_tests σ (label_mark b)) (λ b. Command.Take (label_mark b))
    ∷ kind 9 (λ σ b. mark_tests σ (link_mark b)) (λ b. Command.Take (link_mark b))
    ∷ kind 10 (λ σ b. question_tests σ (label_question b)) (λ b. Command.Ask (label_question b))
    ∷ kind 11 (λ σ b. question_tests σ (link_question b)) (λ b. Command.Ask (link_question b))
    ∷ kind 12 (λ σ b. question_tests σ (spans_question b)) (λ b. Command.Ask (spans_question b))
    ∷ kind 13 (λ σ b. mark_tests σ (label_stretch b)) (λ b. Command.Put (label_stretch b))
    ∷ kind 14 (λ σ b. mark_tests σ (link_stretch b)) (λ b. Command.Put (link_stretch b))
    ∷ kind 15 (λ σ b. mark_tests σ (label_stretch b)) (λ b. Command.Take (label_stretch b))
    ∷ kind 16 (λ σ b. mark_tests σ (link_stretch b)) (λ b. Command.Take (link_stretch b))
    ∷ kind 17 (λ σ b. counting_tests b) (λ b. Command.Count (counting_at b))
    ∷ kind 18 (λ σ b. hole_tests (hole_top b) (hole_bottom b)) (λ b. Command.Confine (hole_top b) (hole_bottom b))
    ∷ kind 20 (λ σ b. []) (λ b. Command.Shift (shift_at b))
    ∷ kind 21 (λ σ b. []) (λ b. Command.Restrict)
    ∷ []

-- what f says of the row of a kind; d for a kind that the table has not, which the frame refuses before its body is looked at
abbrev pub at_kind : {A : Type 0} → (Kind → A) → A → List Kind → ℕ → A
at_kind f d [] k = d
at_kind f d (r ∷ rs) k = cond (eqb k r.number) (f r) (at_kind f d rs k)

unfoldable pub body_tests : Settings → ℕ → List ℕ → List Test
body_tests σ k b = at_kind (λ r. r.tests σ b) [] kinds k

unfoldable pub command_in : ℕ → List ℕ → Command
command_in k b = at_kind (λ r. r.command b) Command.Reset kinds k

-- the command where no test applies
abbrev pub decoded_as : Tested → Command → Result Command ℕ
decoded_as t c = on_tested (Ok c) Err t

-- the rules, marks and questions of bodies by their tests
abbrev pub as_rule : Settings → Rule → Result Command ℕ
as_rule σ ρ = decoded_as (tested (named_tests σ ρ)) (Command.Add ρ)

abbrev pub as_operator_rule : Settings → Option Operator → Rule → Result Command ℕ
as_operator_rule σ r ρ = decoded_as (tested (operator_tests σ r ρ)) (Command.Add ρ)

abbrev pub as_put : Settings → Mark → Result Command ℕ
as_put σ m = decoded_as (tested (mark_tests σ m)) (Command.Put m)

abbrev pub as_take : Settings → Mark → Result Command ℕ
as_take σ m = decoded_as (tested (mark_tests σ m)) (Command.Take m)

abbrev pub as_counting : List ℕ → Result Command ℕ
as_counting b = decoded_as (tested (counting_tests b)) (Command.Count (counting_at b))

abbrev pub as_hole : List ℕ → Result Command ℕ
as_hole b = decoded_as (tested (hole_tests (hole_top b) (hole_bottom b))) (Command.Confine (hole_top b) (hole_bottom b))

abbrev pub as_question : Settings → Question → Result Command ℕ
as_question σ q = decoded_as (tested (question_tests σ q)) (Command.Ask q)

-- a body of a kind of the table
abbrev pub decode_body : Settings → ℕ → List ℕ → Result Command ℕ
decode_body σ k b = decoded_as (tested (body_tests σ k b)) (command_in k b)

-- ---- a record

abbrev pub parsed_body : Result Command ℕ → List ℕ → ℕ → Parsed
parsed_body (Ok c) b u = Parsed.Record c b u
parsed_body (Err n) b u = Parsed.Refused n u

abbrev pub parsed_frame : Settings → List ℕ → Framed → Parsed
parsed_frame σ s Framed.Nothing = Parsed.Nothing
parsed_frame σ s (Framed.Refused n u) = Parsed.Refused n u
parsed_frame σ s (Framed.Record k u) = parsed_body (decode_body σ k (body_of s)) (body_of s) u

-- what is left of the input, read under the settings
unfoldable pub parse : Settings → List ℕ → Parsed
parse σ s = parsed_frame σ s (framed s)
