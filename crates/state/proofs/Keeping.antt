-- The limits of a state whose counts are within its arrays, as they are judged: the ranges first. Assumes nothing.
use mathlib.Core.Path.{◌≡◌, refl, sym, ◌∙◌}
use mathlib.Core.Bool.{Bool, true, false, not, ◌&&◌}
use mathlib.Core.List.{List}
use native.Mathlib.Omega.{arith}
use borrow.Author.Tests.{le-leb}
use lib.Dec.{T, leb}
use lib.ListN.{take}
use lib.Seq.{length-take-le}
use Rattle.terms.specs.declared.Rule.{Rule}
use Rattle.terms.specs.declared.Mark.{Mark}
use Rattle.terms.specs.Tests.{of_true}
use Rattle.terms.specs.Limits.{RULES, MARKS, DEPTHS}
use Rattle.terms.specs.Holes.{lies_in}
use Rattle.terms.specs.Profiles.{admits}
use Rattle.terms.specs.Held.{ends_of, is_rule, is_mark, is_settings}
use Rattle.terms.specs.Same.{same_rule, same_mark}
use Rattle.terms.specs.Lists.{every, once, depth_count, limits}
use Rattle.state.specs.declared.State.{State}
use Rattle.state.specs.State.{held_of, CountsIn}

-- where something is out of range, and where nothing is
outside : (few r m rest : Bool) → not (r && m) ≡ true → false ≡ (few && (r && (m && rest)))
outside few true true rest e = absurd (of_true e)
outside true true false rest e = refl
outside true false m rest e = refl
outside false true false rest e = refl
outside false false m rest e = refl

inside : (few r m o p q : Bool) → not (r && m) ≡ false → (few && ((o && p) && q)) ≡ (few && (r && (m && (o && (p && q)))))
inside few false m o p q e = absurd (of_true (sym e))
inside few true false o p q e = absurd (of_true (sym e))
inside false true true o p q e = refl
inside true true true false p q e = refl
inside true true true true p q e = refl

second : (a b : Bool) → not (a && b) ≡ false → T b
second false b e = absurd (of_true (sym e))
second true false e = absurd (of_true (sym e))
second true true e = tt

-- the held rules and marks, as they are read
module _ (s : State) (p : CountsIn s) (rules : List Rule) (marks : List Mark) (rules-are : rules ≡ take s.rule_count s.rules) (marks-are : marks ≡ take s.mark_count s.marks) where
  abbrev few : Bool
  few = leb (depth_count (ends_of marks)) DEPTHS

  -- the settings, and the marks and rules under them
  abbrev settled : Bool
  settled = is_settings s.settings && (every (lies_in s.settings.hole) marks && every (admits s.settings.profile) rules)

  kept : limits (held_of s) ≡ (few && (every is_rule rules && (every is_mark marks && (once same_rule rules && (once same_mark marks && settled)))))
  unfolding limits
  kept =
      let n = length-take-le s.rule_count s.rules (omega arith) in
      let m = length-take-le s.mark_count s.marks (omega arith) in
      rw (rules-are, marks-are, n, m, le-leb s.rule_count RULES p.few_rules, le-leb s.mark_count MARKS p.few_marks)

  module _ (r m : Bool) (rule-ranges : r ≡ every is_rule rules) (mark-ranges : m ≡ every is_mark marks) where
    pub out_of_range : not (r && m) ≡ true → false ≡ limits (held_of s)
    out_of_range e =
        outside few (every is_rule rules) (every is_mark marks) (once same_rule rules && (once same_mark marks && settled))
        (rw (rule-ranges, mark-ranges) at e) ∙ sym kept

    pub in_range : not (r && m) ≡ false → (few && ((once same_rule rules && once same_mark marks) && settled)) ≡ limits (held_of s)
    in_range e =
        inside few (every is_rule rules) (every is_mark marks) (once same_rule rules) (once same_mark marks) settled
        (rw (rule-ranges, mark-ranges) at e) ∙ sym kept

    pub marks_ranged : not (r && m) ≡ false → T (every is_mark marks)
    marks_ranged e = rw mark-ranges at (second r m e)
