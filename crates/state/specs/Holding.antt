-- What a state holds after a change.
use Rattle.std.specs.Prelude.{◌≡◌, refl, T}
use Rattle.std.proofs.Common.{sym, subst, arith}
use Rattle.std.proofs.lemmas.List.{length-replicate, length-take}
use Rattle.terms.specs.Limits.{RULES, MARKS}
use Rattle.terms.specs.Held.{Held, is_mark, empty_held}
use Rattle.terms.specs.Places.{empty_mark, empty_rule, MarksNamed}
use Rattle.terms.specs.Lists.{every}
use Rattle.terms.proofs.Limited.{every_in}
use Rattle.state.specs.declared.State.{State}
use Rattle.state.specs.State.{held_of, empty_state, CountsIn}

-- the state holds h
pub record Holds (h : Held) (s : State) : Type 0 where
  pub held : held_of s ≡ h
  pub counts : CountsIn s

-- what the changes ask of the held marks, where each is in range
pub marks_named : (s : State) → CountsIn s → T (every is_mark (held_of s).marks) → MarksNamed (held_of s).marks
marks_named s p t = record { few = omega (arith, length-take s.mark_count s.marks, p.few_marks); each = λ k m. every_in is_mark (held_of s).marks t k m }

-- a fresh state holds nothing
empty_holds : Holds empty_held empty_state
unfolding empty_state
empty_holds = record {
  held = refl;
  counts = record {
    rule_places = length-replicate RULES empty_rule;
    few_rules = omega arith;
    mark_places = length-replicate MARKS empty_mark;
    few_marks = omega arith;
  };
}

pub fresh_holds : {s : State} → s ≡ empty_state → Holds empty_held s
fresh_holds e = subst (Holds empty_held) (sym e) empty_holds
