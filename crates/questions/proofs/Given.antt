-- What a held state gives the calls that fill the tables and read them. Assumes nothing.
use Prim.Native.Nat.{◌≤◌}
use native.Mathlib.Omega.{arith}
use lib.ListN.{length}
use Rattle.terms.specs.Limits.{CUTS}
use Rattle.terms.specs.Held.{is_rule}
use Rattle.terms.specs.Places.{MarksNamed, rule_at, empty_rule}
use Rattle.terms.proofs.Ends.{in_list}
use Rattle.std.proofs.lemmas.List.{length-take}
use Rattle.line.specs.Intervals.{cuts_of}
use Rattle.state.specs.declared.State.{State}
use Rattle.state.specs.State.{held_of}
use Rattle.state.specs.Holding.{marks_named}
use Rattle.tables.specs.Seeded.{ListsIn}
use Rattle.terms.proofs.Limited.{InRange, Limited, limited, in_range, every_in}
use Rattle.decide.proofs.Count.{few_cuts}
use Rattle.questions.specs.Code.{HeldState}

module _ (s : State) (H : HeldState s) where
  kept : Limited (held_of s)
  kept = limited (held_of s) H.limits

  pub few : length (cuts_of (held_of s)) ≤ CUTS
  few = few_cuts (held_of s) kept

  pub ranged : InRange (held_of s)
  ranged = in_range (held_of s) kept

  -- the held marks are in range
  pub named : MarksNamed (held_of s).marks
  named = marks_named s H.counts kept.marks

  pub lists_in : ListsIn (held_of s).rules (held_of s).marks s.settings
  lists_in = record {
    rules = record {
      few = omega (arith, length-take s.rule_count s.rules, H.counts.few_rules);
      each = λ q l. every_in is_rule (held_of s).rules kept.rules (rule_at (held_of s).rules q) (in_list (held_of s).rules q empty_rule l);
    };
    marks = named;
    hole = ranged.hole;
    inside = ranged.inside;
    cuts = few;
  }
