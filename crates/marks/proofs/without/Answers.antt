-- The places behind the gap move up.
use Rattle.std.proofs.Common.{arith, ap, ◌∙◌, ◌-◌, List, take}
use Rattle.terms.specs.declared.Mark.{Mark}
use Rattle.terms.specs.Held.{with_marks}
use Rattle.state.specs.State.{held_of}
use Rattle.marks.proofs.Closed.{closed}
use Rattle.marks.proofs.without.Goals as goal

pub returns : goal.returns
returns c =
    let s = c.args.state in
    let p = c.requires.counts_in in
    record {
      held =
          ap (λ (ms : List Mark). with_marks (held_of s) (take (s.mark_count - 1) ms)) c.copy_within.ensures.after
          ∙ ap (λ (ms : List Mark). with_marks (held_of s) ms) (closed s.marks c.args.at s.mark_count c.requires.at_lt_count (omega arith));
      counts = record {
        rule_places = p.rule_places;
        few_rules = p.few_rules;
        mark_places = c.copy_within.ensures.len ∙ p.mark_places;
        few_marks = omega arith;
      };
    }
