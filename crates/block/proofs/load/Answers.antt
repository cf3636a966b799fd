-- Where a count or a limit is broken the block is not good; else the state is read from the block, and the comparison decides, by `loaded`.
use Rattle.std.proofs.Common.{◌∙◌, sym, ap, arith, rules}
use Rattle.terms.specs.Lists.{limits}
use Rattle.terms.specs.Limits.{RULES, MARKS}
use Rattle.terms.specs.Places.{empty_rule, empty_mark}
use Rattle.block.specs.Places.{rule_from, mark_from}
use Rattle.block.proofs.Tab.{filled_by}
use Rattle.block.proofs.Loading.{too_many_rules, too_many_marks, not_good, held_in, loaded, refused}
use Rattle.block.proofs.load.Goals as goal

pub returns-then-rule_count-gt-RULES : goal.returns-then-rule_count-gt-RULES
returns-then-rule_count-gt-RULES c =
    let b = c.args.block.now in
    not_good b (too_many_rules b (omega (arith, c.u16_at.ensures, c.from-rule_count.ensures)))

pub returns-then-mark_count-gt-MARKS : goal.returns-then-mark_count-gt-MARKS
returns-then-mark_count-gt-MARKS c =
    let b = c.args.block.now in
    not_good b (too_many_marks b (omega (arith, c.u16_at.ensures, c.from-rule_count.ensures)) (omega (arith, c.u16_at-2.ensures, c.from-mark_count.ensures)))

pub returns-then-not-within_limits : goal.returns-then-not-within_limits
returns-then-not-within_limits c =
    let b = c.args.block.now in
    let filled-rules = filled_by RULES _ _ (rule_from b) _ empty_rule (omega arith) (λ i x p. search rules) c.filled.ensures in
    let filled-marks = filled_by MARKS _ _ (mark_from b) _ empty_mark (omega arith) (λ i x p. search rules) c.filled-2.ensures in
    let e = held_in b _ (c.from-rule_count.ensures ∙ c.u16_at.ensures) (c.from-mark_count.ensures ∙ c.u16_at-2.ensures) filled-rules filled-marks c.settings_at.ensures in
    not_good b (sym (ap limits e) ∙ sym c.within_limits.ensures ∙ c.if-not-within_limits.true)

pub returns-then-not-is_copy : goal.returns-then-not-is_copy
returns-then-not-is_copy c =
    let b = c.args.block.now in
    let filled-rules = filled_by RULES _ _ (rule_from b) _ empty_rule (omega arith) (λ i x p. search rules) c.filled.ensures in
    let filled-marks = filled_by MARKS _ _ (mark_from b) _ empty_mark (omega arith) (λ i x p. search rules) c.filled-2.ensures in
    refused b _ (c.from-rule_count.ensures ∙ c.u16_at.ensures) (c.from-mark_count.ensures ∙ c.u16_at-2.ensures) filled-rules filled-marks c.settings_at.ensures
    (sym c.within_limits.ensures ∙ c.if-not-within_limits.false) _ _ _ c.store.ensures c.blank-copy.ensures c.is_copy.ensures c.if-not-is_copy.true

pub returns : goal.returns
returns c =
    let b = c.args.block.now in
    let filled-rules = filled_by RULES _ _ (rule_from b) _ empty_rule (omega arith) (λ i x p. search rules) c.filled.ensures in
    let filled-marks = filled_by MARKS _ _ (mark_from b) _ empty_mark (omega arith) (λ i x p. search rules) c.filled-2.ensures in
    loaded b _ (c.from-rule_count.ensures ∙ c.u16_at.ensures) (c.from-mark_count.ensures ∙ c.u16_at-2.ensures) filled-rules filled-marks c.settings_at.ensures
    (sym c.within_limits.ensures ∙ c.if-not-within_limits.false) _ _ _ c.store.ensures c.blank-copy.ensures c.is_copy.ensures
    (record { rule_places = filled-rules.places; few_rules = omega arith; mark_places = filled-marks.places; few_marks = omega arith })
    c.if-not-is_copy.false
