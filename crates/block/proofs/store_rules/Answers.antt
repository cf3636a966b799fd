-- The loop has laid the first i rules, one behind the other.
use Rattle.std.proofs.Common.{refl, sym, ◌∙◌, arith}
use Rattle.codec.proofs.Laws.{put_nil}
use Rattle.places.specs.Layout.{rule_bytes, cat, RULE_BYTES, HEADER}
use Rattle.places.proofs.Sizes.{rule_size}
use Rattle.block.proofs.Tab.{lay_next}
use Rattle.block.proofs.store_rules.Goals as goal

pub loop-i-init : goal.loop-i-init
unfolding cat
loop-i-init c = (refl, sym (put_nil _ _))

pub loop-i-preserved : goal.loop-i-preserved
loop-i-preserved c =
    let l = c.loop-i in
    let xs = c.args.rules.now in
    let t = c.loop-i-test.true in
    let p = c.put_rule in
    (p.auto.b ∙ l.invariant.0, lay_next rule_bytes RULE_BYTES rule_size c.args.b.now HEADER xs (omega arith) l.i _ t _ _ l.invariant.1 p.ensures)
