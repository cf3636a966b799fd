-- The first keys are those of the first items, one more with each turn.
use Rattle.std.proofs.Common.{◌∙◌, refl, subst, arith}
use lib.ListN.{length-set}
use Rattle.scans.proofs.Keyed.{paired_none, paired_more}
use Rattle.scans.proofs.keys_of.Goals as goal

pub loop-i-init : goal.loop-i-init
loop-i-init g c = (refl, paired_none _)

pub loop-i-preserved : goal.loop-i-preserved
loop-i-preserved g c =
    let l = c.loop-i in
    let t = c.loop-i-test.true in
    let x = c.index-items-i in (
      length-set l.keys l.i _ ∙ l.invariant.0,
      paired_more _ c.args.items.now l.keys l.i _ x.result t (omega arith) l.invariant.1 (subst (λ y. goal.F-post g c.args.key y c.key.result) x.is c.key.ensures),
    )
