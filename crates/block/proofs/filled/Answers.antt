-- The places passed are as they are read.
use Rattle.std.proofs.Common.{rules, arith}
use Rattle.std.proofs.lemmas.List.{length-replicate}
use Rattle.block.proofs.Tab.{read_none, read_more}
use Rattle.block.proofs.filled.Goals as goal

pub loop-i-init : goal.loop-i-init
loop-i-init g c = read_none _ _ _ (search (rules, length-replicate))

pub loop-i-preserved : goal.loop-i-preserved
loop-i-preserved g c =
    let t = c.loop-i-test.true in
    read_more _ _ _ _ _ (omega arith) c.loop-i.invariant c.read.ensures

pub returns : goal.returns
returns g c =
    let l = c.loop-i in
    let t = c.loop-i-test.false in
    record { places = l.invariant.places; each = λ i d h. l.invariant.each i d (omega arith) }
