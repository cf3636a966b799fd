-- The loop has laid the first i marks, one behind the other.
use Rattle.std.proofs.Common.{refl, sym, ◌∙◌, arith}
use Rattle.codec.proofs.Laws.{put_nil}
use Rattle.places.specs.Layout.{mark_bytes, cat, MARK_BYTES, MARKS_AT}
use Rattle.places.proofs.Sizes.{mark_size}
use Rattle.block.proofs.Tab.{lay_next}
use Rattle.block.proofs.store_marks.Goals as goal

pub loop-i-init : goal.loop-i-init
unfolding cat
loop-i-init c = (refl, sym (put_nil _ _))

pub loop-i-preserved : goal.loop-i-preserved
loop-i-preserved c =
    let l = c.loop-i in
    let xs = c.args.marks.now in
    let t = c.loop-i-test.true in
    let p = c.put_mark in
    (p.auto.b ∙ l.invariant.0, lay_next mark_bytes MARK_BYTES mark_size c.args.b.now MARKS_AT xs (omega arith) l.i _ t _ _ l.invariant.1 p.ensures)
