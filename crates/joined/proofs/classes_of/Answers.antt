-- The classes are those by the marks that were passed.
use Rattle.std.proofs.Common.{refl, get_or}
use Rattle.terms.proofs.Ends.{mark_markable, mark_named}
use Rattle.terms.specs.Places.{empty_mark}
use Rattle.joined.proofs.Joining.{classes_none, classes_more}
use Rattle.joined.proofs.classes_of.Goals as goal

pub loop-mark-init : goal.loop-mark-init
loop-mark-init c = classes_none _ refl

pub join-requires : goal.join-requires
join-requires c =
    let l = c.loop-mark in
    let ms = c.args.marks.now in
    (l.invariant.size, mark_markable (get_or ms l.mark-index empty_mark) (mark_named ms l.mark-index _ c.requires c.loop-mark-test.true))

pub loop-mark-preserved : goal.loop-mark-preserved
loop-mark-preserved c =
    let l = c.loop-mark in
    let ms = c.args.marks.now in
    let t = c.loop-mark-test.true in
    classes_more ms l.mark-index _ _ t (mark_markable (get_or ms l.mark-index empty_mark) (mark_named ms l.mark-index _ c.requires t)) l.invariant c.join.ensures
