-- The first keys are those of the ends of the first marks, two more with each turn.
use Rattle.std.proofs.Common.{refl, get_or, arith}
use lib.ListN.{length-set}
use Rattle.terms.specs.Places.{empty_mark}
use Rattle.scans.specs.Keys.{depth_key, DepthFits}
use Rattle.scans.proofs.Keyed.{keys_none, handed_on, ends_keys}
use Rattle.scans.proofs.depth_keys.Goals as goal

pub loop-i-init : goal.loop-i-init
loop-i-init c = (refl, keys_none depth_key DepthFits)

pub loop-i-preserved : goal.loop-i-preserved
loop-i-preserved c =
    let l = c.loop-i in
    let t = c.loop-i-test.true in
    let m = get_or c.args.marks.now l.i empty_mark in (
      simp (length-set, length-set) l.invariant.0,
      ends_keys c.args.marks.now l.keys l.i _ _ empty_mark (omega arith) (omega arith) l.invariant.1
          (handed_on m.top _ (record { sfits = omega arith }) c.depth_key.ensures)
          (handed_on m.bottom _ (record { sfits = omega arith }) c.depth_key-in-loop-i.ensures),
    )
