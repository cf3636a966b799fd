-- The bytes passed were compared, one more with each turn.
use Rattle.std.proofs.Common.{◌≡◌, refl, sym, ap, ◌∙◌, arith, take}
use mathlib.Core.Bool.{◌&&◌}
use native.Mathlib.Numerals.{add-one}
use lib.Dec.{eqb}
use lib.ListN.{get_or}
use lib.Seq.{take_all}
use Rattle.places.specs.Layout.{SIZE}
use Rattle.block.specs.Block.{same_bytes}
use Rattle.block.proofs.Equal.{same_more}
use Rattle.block.proofs.is_copy.Goals as goal

pub loop-at-init : goal.loop-at-init
unfolding same_bytes
loop-at-init c = refl

pub loop-at-preserved : goal.loop-at-preserved
loop-at-preserved c =
    let l = c.loop-at in
    let t = c.loop-at-test.true in
    let e = same_more c.args.copy.now c.args.block.now l.at t (omega (arith, c.requires.0, c.requires.1, t)) in
    ap (λ b. b && eqb (get_or c.args.copy.now l.at 0) (get_or c.args.block.now l.at 0)) l.invariant
    ∙ sym (ap (λ k. same_bytes (take k c.args.copy.now) (take k c.args.block.now)) (add-one l.at) ∙ e)

pub returns : goal.returns
returns c =
    let l = c.loop-at in
    let e : l.at ≡ SIZE = omega (arith, c.requires.0) in
    l.invariant
    ∙ ap (λ k. same_bytes (take k c.args.copy.now) (take k c.args.block.now)) e
    ∙ ap (λ xs. same_bytes xs (take SIZE c.args.block.now)) (take_all SIZE c.args.copy.now (omega (arith, c.requires.0)))
