-- The invariant is `Walked`: the intervals before `p` are passed, each by `step`'s contract.
use mathlib.Core.Path.{◌≡◌, refl, sym, ap, ◌∙◌}
use mathlib.Core.Bool.{Bool}
use mathlib.Core.List.{List}
use Prim.Native.Nat.{ℕ, suc, ◌+◌, ◌*◌, ◌≤◌}
use native.Mathlib.Omega.{arith}
use native.Mathlib.Numerals.{add-one}
use lib.Dec.{T}
use lib.IntN.{ℤ}
use lib.ListN.{length}
use Rattle.terms.specs.Holes.{InHole}
use Rattle.terms.specs.Held.{Held, hole_in}
use Rattle.terms.specs.HoleLaws.{line_of}
use Rattle.terms.proofs.Limited.{InRange}
use Rattle.terms.specs.Spans.{Run, Longest}
use Rattle.line.specs.Pieces.{Pieces}
use Rattle.line.specs.Intervals.{cuts_of}
use Rattle.line.specs.CutList.{cut_list}
use Rattle.line.proofs.Places.{no_more}
use Rattle.spans.specs.Runs.{has_label}
use Rattle.spans.specs.declared.Progress.{Progress}
use Rattle.spans.specs.Code.{ToStep, ended_at, Walked, none, next}
use Rattle.spans.specs.Ended.{AfterInterval}
use Rattle.spans.proofs.Walks.{walk_begins, walk_fits, walk_fits_last, walk_ends}
use Rattle.spans.proofs.EachInterval.{same, each_interval}
use Rattle.spans.proofs.write_spans.Goals as goal
use Rattle.spans.proofs.write_spans.Goals.{At-loop-p}

-- what a step asks for
to_step : {before after : List ℤ} {cs : List ℤ} (e : Run) {has : ℕ → Bool} {p : ℕ} {g : Progress} (h : Bool) →
    p ≤ length cs + 1 → Walked e cs has before p g after → 2 * (g.count + length (ended_at e cs p h g.since)) ≤ length after → ToStep e after cs p h g
to_step e h i w r = record { pass = record { inside = i; begins = walk_begins _ _ _ _ _ _ _ w (omega arith) }; room = r }

-- 02, Slip 3, of the loop as it runs: each time it comes to its head after an interval p, the last time too, with the hole and the cuts of what is held,
-- the buffer holds exactly the spans that ended before p, and is as lent behind them
module _ (c : At-loop-p) where
  abbrev line : List ℤ
  line = cut_list c.args.cuts.now

  abbrev has : ℕ → Bool
  has = has_label c.args.labels.now c.args.item c.args.label

  pub each-interval-here : (h : Held) → InRange h → c.args.hole ≡ hole_in h → line ≡ cuts_of h →
      (number : ℤ → ℕ) (size : ℕ) → Pieces (hole_in h) h.marks number size →
      (rs : List Run) → Longest (λ i. InHole (hole_in h) i × T (has (number i))) rs →
      (p : ℕ) → c.loop-p.p ≡ suc p → AfterInterval (hole_in h) number rs p c.args.spans.now c.loop-p.spans c.loop-p.state.count
  each-interval-here h R e f number size P rs L p q =
      each_interval h R number size P has rs L c.args.spans.now c.loop-p.spans p c.loop-p.state
      (omega (arith, q, c.len-n.ensures, ap length f, c.loop-p.invariant.0, (same h R number size P has rs L).1))
      (rw (sym f, sym e, sym q) c.loop-p.invariant.2)

pub loop-p-init : goal.loop-p-init
loop-p-init c = (omega arith, refl, none)

pub step-requires : goal.step-requires
step-requires c =
    let i = c.loop-p.invariant in
    rw c.has_label-has.ensures
    (to_step (line_of c.args.hole) _ (omega (arith, i.0, c.len-n.ensures)) i.2
    (walk_fits _ _ _ _ _ _ _ i.2 (no_more c.args.cuts.now) (omega (arith, i.1, c.requires.spans)) (omega (arith, c.len-n.ensures))))

pub loop-p-preserved : goal.loop-p-preserved
loop-p-preserved c =
    let l = c.loop-p in (
      omega (arith, c.loop-p-test.true),
      c.step.auto.spans ∙ l.invariant.1,
      rw (add-one l.p) (next _ _ _ _ _ l.invariant.2 (rw c.has_label-has.ensures at c.step.ensures)),
    )

pub step-requires-2 : goal.step-requires-2
step-requires-2 c =
    let i = c.loop-p.invariant in
    let e : c.loop-p.p ≡ c.len-n.result + 1 = omega (arith, c.loop-p-test.false, i.0) in
    rw (sym e)
    (to_step (line_of c.args.hole) _ (omega (arith, i.0, c.len-n.ensures)) i.2
    (walk_fits_last _ _ _ _ _ _ _ i.2 (no_more c.args.cuts.now) (omega (arith, i.1, c.requires.spans)) (omega (arith, e, c.len-n.ensures))))

pub returns : goal.returns
returns c =
    let i = c.loop-p.invariant in
    let e : c.loop-p.p ≡ c.len-n.result + 1 = omega (arith, c.loop-p-test.false, i.0) in
    walk_ends _ _ _ _ _ _ _ i.2 _ _ (omega (arith, e, c.len-n.ensures)) (rw (sym e) at c.step-2.ensures)
