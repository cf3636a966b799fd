-- The first marks are moved, one more with each turn; the others are as they were.
use Rattle.std.proofs.Common.{◌≡◌, ◌≤◌, ◌<◌, ◌++◌, ◌+◌, List, ℕ, map, take, drop, length, get_or, refl, ap, ◌∙◌, arith}
use lib.ListN.{set}
use mir.Facts.{to_z-of_z}
use Rattle.std.proofs.lemmas.List.Edits.{map_over_more}
use Rattle.std.proofs.lemmas.Grind.{common_steps}
use Rattle.terms.proofs.Ends.{in_list}
use Rattle.terms.proofs.Limited.{every_in}
use Rattle.shift.specs.Shifted.{mark_stays}
use Rattle.shift.proofs.shift_marks.Goals as goal

-- a place that is not passed is as it was
kept : {X : Type 0} (f : X → X) (xs ys : List X) (i : ℕ) (d : X) → i < length xs → ys ≡ map f (take i xs) ++ drop i xs → get_or ys i d ≡ get_or xs i d
kept f xs ys i d h e = grind (arith, common_steps)

more : {X : Type 0} (f : X → X) (xs ys : List X) (i : ℕ) (d y : X) → i < length xs → ys ≡ map f (take i xs) ++ drop i xs → y ≡ f (get_or ys i d) →
    set ys i y ≡ map f (take (i + 1) xs) ++ drop (i + 1) xs
more f xs ys i d y h e v = ap (set ys i) v ∙ map_over_more f xs ys i (get_or ys i d) h e (grind (arith, common_steps, kept f xs ys i d h e))

done : {X : Type 0} (f : X → X) (xs : List X) (i : ℕ) → length xs ≤ i → map f (take i xs) ++ drop i xs ≡ map f xs
done f xs i h = grind (arith, common_steps)

pub loop-mark-init : goal.loop-mark-init
loop-mark-init c = refl

pub mark_shifted-requires : goal.mark_shifted-requires
mark_shifted-requires c =
    let l = c.loop-mark in
    let xs = c.args.marks.now in
    rw (to_z-of_z c.ranges.shift, kept _ xs l.mark-items l.mark-index _ c.loop-mark-test.true l.invariant)
    (every_in (mark_stays c.args.shift) xs c.requires _ (in_list xs l.mark-index _ c.loop-mark-test.true))

pub loop-mark-preserved : goal.loop-mark-preserved
loop-mark-preserved c =
    let l = c.loop-mark in
    more _ c.args.marks.now l.mark-items l.mark-index _ _ c.loop-mark-test.true l.invariant c.mark_shifted.ensures

pub returns : goal.returns
returns c =
    let l = c.loop-mark in
    l.invariant ∙ (rw (to_z-of_z c.ranges.shift) (done _ c.args.marks.now l.mark-index c.loop-mark-test.false))
