-- The count is that of the distinct keys from the place on, and the slots have those places.
use Rattle.std.proofs.Common.{◌≡◌, ◌∙◌, ◌+◌, ◌-◌, ℕ, Bool, true, false, not, cond, ap, sym, refl, arith}
use mir.Val.{bool_byte}
use lib.ListN.{drop, length-drop}
use Rattle.keys.specs.Slots.{SLOTS}
use Rattle.keys.specs.Search.{distinct}
use Rattle.keys.proofs.Scan.{distinct_step, distinct_end, distinct_few}
use Rattle.keys.proofs.Slots.{slots_free, all_free}
use Rattle.keys.proofs.distinct_keys.Goals as goal

-- a test as the number that is added
told : (t r : Bool) (n : ℕ) → r ≡ not t → n ≡ bool_byte r → n ≡ cond t 0 1
told true r n e f = f ∙ ap bool_byte e
told false r n e f = f ∙ ap bool_byte e

counted : (c : goal.After-from-count) →
    let l = c.loop-at in
    l.count + c.from-count.result ≡ distinct (drop (l.at - 1) c.args.keys.now)
counted c =
    let k = c.args.keys.now in
    let l = c.loop-at in
    let t = c.loop-at-test.true in
    let e : l.at - 1 + 1 ≡ l.at = omega arith in
    let s = distinct_step k (l.at - 1) (omega arith) in
    let d = told _ _ _ c.is_last.ensures.last c.from-count.ensures in
    omega (arith, rw e at s, rw e at d)

pub loop-at-init : goal.loop-at-init
loop-at-init c =
    let k = c.args.keys.now in
    (omega arith, sym (distinct_end k), slots_free k _ (all_free SLOTS refl))

pub overflow_add-count : goal.overflow_add-count
overflow_add-count c =
    let k = c.args.keys.now in
    let i = c.loop-at.at in
    omega (arith, counted c, distinct_few (drop (i - 1) k), length-drop (i - 1) k)

pub loop-at-preserved : goal.loop-at-preserved
loop-at-preserved c = (omega arith, counted c, c.is_last.ensures.known)
