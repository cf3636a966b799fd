-- One of the item's entries has NEVER, or none has.
use native.Mathlib.Omega.{arith}
use Rattle.std.proofs.Common.{rules, tests, ◌≡◌, true, false}
use Rattle.std.proofs.lemmas.Iterator.{YieldsList-from_slice, cases_from_any}
use Rattle.verdicts.proofs.Reading.{has, never_is}
use Rattle.verdicts.proofs.has_never.Goals as goal

pub returns : goal.returns
returns c =
    let w = cases_from_any _ _ c.any.result (λ w. has w ≡ true) (λ w. has w ≡ false) c.any.ensures.ran (YieldsList-from_slice _ c.iter.ensures.rest)
    (λ x q k. search (rules, tests)) (λ x q k. search (rules, tests)) in
    never_is c.args.labels.now c.args.item _ (omega arith) (omega arith) c.any.result w
