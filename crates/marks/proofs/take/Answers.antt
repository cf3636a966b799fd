-- Where the mark is held its place is closed.
use Rattle.std.proofs.Common.{arith, ap, sym, ◌∙◌, ◌≡◌, ◌<◌, List, ℕ, true, length}
use Rattle.std.proofs.Math.Dec.{ltb, ltb→lt}
use Rattle.terms.specs.Tests.{of_true}
use Rattle.std.specs.Prelude.{Some}
use Rattle.std.proofs.lemmas.List.{length-take-le}
use Rattle.terms.specs.declared.Mark.{Mark}
use Rattle.terms.specs.Held.{with_marks}
use Rattle.terms.specs.Same.{same_mark}
use Rattle.terms.specs.Lists.{some}
use Rattle.state.specs.declared.State.{State}
use Rattle.state.specs.State.{held_of, CountsIn}
use Rattle.state.proofs.Outcome.{accepted_as, refused_as}
use Rattle.keys.specs.Search.{index_of, position_of}
use Rattle.keys.proofs.Scan.{found, missing, some_place, strike_at}
use Rattle.marks.proofs.take.Goals as goal

module _ (s : State) (p : CountsIn s) (m : Mark) (at : ℕ) (e : position_of (same_mark m) (held_of s).marks ≡ Some at) where
  place : (some (same_mark m) (held_of s).marks ≡ true) × (at ≡ index_of (same_mark m) (held_of s).marks)
  place = found (same_mark m) (held_of s).marks at e

  inside : at < s.mark_count
  inside =
      let n = length-take-le s.mark_count s.marks (omega arith) in
      let t = of_true (ap (λ (q : ℕ). ltb q (length (held_of s).marks)) place.1 ∙ (sym (some_place (same_mark m) (held_of s).marks) ∙ place.0)) in
      let l = ltb→lt at (length (held_of s).marks) t in
      omega arith

pub without-requires-clause-at_lt_count : goal.without-requires-clause-at_lt_count
without-requires-clause-at_lt_count c =
    inside c.args.state c.requires.counts_in c.args.mark _ (rw c.marks.ensures at (sym c.mark_index.ensures ∙ c.in-Some.is))

pub returns-in-Some : goal.returns-in-Some
returns-in-Some c =
    let s = c.args.state in
    let m = c.args.mark in
    let w = place s c.requires.counts_in m _ (rw c.marks.ensures at (sym c.mark_index.ensures ∙ c.in-Some.is)) in
    accepted_as _ _ (rw w.0)
    (record {
      held = c.without.ensures.held ∙ ap (λ (ms : List Mark). with_marks (held_of s) ms) (strike_at (same_mark m) (held_of s).marks _ w.1);
      counts = c.without.ensures.counts;
    })

pub returns-in-None : goal.returns-in-None
returns-in-None c =
    refused_as _ _ (rw (missing (same_mark c.args.mark) (held_of c.args.state).marks (rw c.marks.ensures at (sym c.mark_index.ensures ∙ c.in-None.is))))
