-- What the tests come to, and what an operation then answers. Assumes nothing.
use Rattle.std.specs.Prelude.{Ok, Err}
use mathlib.Core.Path.{◌≡◌, sym}
use mathlib.Core.Bool.{Bool, true, false}
use mathlib.Core.List.{List, ◌∷◌}
use Prim.Native.Nat.{ℕ, ◌<◌}
use borrow.Author.Tests.{leb-false}
use lib.Dec.{leb}
use Rattle.terms.specs.Held.{Held}
use Rattle.refusals.specs.Refusals.{Test, test, tested}
use Rattle.refusals.proofs.Joining.{clash}
use Rattle.terms.specs.declared.Refusal.{Refusal}
use Rattle.terms.specs.Refusals.{number_of_refusal}
use Rattle.state.specs.declared.State.{State}
use Rattle.state.specs.State.{ChangeAs}
use Rattle.state.specs.Holding.{Holds}

module _ (tests : List Test) (then : Held) where
  pub accepted_as : {s : State} → tested tests ≡ Ok tt → Holds then s → ChangeAs tests then (Ok s)
  accepted_as z w = record { said = sym z; held = w.held; counts = w.counts }

  pub refused_as : {r : Refusal} → tested tests ≡ Err (number_of_refusal r) → ChangeAs tests then (Err r)
  refused_as z = record { said = sym z; held = tt; counts = tt }

-- where neither 9 nor 11 applies there is room
pub room : (same full : Bool) (n most : ℕ) (ts : List Test) → leb most n ≡ full → tested (test same 9 ∷ test full 11 ∷ ts) ≡ Ok tt → n < most
room true full n most ts e z = clash (sym z)
room false true n most ts e z = clash (sym z)
room false false n most ts e z = leb-false most n e

-- nor does what stands before them
pub behind : (outside : Bool) (n : ℕ) (ts : List Test) → tested (test outside n ∷ ts) ≡ Ok tt → tested ts ≡ Ok tt
behind true n ts z = clash (sym z)
behind false n ts z = z
