-- Each place is empty, and none is taken.
use mathlib.Core.Path.{refl}
use Rattle.state.specs.State.{empty_state}
use Rattle.state.proofs.State.empty.Goals as goal

pub returns : goal.returns
unfolding empty_state
returns c = refl
