-- By its definition.
use mathlib.Core.Path.{refl}
use Rattle.keys.specs.Slots.{slot_of}
use Rattle.keys.proofs.slot_of.Goals as goal

pub returns : goal.returns
unfolding slot_of
returns c = refl
