-- The first record stands at the start of the input, in memory that is all zero.
use Rattle.std.proofs.Common.{refl}
use Rattle.harmikse.proofs.Stepped.{begins}
use Rattle.harmikse.proofs.run.Goals as goal

pub loop-place-init : goal.loop-place-init
loop-place-init g c = (refl, refl, refl, refl, begins c.args.input.now)
