-- More bytes than the limit are too long; at most the limit are run.
use Rattle.std.proofs.Common.{arith}
use Rattle.harmikse.specs.Program.{too_long}
use Rattle.harmikse.proofs.main.Goals as goal

pub print_line-requires : goal.print_line-requires
print_line-requires c = (omega arith, too_long (omega (arith, c.in-Ok.ensures.front)))
