-- The bytes made are the line's.
use Rattle.lines.proofs.Laid.{laid_first, laid_inside}
use Rattle.harmikse.proofs.print_answer.Goals as goal

pub print_line-requires : goal.print_line-requires
print_line-requires g c = (laid_inside c.line-count.ensures, rw (laid_first c.line-count.ensures) c.requires.2)
