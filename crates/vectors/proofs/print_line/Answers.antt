-- The parts of a line have room, each behind the other.
use Rattle.std.proofs.Common.{arith, length-take}
use Rattle.lines.proofs.Spelled.{decimal_short, words_short}
use Rattle.vectors.proofs.print_line.Goals as goal

pub put_text-words-requires : goal.put_text-words-requires
put_text-words-requires g c = omega (arith, decimal_short c.args.number)

pub put_answer-bytes-requires : goal.put_answer-bytes-requires
put_answer-bytes-requires g c = omega (arith, decimal_short c.args.number)

pub put_counted-used-requires : goal.put_counted-used-requires
put_counted-used-requires g c = omega (arith, decimal_short c.args.number, words_short c.args.reply.answer)

pub put_sums-end-requires : goal.put_sums-end-requires
put_sums-end-requires g c =
    omega (arith, decimal_short c.args.number, words_short c.args.reply.answer, decimal_short c.args.reply.used)

pub put_text-all-requires : goal.put_text-all-requires
put_text-all-requires g c =
    omega (arith, decimal_short c.args.number, words_short c.args.reply.answer, decimal_short c.args.reply.used)

pub slice_bounds-line-end : goal.slice_bounds-line-end
slice_bounds-line-end g c =
    omega (arith, decimal_short c.args.number, words_short c.args.reply.answer, decimal_short c.args.reply.used)

pub slice_bounds-print-end : goal.slice_bounds-print-end
slice_bounds-print-end g c =
    let digits = decimal_short c.args.number in
    let words = words_short c.args.reply.answer in
    let used = decimal_short c.args.reply.used in
    simp length-take (omega arith)
