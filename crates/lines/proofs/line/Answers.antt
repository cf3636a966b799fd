-- The parts of a line, one behind the other; together they have room.
use Rattle.std.proofs.Common.{arith, length-take}
use Rattle.terms.specs.Pairs.{pair_count}
use Rattle.lines.specs.Lines.{line_text}
use Rattle.lines.proofs.Laid.{laid_then}
use Rattle.lines.proofs.Spelled.{decimal_short, words_short, pairs_short}
use Rattle.lines.proofs.line.Goals as goal

pub put_text-words-requires : goal.put_text-words-requires
put_text-words-requires c = omega (arith, decimal_short c.args.number)

pub put_answer-pairs-requires : goal.put_answer-pairs-requires
put_answer-pairs-requires c = omega (arith, decimal_short c.args.number)

pub put_pairs-end-requires : goal.put_pairs-end-requires
put_pairs-end-requires c =
    let digits = decimal_short c.args.number in let words = words_short c.args.answer in simp length-take (omega arith)

pub put_text-requires : goal.put_text-requires
put_text-requires c =
    let digits = decimal_short c.args.number in
    let words = words_short c.args.answer in
    let few = pairs_short c.pair_count.result c.args.spans.now in
    omega arith

pub returns : goal.returns
unfolding line_text
returns c =
    let digits = decimal_short c.args.number in
    let words = words_short c.args.answer in
    let few = pairs_short (pair_count c.args.answer) c.args.spans.now in
    let text = rw c.pair_count.ensures at c.put_pairs-end.ensures in
    laid_then c.put_number-blank.ensures
    (laid_then c.put_text-words.ensures
    (laid_then c.put_answer-pairs.ensures (laid_then text c.put_text.ensures (omega arith)) (omega arith)) (omega arith)) (omega arith)
