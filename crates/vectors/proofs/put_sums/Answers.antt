-- Each word with its number has at most 36 bytes.
use Rattle.std.proofs.Common.{arith}
use Rattle.lines.proofs.Spelled.{decimal_short}
use Rattle.vectors.proofs.put_sums.Goals as goal

pub put_counted-third-requires : goal.put_counted-third-requires
put_counted-third-requires c = omega (arith, decimal_short c.args.sums.block)

pub put_counted-fourth-requires : goal.put_counted-fourth-requires
put_counted-fourth-requires c = omega (arith, decimal_short c.args.sums.block, decimal_short c.args.sums.labels)

pub put_counted-requires : goal.put_counted-requires
put_counted-requires c =
    omega (arith, decimal_short c.args.sums.block, decimal_short c.args.sums.labels, decimal_short c.args.sums.links)

pub returns-clause-upper_bound : goal.returns-clause-upper_bound
returns-clause-upper_bound c =
    omega (
      arith,
      decimal_short c.args.sums.block,
      decimal_short c.args.sums.labels,
      decimal_short c.args.sums.links,
      decimal_short c.args.sums.spans,
    )
