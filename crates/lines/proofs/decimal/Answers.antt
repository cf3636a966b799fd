-- Each turn stores the last digit of what is left; the last store, the first digit.
use Rattle.std.proofs.Common.{◌<◌, length, arith}
use Rattle.lines.proofs.Spelled.{tenth, digit_stored, digits_stored}
use Rattle.lines.proofs.decimal.Goals as goal

pub loop-rest-preserved : goal.loop-rest-preserved
loop-rest-preserved c =
    let l = c.loop-rest in
    let t = tenth l.at l.rest c.loop-rest-test.true l.invariant.few in
    let inside : l.at < length l.digits = omega arith in
    record {
      room = omega arith;
      few = t.1;
      spelled = digit_stored l.digits _ l.at l.rest c.loop-rest-test.true t.0 inside l.invariant.spelled;
    }

pub returns-clause-spelled : goal.returns-clause-spelled
returns-clause-spelled c =
    let l = c.loop-rest in digits_stored l.digits _ l.at l.rest c.loop-rest-test.false (omega arith) l.invariant.spelled
