-- The digits that are left to store, before those that are there, are the number's; each is one fewer of at most 20.
use Rattle.std.proofs.Common.{◌≡◌, ◌+◌, ◌^◌, ◌<◌, ◌≤◌, ◌++◌, drop}
use Rattle.lines.specs.Lines.{digits_up_to, decimal}
use Rattle.lines.proofs.decimal.Given as goal

abbrev pub invariant-loop-rest : goal.invariant-loop-rest
invariant-loop-rest l = record {
  room : l.at ≤ 19;
  few : l.rest < 10 ^ (l.at + 1);
  spelled : digits_up_to l.at l.rest ++ drop (l.at + 1) l.digits ≡ decimal l.n;
}

abbrev pub decreases-loop-rest : goal.decreases-loop-rest
decreases-loop-rest l = l.rest
