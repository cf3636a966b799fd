-- By what the record call answered.
use Rattle.std.proofs.Common.{sym, ◌∙◌, arith}
use Rattle.harmikse.proofs.Stepped.{few_pairs, ends, prints, moves, inside, goes_by}
use Rattle.harmikse.proofs.step.Goals as goal

pub returns-then-is_end-clause-runs : goal.returns-then-is_end-clause-runs
returns-then-is_end-clause-runs g c =
    ends c.requires.2 c.requires.0 c.record_at-reply.ensures (sym c.is_end.ensures ∙ c.if-is_end.true)

pub overflow_add-next : goal.overflow_add-next
overflow_add-next g c =
    omega (
      arith,
      c.requires.0,
      inside c.requires.2 c.requires.0 c.record_at-reply.ensures (sym c.is_end.ensures ∙ c.if-is_end.false),
    )

pub print_answer-written-requires : goal.print_answer-written-requires
print_answer-written-requires g c = (
  few_pairs c.requires.2 c.requires.0 c.record_at-reply.ensures,
  omega (arith, c.requires.1),
  prints c.requires.2 c.requires.0 c.record_at-reply.ensures (sym c.is_end.ensures ∙ c.if-is_end.false),
)

pub returns-clause-runs : goal.returns-clause-runs
returns-clause-runs g c =
    goes_by c.requires.2 c.requires.0 c.record_at-reply.ensures (sym c.is_end.ensures ∙ c.if-is_end.false)
    c.print_answer-written.result c.goes_on.result c.goes_on.ensures

pub returns-clause-at_lt_at : goal.returns-clause-at_lt_at
returns-clause-at_lt_at g c =
    λ e. moves c.requires.2 c.requires.0 c.record_at-reply.ensures (sym c.is_end.ensures ∙ c.if-is_end.false)
