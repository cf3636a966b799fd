-- By the question: the bit of its statement, or the spans that were written.
use Rattle.std.proofs.Common.{T, subst}
use mir.Syntax.{w64}
use mir.Val.{SFits}
use mir.Facts.{to_z-of_z}
use borrow.Author.Rules.{rules}
use Rattle.terms.specs.declared.Question.{Question}
use Rattle.terms.specs.Held.{is_question}
use Rattle.line.proofs.Places.{no_more}
use Rattle.questions.proofs.Answering.{count_fits, interval_low}
use Rattle.questions.proofs.read_off.Goals as goal

pub holds-requires : goal.holds-requires
holds-requires c =
    let fits : SFits w64 c.in-Holds.depth = search rules in (
      c.requires.labels_long,
      c.requires.links_long,
      subst (λ (x : Question). T (is_question x)) c.in-Holds.is c.requires.named,
      interval_low _ c.in-Holds.depth _ (no_more c.args.cuts.now) (rw (to_z-of_z fits) at c.interval_of-p.ensures),
    )

pub overflow_cast-result : goal.overflow_cast-result
overflow_cast-result c = record { fits = count_fits _ _ _ _ _ _ (no_more c.args.cuts.now) c.write_spans-count.ensures }
