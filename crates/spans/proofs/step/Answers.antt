-- A span that ended is written as the next pair; else nothing is.
use mathlib.Core.Path.{refl, sym, ap, ◌∙◌}
use Rattle.spans.specs.Code.{given}
use Rattle.spans.proofs.Steps.{no_more, one_more}
use Rattle.spans.proofs.step.Goals as goal

pub returns-in-Some : goal.returns-in-Some
returns-in-Some c = one_more _ _ _ _ _ _ _ c.pass.ensures.begun _ _ _ c.in-Some.ensures.ended refl c.put_pair.ensures

pub returns-in_default : goal.returns-in_default
returns-in_default c = no_more _ _ _ _ _ _ _ c.pass.ensures.begun (sym (ap given c.in_default.is) ∙ c.pass.ensures.ended) refl
