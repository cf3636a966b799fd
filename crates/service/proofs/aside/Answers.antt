-- A question that is decoded is answered; else its number is given.
use Rattle.std.specs.Prelude.{ℕ, Result}
use Rattle.std.proofs.Common.{sym, ap, ◌∙◌, []}
use Rattle.terms.specs.Otherwise.{by_number}
use Rattle.records.specs.declared.Command.{Command}
use Rattle.state.specs.State.{held_of}
use Rattle.records.specs.Records.{parsed_body}
use Rattle.commands.specs.Call.{judged, effect}
use Rattle.commands.specs.Buffers.{lent}
use Rattle.commands.proofs.Working.{questioned}
use Rattle.service.proofs.Lending.{asked_for}
use Rattle.service.proofs.aside.Goals as goal

pub returns-in-Ok : goal.returns-in-Ok
returns-in-Ok c =
    let a = c.args in
    let h = held_of a.state in
    let m = lent a.block.now a.labels.now a.links.now a.spans.now in
    let known = asked_for h a.question _ (sym c.ask.ensures ∙ ap by_number c.in-Ok.is) in
    questioned a.block.now a.labels.now a.links.now a.spans.now h a.question 0 _ _ _ _ c.answer-answer.ensures
    ∙ ap (λ (d : Result Command ℕ). effect h m (judged h (parsed_body d [] 0))) (sym known.1)
