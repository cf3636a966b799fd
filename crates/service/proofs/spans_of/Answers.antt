-- Lent memory first; then the question, on what the block holds.
use Rattle.std.proofs.Common.{refl, sym, ap, ◌∙◌, []}
use Rattle.block.specs.Block.{read_held}
use Rattle.terms.specs.declared.Question.TheVariants as Question
use Rattle.terms.specs.Held.{Held}
use Rattle.records.specs.Records.{as_question, parsed_body}
use Rattle.commands.specs.Call.{judged, effect, span_call}
use Rattle.commands.specs.Buffers.{lent}
use Rattle.commands.proofs.Working.{parts}
use Rattle.service.proofs.Lending.{lent_passed, lent_refused, found_of}
use Rattle.service.proofs.spans_of.Goals as goal

pub returns-in-Ok : goal.returns-in-Ok
unfolding span_call
returns-in-Ok c =
    let a = c.args in
    let h = read_held a.block.now in
    let m = lent a.block.now a.labels.now a.links.now a.spans.now in
    let q = Question.Spans a.item a.label in
    c.aside.ensures
    ∙ ap (λ (h : Held). effect h m (judged h (parsed_body (as_question h.settings q) [] 0))) (found_of c.lent_state.ensures c.in-Ok.is).held
    ∙ sym (lent_passed a.block.now a.labels.now a.links.now a.spans.now c.lent_state.result c.lent_state.ensures
    (judged h (parsed_body (as_question h.settings q) [] 0)) _ c.in-Ok.is)

pub returns-in-Err : goal.returns-in-Err
unfolding span_call
returns-in-Err c =
    let a = c.args in
    let h = read_held a.block.now in
    let said = c.refused.ensures in
    parts said.0 said.1 refl refl refl refl
    ∙ sym (lent_refused a.block.now a.labels.now a.links.now a.spans.now c.lent_state.result c.lent_state.ensures
    (judged h (parsed_body (as_question h.settings (Question.Spans a.item a.label)) [] 0)) _ c.in-Err.is)
