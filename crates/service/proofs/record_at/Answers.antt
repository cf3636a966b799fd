-- Lent memory first; then what was read of the input decides, and its work is done on what the block holds.
use Rattle.std.proofs.Common.{refl, sym, ap, ◌∙◌, List, ℕ, drop}
use Rattle.state.specs.State.{held_of}
use Rattle.block.specs.Block.{read_held}
use Rattle.records.specs.Parsed as Parsed
use Rattle.records.specs.Records.{parse}
use Rattle.frames.specs.Frames.{body_of}
use Rattle.records.specs.Proper.{parse_proper}
use Rattle.reader.specs.declared.Input.{Input}
use Rattle.commands.specs.Call.{judged, effect, call}
use Rattle.commands.specs.Buffers.{lent}
use Rattle.reader.specs.Code.{parsed_of}
use Rattle.reader.proofs.Reading.{body_at}
use Rattle.commands.specs.Code.{with_spans_lem}
use Rattle.commands.proofs.Working.{parts}
use Rattle.service.proofs.Lending.{lent_refused, found_of, call_read}
use Rattle.service.proofs.record_at.Goals as goal

pub work-requires : goal.work-requires
work-requires c =
    let s = drop c.args.at c.args.input.now in
    let found = found_of c.lent_state.ensures c.in-Ok.is in
    let said = sym c.parse.ensures.parsed ∙ ap (λ (i : Input). parsed_of i (body_of s)) c.in-Record.is in
    (found.state_held, parse_proper _ s c.in-Record.command (body_of s) c.in-Record.used said, with_spans_lem found.room)

pub returns-in-Err : goal.returns-in-Err
unfolding call
returns-in-Err c =
    let a = c.args in
    let h = read_held a.block.now in
    let said = c.refused.ensures in
    parts said.0 said.1 refl refl refl refl
    ∙ sym (lent_refused a.block.now a.labels.now a.links.now a.spans.now c.lent_state.result c.lent_state.ensures
    (judged h (parse h.settings (drop a.at a.input.now))) _ c.in-Err.is)

pub returns-in-Nothing : goal.returns-in-Nothing
returns-in-Nothing c =
    let a = c.args in
    sym (call_read a.block.now a.labels.now a.links.now a.spans.now c.lent_state.result c.lent_state.ensures _ c.in-Ok.is
    (drop a.at a.input.now) _ c.parse.ensures _ c.in-Nothing.is)

pub returns-in-Refused : goal.returns-in-Refused
returns-in-Refused c =
    let a = c.args in
    sym (call_read a.block.now a.labels.now a.links.now a.spans.now c.lent_state.result c.lent_state.ensures _ c.in-Ok.is
    (drop a.at a.input.now) _ c.parse.ensures _ c.in-Refused.is)

pub returns-in-Record : goal.returns-in-Record
returns-in-Record c =
    let a = c.args in
    let command = c.in-Record.command in
    let used = c.in-Record.used in
    let framed = c.parse.ensures.framed command used c.in-Record.is in
    let h = held_of c.in-Ok.state in
    let m = lent a.block.now a.labels.now a.links.now a.spans.now in
    c.work.ensures
    ∙ ap (λ (v : List ℕ). effect h m (judged h (Parsed.Record command v used))) (body_at a.at framed.0 used a.input.now framed.1)
    ∙ sym (call_read a.block.now a.labels.now a.links.now a.spans.now c.lent_state.result c.lent_state.ensures _ c.in-Ok.is
    (drop a.at a.input.now) _ c.parse.ensures _ c.in-Record.is)
