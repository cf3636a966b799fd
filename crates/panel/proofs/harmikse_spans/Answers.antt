-- The service's call with the names as bytes, its answer packed. Assumes nothing.
use mathlib.Core.Path.{◌∙◌, ap₂}
use Rattle.commands.specs.Call.{span_call}
use Rattle.commands.specs.Buffers.{lent}
use Rattle.panel.specs.ExportedLaws.{span_packs}
use Rattle.panel.proofs.harmikse_spans.Goals as goal

pub returns : goal.returns
returns c =
    let sp = c in
    let start = sp in
    span_packs (lent start.args.block.now start.args.labels.now start.args.links.now start.args.spans.now)
    start.args.item start.args.label _ c.pack.ensures
    (sp.spans_of-reply.ensures
    ∙ ap₂ (span_call (lent start.args.block.now start.args.labels.now start.args.links.now start.args.spans.now))
    sp.clamp.ensures sp.clamp-2.ensures)
