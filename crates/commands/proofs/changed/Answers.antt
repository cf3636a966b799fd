-- By the command: its operation, or nothing but RESET's empty state.
use Rattle.std.proofs.Common.{refl}
use Rattle.state.specs.State.{held_of}
use Rattle.state.specs.Holding.{fresh_holds}
use Rattle.questions.proofs.Given.{named}
use Rattle.commands.proofs.Working.{as_changed}
use Rattle.commands.proofs.changed.Goals as goal

pub put-requires-clause-marks_named : goal.put-requires-clause-marks_named
put-requires-clause-marks_named c = named c.args.state c.requires.0

pub take-requires-clause-marks_named : goal.take-requires-clause-marks_named
take-requires-clause-marks_named c = named c.args.state c.requires.0

pub returns-in-Reset : goal.returns-in-Reset
returns-in-Reset c =
    let fresh = fresh_holds c.empty.ensures in
    as_changed (held_of c.args.state) c.args.body.now c.args.command _ c.in-Reset.is
    (record { said = refl; held = fresh.held; counts = fresh.counts })
