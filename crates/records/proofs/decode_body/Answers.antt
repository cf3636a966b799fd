-- The arms of the stretches and of a hole are the rows of their kinds, as the other arms, which need no answer; the kind gives each body's length.
use Rattle.std.proofs.Common.{ap, ◌∙◌}
use Rattle.records.specs.Records.{body_tests, command_in, as_put, as_take}
use Rattle.records.proofs.decode_body.Goals as goal

pub returns-in-13 : goal.returns-in-13
unfolding body_tests command_in
returns-in-13 c = simp c.in-13.is (c.put-in-13.ensures ∙ ap (as_put c.args.settings) c.label_stretch.ensures)

pub returns-in-14 : goal.returns-in-14
unfolding body_tests command_in
returns-in-14 c = simp c.in-14.is (c.put-in-14.ensures ∙ ap (as_put c.args.settings) c.link_stretch.ensures)

pub returns-in-15 : goal.returns-in-15
unfolding body_tests command_in
returns-in-15 c = simp c.in-15.is (c.take-in-15.ensures ∙ ap (as_take c.args.settings) c.label_stretch-in-15.ensures)

pub returns-in-16 : goal.returns-in-16
unfolding body_tests command_in
returns-in-16 c = simp c.in-16.is (c.take-in-16.ensures ∙ ap (as_take c.args.settings) c.link_stretch-in-16.ensures)

pub returns-in-18 : goal.returns-in-18
unfolding body_tests command_in
returns-in-18 c = simp c.in-18.is c.confine.ensures
