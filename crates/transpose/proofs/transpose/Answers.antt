-- Each stage asks that its step and its mask belong to its bit; six of them make the whole.
use Rattle.transpose.proofs.Diagonal.{stage1, stage2, stage4, stage8, stage16, stage32, transposed}
use mathlib.Core.Path.{◌∙◌}
use Rattle.transpose.proofs.transpose.Goals as goal

pub stage-requires : goal.stage-requires
stage-requires c = (stage32, c.requires)

pub stage-requires-2 : goal.stage-requires-2
stage-requires-2 c =
    (stage16, c.stage.ensures.size ∙ c.requires)

pub stage-requires-3 : goal.stage-requires-3
stage-requires-3 c =
    (stage8, c.stage-2.ensures.size ∙ c.stage.ensures.size ∙ c.requires)

pub stage-requires-4 : goal.stage-requires-4
stage-requires-4 c =
    (stage4, c.stage-3.ensures.size ∙ c.stage-2.ensures.size ∙ c.stage.ensures.size ∙ c.requires)

pub stage-requires-5 : goal.stage-requires-5
stage-requires-5 c = (
  stage2,
  c.stage-4.ensures.size ∙ c.stage-3.ensures.size ∙ c.stage-2.ensures.size
      ∙ c.stage.ensures.size ∙ c.requires,
)

pub stage-requires-6 : goal.stage-requires-6
stage-requires-6 c = (
  stage1,
  c.stage-5.ensures.size ∙ c.stage-4.ensures.size ∙ c.stage-3.ensures.size
      ∙ c.stage-2.ensures.size ∙ c.stage.ensures.size ∙ c.requires,
)

pub returns : goal.returns
returns c =
    transposed _ _ _ _ _ _ _ c.stage.ensures c.stage-2.ensures c.stage-3.ensures c.stage-4.ensures
    c.stage-5.ensures
    c.stage-6.ensures
