use Rattle.std.proofs.Common.{◌∙◌}
use Rattle.store_desk.proofs.making.step_parts.Goals as goal

pub returns-in-Ok-clause-index : goal.returns-in-Ok-clause-index
returns-in-Ok-clause-index c = λ install is reading h. c.step.ensures.same ∙ is reading h
