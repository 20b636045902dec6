use Rattle.dict_catalogue.proofs.StepLemmas.{is_step_gives, step_is}
use Rattle.dict_catalogue.proofs.laws.step_law.Goals as goal

pub returns : goal.returns
returns c = λ M id command outcome. (is_step_gives M id command outcome, step_is M id command outcome)
