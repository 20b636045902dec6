use Rattle.dict_catalogue.proofs.WellFormedLemmas.{step_well_formed, empty_well_formed}
use Rattle.dict_catalogue.proofs.laws.well_formed_laws.Goals as goal

pub returns-clause-empty : goal.returns-clause-empty
returns-clause-empty c = empty_well_formed

pub returns-clause-step : goal.returns-clause-step
returns-clause-step c = step_well_formed
