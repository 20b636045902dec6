use Rattle.dict_index.proofs.WellFormedLemmas.{said_well_formed}
use Rattle.dict_index.proofs.laws.well_formed_editions.Goals as goal

pub returns : goal.returns
returns c = said_well_formed
