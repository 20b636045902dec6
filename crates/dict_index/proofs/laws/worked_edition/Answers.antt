use Rattle.dict_index.proofs.WorkedLemmas.{worked}
use Rattle.dict_index.proofs.laws.worked_edition.Goals as goal

pub returns : goal.returns
returns c = worked
