use Rattle.store_holdings.proofs.WorkedLemmas.{worked}
use Rattle.store_holdings.proofs.files.worked_files.Goals as goal

pub returns : goal.returns
returns c = worked
