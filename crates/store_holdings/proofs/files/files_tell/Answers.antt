use Rattle.store_holdings.proofs.TellLemmas.{told_once}
use Rattle.store_holdings.proofs.files.files_tell.Goals as goal

pub returns : goal.returns
returns c = told_once
