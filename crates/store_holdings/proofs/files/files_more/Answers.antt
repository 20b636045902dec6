use Rattle.store_holdings.proofs.MoreLemmas.{more}
use Rattle.store_holdings.proofs.files.files_more.Goals as goal

pub returns : goal.returns
returns c = more
