use Rattle.store_rows.proofs.OnceLemmas.{catalogue_same}
use Rattle.store_rows.proofs.laws.one_catalogue.Goals as goal

pub returns : goal.returns
returns c = catalogue_same
