use Rattle.dict_index.proofs.WellFormedLemmas.{headwords_shown}
use Rattle.dict_index.proofs.laws.three_columns.Goals as goal

pub returns : goal.returns
returns c = headwords_shown
