use Rattle.dict_index.proofs.DistinctLemmas.{distinct_more}
use Rattle.dict_index.proofs.laws.distinct_law.Goals as goal

pub returns : goal.returns
returns c = distinct_more
