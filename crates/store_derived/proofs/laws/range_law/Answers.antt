use Rattle.store_derived.proofs.RangeLemmas.{range}
use Rattle.store_derived.proofs.laws.range_law.Goals as goal

pub returns : goal.returns
returns c = range
