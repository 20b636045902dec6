use Rattle.std.proofs.Common.{rules}
use Rattle.store_scans.proofs.CensusLemmas.{decided}
use Rattle.store_scans.proofs.census.is_same.Goals as goal

pub returns : goal.returns
returns c = decided c.args.one c.args.other _ (search rules)
