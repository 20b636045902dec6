use Rattle.store_holdings.proofs.VersionLemmas.{same_stands}
use Rattle.store_holdings.proofs.files.same_under_versions.Goals as goal

pub returns : goal.returns
returns c = same_stands
