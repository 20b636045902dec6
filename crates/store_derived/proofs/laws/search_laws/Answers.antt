use Rattle.store_derived.proofs.SearchLemmas.{among, only}
use Rattle.store_derived.proofs.laws.search_laws.Goals as goal

pub returns-clause-among : goal.returns-clause-among
returns-clause-among c = among

pub returns-clause-only : goal.returns-clause-only
returns-clause-only c = only
