use Rattle.store_tables.proofs.AddedLemmas.{none_added, one_added, more_added, added_as}
use Rattle.store_tables.proofs.database_laws.added_laws.Goals as goal

pub returns-clause-none : goal.returns-clause-none
returns-clause-none c = none_added

pub returns-clause-one : goal.returns-clause-one
returns-clause-one c = one_added

pub returns-clause-more : goal.returns-clause-more
returns-clause-more c = more_added

pub returns-clause-listed : goal.returns-clause-listed
returns-clause-listed c = added_as
