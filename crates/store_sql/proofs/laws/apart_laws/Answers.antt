use Rattle.store_tables.proofs.Callers.{apart_none, apart_added, apart_removed}
use Rattle.store_sql.proofs.ListingLemmas.{apart_listed}
use Rattle.store_sql.proofs.laws.apart_laws.Goals as goal

pub returns-clause-none : goal.returns-clause-none
returns-clause-none c = apart_none

pub returns-clause-added : goal.returns-clause-added
returns-clause-added c = apart_added

pub returns-clause-removed : goal.returns-clause-removed
returns-clause-removed c = apart_removed

pub returns-clause-listed : goal.returns-clause-listed
returns-clause-listed c = apart_listed
