use Rattle.store_tables.proofs.Callers.{own_has, still_has}
use Rattle.store_tables.proofs.database_laws.has_laws.Goals as goal

pub returns-clause-own : goal.returns-clause-own
returns-clause-own c = own_has

pub returns-clause-still : goal.returns-clause-still
returns-clause-still c = still_has
