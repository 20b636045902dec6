use Rattle.store_migration.proofs.StopLemmas.{migrated, same_held}
use Rattle.store_migration.proofs.laws.migrated_holds.Goals as goal

pub returns-clause-holds : goal.returns-clause-holds
returns-clause-holds c = migrated

pub returns-clause-same : goal.returns-clause-same
returns-clause-same c = same_held
