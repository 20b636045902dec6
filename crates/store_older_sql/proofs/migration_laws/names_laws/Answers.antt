use Rattle.store_older_sql.proofs.ApartLemmas.{table_index, index_index}
use Rattle.store_older_sql.proofs.FreedLemmas.{freed_exactly, owned_names, room_again}
use Rattle.store_older_sql.proofs.migration_laws.names_laws.Goals as goal

pub returns-clause-tables : goal.returns-clause-tables
returns-clause-tables c = table_index

pub returns-clause-indexes : goal.returns-clause-indexes
returns-clause-indexes c = index_index

pub returns-clause-exact : goal.returns-clause-exact
returns-clause-exact c = freed_exactly

pub returns-clause-owned : goal.returns-clause-owned
returns-clause-owned c table defined db whole own = owned_names db whole table defined own

pub returns-clause-again : goal.returns-clause-again
returns-clause-again c = room_again
