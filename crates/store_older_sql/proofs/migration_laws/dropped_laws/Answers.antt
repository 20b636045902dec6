use Rattle.store_older_sql.proofs.DroppedLemmas.{drop_keeps, drop_rows, drop_leaves, drop_unreferred, drop_unused, drop_frees, drop_still_free, drop_counted}
use Rattle.store_older_sql.proofs.migration_laws.dropped_laws.Goals as goal

pub returns-clause-kept : goal.returns-clause-kept
returns-clause-kept c = drop_keeps

pub returns-clause-rows : goal.returns-clause-rows
returns-clause-rows c = drop_rows

pub returns-clause-room : goal.returns-clause-room
returns-clause-room c = drop_leaves

pub returns-clause-unreferred : goal.returns-clause-unreferred
returns-clause-unreferred c = drop_unreferred

pub returns-clause-gone : goal.returns-clause-gone
returns-clause-gone c = drop_unused

pub returns-clause-freed : goal.returns-clause-freed
returns-clause-freed c = drop_frees

pub returns-clause-unused : goal.returns-clause-unused
returns-clause-unused c = drop_still_free

pub returns-clause-counted : goal.returns-clause-counted
returns-clause-counted c = drop_counted
