use Rattle.store_holdings.proofs.FileLemmas.{is_new}
use Rattle.store_holdings.proofs.OrphanLemmas.{after_keeps, after_orphans}
use Rattle.store_holdings.proofs.files.files_after.Goals as goal

pub returns-clause-after : goal.returns-clause-after
returns-clause-after c = after_keeps

pub returns-clause-orphans : goal.returns-clause-orphans
returns-clause-orphans c = after_orphans

pub returns-clause-new : goal.returns-clause-new
returns-clause-new c = is_new
