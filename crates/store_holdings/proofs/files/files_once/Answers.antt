use Rattle.store_holdings.proofs.FileLemmas.{part_once}
use Rattle.store_holdings.proofs.OrphanLemmas.{beside_orphans}
use Rattle.store_holdings.proofs.files.files_once.Goals as goal

pub returns-clause-once : goal.returns-clause-once
returns-clause-once c = part_once

pub returns-clause-beside : goal.returns-clause-beside
returns-clause-beside c = beside_orphans
