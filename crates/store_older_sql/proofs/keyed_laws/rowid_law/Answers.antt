use Rattle.store_older_sql.proofs.ListingLemmas.{listed_by_rowid}
use Rattle.store_older_sql.proofs.keyed_laws.rowid_law.Goals as goal

pub returns : goal.returns
returns c = listed_by_rowid
