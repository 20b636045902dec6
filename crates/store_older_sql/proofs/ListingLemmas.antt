-- All entries that are read are those that the table has.
use Rattle.std.proofs.Common.{List, [], ◌∷◌, subst}
use Rattle.std.specs.List.Sorted.{IsPermutation}
use Rattle.sqlite.specs.Effect.{Database}
use Rattle.sqlite.specs.Order.{Row}
use Rattle.store_tables.specs.Effects.{rows_of}
use Rattle.store_sql.specs.Reads.{IsListing}
use Rattle.store_tables.proofs.RemoveLemmas.{all_pass}
use Rattle.store_tables.specs.Keyed.{entry_with_keys}
use Rattle.store_older_sql.specs.Scans.{AreAllOlder}
use Rattle.store_older_sql.specs.Scans.OlderScan.{ShownByRowid}

pub listed_by_rowid : (db : Database) (rows : List Row) → AreAllOlder ShownByRowid db rows → IsListing (entry_with_keys 0).name (0 ∷ []) db rows
listed_by_rowid db rows whole = record {
  same = subst (λ l. IsPermutation l rows) (all_pass (rows_of (entry_with_keys 0).name db)) whole.same;
  sorted = whole.sorted;
}
