-- All headers, read row by row in the order of their rowids, and what has been given so far.
use Rattle.std.specs.Prelude.{List, [], ◌∷◌}
use Rattle.sqlite.specs.Order.{Row}
use Rattle.sqlite.specs.Held.{Held}
use Rattle.sqlite_trees.specs.declared.store.Store.{Ghosts}
use Rattle.store_sql.specs.HeaderTable.{header}
use Rattle.store_sql.specs.HeaderTexts.{header_rowid_text}
use Rattle.store_sql.specs.RowQueries.{RowQuery, listing_query, HasGivenRows}

-- the query that reads them
abbrev pub header_query : RowQuery
header_query = listing_query header_rowid_text header (0 ∷ [])

-- the connection reads them, and has given these rows
abbrev pub HasGivenHeaders : {S : Type 0} → Ghosts S → Held S → List Row → Type 0
HasGivenHeaders g h given = HasGivenRows g header_query h given
