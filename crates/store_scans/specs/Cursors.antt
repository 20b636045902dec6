-- What is read row by row, and what was given so far.
use Rattle.std.specs.Prelude.{ℤ, List}
use Rattle.sqlite.specs.Order.{Row}
use Rattle.sqlite.specs.Effect.{Database}
use Rattle.sqlite.specs.Held.{Held}
use Rattle.sqlite_trees.specs.declared.store.Store.{Ghosts}
use Rattle.store_sql.specs.RowQueries.{RowQuery, IsFrontOfRows, HasGivenRows}
use Rattle.store_sql.specs.Streams.{Scan, scan_query}
use Rattle.store_older_sql.specs.Scans.{older_query}
use Rattle.store_older_sql.specs.Scans.OlderScan.{ShownOf, ShownByRowid, OldOf, OldByRowid}
use Rattle.store_sql.specs.HeaderScans.{header_query}
use Rattle.store_sql.specs.PartScans.{part_query}
use Rattle.store_sql.specs.PartScans.PartScan.{OfFile, ByRowid as PartByRowid}

-- the rows of a table of schema 1; or the entries of an edition as schema 4 has them, or as schemas 2 and 3 do, or all of them in
-- the order of their rowids; or the parts of a file of an edition, or all parts, or all headers, in the order of their rowids
pub data Cursor : Type 0 where
  InStore : Scan → Cursor
  ShownEntriesOf : ℤ → Cursor
  ShownEntriesByRowid : Cursor
  OldEntriesOf : ℤ → Cursor
  OldEntriesByRowid : Cursor
  PartsOf : (edition file : ℤ) → Cursor
  PartsByRowid : Cursor
  HeadersByRowid : Cursor

-- the query that reads it
abbrev pub cursor_query : Cursor → RowQuery
cursor_query (InStore scan) = scan_query scan
cursor_query (ShownEntriesOf edition) = older_query (ShownOf edition)
cursor_query ShownEntriesByRowid = older_query ShownByRowid
cursor_query (OldEntriesOf edition) = older_query (OldOf edition)
cursor_query OldEntriesByRowid = older_query OldByRowid
cursor_query (PartsOf edition file) = part_query (OfFile edition file)
cursor_query PartsByRowid = part_query PartByRowid
cursor_query HeadersByRowid = header_query

-- all rows that are read, in their order
abbrev pub IsScannedToEnd : Cursor → Database → List Row → Type 0
IsScannedToEnd what db rows = (cursor_query what).IsWhole db rows

-- the first of these rows
abbrev pub IsFrontOfScan : Cursor → Database → List Row → Type 0
IsFrontOfScan what db rows = IsFrontOfRows (cursor_query what) db rows

-- the connection reads this, and has given these rows
abbrev pub CursorHasGiven : {S : Type 0} → Ghosts S → Cursor → Held S → List Row → Type 0
CursorHasGiven g what h given = HasGivenRows g (cursor_query what) h given
