-- Parts that are read row by row, and what has been given so far.
use Rattle.std.specs.Prelude.{ℤ, true, List, [], ◌∷◌}
use Rattle.sqlite.specs.declared.types.Value.TheVariants.{Int}
use Rattle.sqlite.specs.Order.{Row}
use Rattle.sqlite.specs.Held.{Held}
use Rattle.sqlite_trees.specs.declared.store.Store.{Ghosts}
use Rattle.store_sql.specs.PartTable.{part}
use Rattle.store_sql.specs.ChosenParts.{is_of_file}
use Rattle.store_sql.specs.PartTexts.{part_rowid_text, file_text}
use Rattle.store_sql.specs.RowQueries.{RowQuery, selection_query, HasGivenRows}

-- which parts are read: all, in the order of their rowids; or those of a file
pub data PartScan : Type 0 where
  ByRowid : PartScan
  OfFile : (edition file : ℤ) → PartScan

-- the query that reads them
abbrev pub part_query : PartScan → RowQuery
part_query ByRowid = selection_query part_rowid_text [] part (λ _. true) (0 ∷ [])
part_query (OfFile edition file) = selection_query file_text (Int edition ∷ Int file ∷ []) part (is_of_file edition file) (3 ∷ [])

-- the connection reads these, and has given these rows
abbrev pub HasGivenParts : {S : Type 0} → Ghosts S → PartScan → Held S → List Row → Type 0
HasGivenParts g what h given = HasGivenRows g (part_query what) h given
