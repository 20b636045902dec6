-- What is read row by row, and what it has given so far.
use Rattle.std.specs.Prelude.{ℤ, true, List, [], ◌∷◌}
use Rattle.sqlite.specs.declared.types.Value.TheVariants.{Int}
use Rattle.sqlite.specs.Order.{Row}
use Rattle.sqlite.specs.Effect.{Database}
use Rattle.sqlite.specs.Held.{Held}
use Rattle.sqlite_trees.specs.declared.store.Store.{Ghosts}
use Rattle.store_tables.specs.Effects.{equals_number}
use Rattle.store_sql.specs.RowQueries.{RowQuery, selection_query, HasGivenRows}
use Rattle.store_tables.specs.Keyed.{entry_with_keys, old_entry}
use Rattle.store_older_sql.specs.Entries.{entry_rowid_text, entry_select_text}

-- which entries are read, one at a time: those of schema 4, or of schemas 2 and 3; all in the order of the rowids, or those of one edition
pub data OlderScan : Type 0 where
  ShownByRowid : OlderScan
  ShownOf : ℤ → OlderScan
  OldByRowid : OlderScan
  OldOf : ℤ → OlderScan

-- the query that reads them
abbrev pub older_query : OlderScan → RowQuery
older_query ShownByRowid = selection_query entry_rowid_text [] entry_with_keys (λ _. true) (0 ∷ [])
older_query (ShownOf edition) = selection_query entry_select_text (Int edition ∷ []) entry_with_keys (equals_number 1 edition) (2 ∷ [])
older_query OldByRowid = selection_query entry_rowid_text [] old_entry (λ _. true) (0 ∷ [])
older_query (OldOf edition) = selection_query entry_select_text (Int edition ∷ []) old_entry (equals_number 1 edition) (2 ∷ [])

-- all rows that are read, in their order
abbrev pub AreAllOlder : OlderScan → Database → List Row → Type 0
AreAllOlder what db rows = (older_query what).IsWhole db rows

-- the connection reads this, and has given these rows
abbrev pub HasGivenOlder : {S : Type 0} → Ghosts S → OlderScan → Held S → List Row → Type 0
HasGivenOlder g what h given = HasGivenRows g (older_query what) h given
