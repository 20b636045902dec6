-- What a table of others keeps, whatever is made or dropped beside it.
use Rattle.std.specs.Prelude.{◌≡◌, ◌==◌, ℕ, List, [], filter, option_map, unwrap_or}
use Rattle.sqlite.specs.Effect.{Database}
use Rattle.sqlite.specs.Table.{Table}
use Rattle.sqlite_schema.specs.declared.schema.Index.{Index}
use Rattle.store_tables.specs.Effects.{rows_of, table_in}

-- the indexes of the table of this name, those of its keys among them
abbrev pub indexes_of : List ℕ → Database → List Index
indexes_of name db = unwrap_or (option_map (λ (t : Table). filter (λ (index : Index). index.table == t.tree) db.schema.indexes) (table_in name db)) []

-- the table of this name is as it was, with its columns and its keys, and has the rows and the indexes that it had; or there is none still
pub record SparesTable (name : List ℕ) (old new : Database) : Type 0 where
  pub table : table_in name new ≡ table_in name old
  pub rows : rows_of name new ≡ rows_of name old
  pub indexes : indexes_of name new ≡ indexes_of name old
