-- Whether a schema leaves room for the product's tables.
use Rattle.std.specs.Prelude.{◌≡◌, ℕ, Bool, ◌||◌, false, List, codes}
use Rattle.std.specs.List.{AllByRecursion, list_any}
use Rattle.sqlite.specs.Schema.{Schema}
use Rattle.sqlite.specs.Table.{Table}
use Rattle.sqlite.specs.Change.{is_used, automatics}
use Rattle.sqlite.specs.Does.{lacks_sequence}
use Rattle.sqlite_schema.specs.Names.{same_name}
use Rattle.sqlite_schema.specs.declared.schema.Reference.{Reference}
use Rattle.store_tables.specs.Names.{uses_table_name}

-- a foreign key names this table, in letters of either case; the table need not be there
abbrev pub is_referred : Schema → List ℕ → Bool
is_referred schema name = list_any (λ child. list_any (λ (ref : Reference). same_name name ref.parent) child.references) schema.tables

-- a foreign key names a table of schema 1, or one of those that later schemas add
abbrev pub refers_to_own : Schema → Bool
refers_to_own schema =
    is_referred schema (codes "mark") || is_referred schema (codes "item") || is_referred schema (codes "member") || is_referred schema (codes "edition")
    || is_referred schema (codes "entry") || is_referred schema (codes "kept") || is_referred schema (codes "word") || is_referred schema (codes "gram")

-- the name of an index that CREATE TABLE makes for a key of a table of schema 1 is in use
abbrev pub uses_index_name : Schema → Bool
uses_index_name schema =
    is_used schema (codes "sqlite_autoindex_item_1") || is_used schema (codes "sqlite_autoindex_member_1") || is_used schema (codes "sqlite_autoindex_member_2")
    || is_used schema (codes "sqlite_autoindex_entry_1") || is_used schema (codes "sqlite_autoindex_kept_1") || is_used schema (codes "sqlite_autoindex_kept_2")

-- There is room for all of them, and no table with AUTOINCREMENT waits for its counter, which a CREATE would make too.
pub record HasRoom (schema : Schema) : Type 0 where
  pub unused : uses_table_name schema ≡ false
  pub unreferred : refers_to_own schema ≡ false
  pub unindexed : uses_index_name schema ≡ false
  pub counted : lacks_sequence schema ≡ false

-- There is room for this one: its name and those of its indexes are free, and no foreign key names it.
pub record LeavesRoom (schema : Schema) (table : Table) : Type 0 where
  pub unused : is_used schema table.name ≡ false
  pub unreferred : is_referred schema table.name ≡ false
  pub unindexed : AllByRecursion (λ index. is_used schema index.name ≡ false) (automatics table 0 0 table.uniques)
