-- The table of the mark, of which no more is asked than what reading it needs.
use Rattle.std.specs.Prelude.{◌≡◌, ◌<◌, ◌^◌, ◌==◌, ℕ, false, codes, count_by, Some}
use Rattle.std.specs.List.{list_any}
use Rattle.sqlite.specs.Schema.{Schema}
use Rattle.sqlite.specs.Table.{Table}
use Rattle.store_tables.specs.Found.{found_table, is_further_key}
use Rattle.store_tables.specs.Tables.{mark}

-- The table's number is within the bound of every tree's, no other table shares its tree, and it has no further unique index.
pub record IsSingle (schema : Schema) (table : Table) : Type 0 where
  pub stored : table.tree < 2 ^ 31
  pub single : count_by (λ t. t.tree == table.tree) schema.tables ≡ 1
  pub unkeyed : list_any (is_further_key table) schema.indexes ≡ false

-- The schema has the table of the mark as the product defines it. A foreign key may refer to it, which only a write asks after: a file in which one does holds no catalogue, but whose it is, and of which version, is told.
pub record HasMarkTable (schema : Schema) : Type 0 where
  pub tree : ℕ
  pub found : found_table schema (codes "mark") ≡ Some (mark tree)
  pub single : IsSingle schema (mark tree)
