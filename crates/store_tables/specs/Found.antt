-- Whether a schema that is found has a table.
use Rattle.std.specs.Prelude.{◌≡◌, ◌<◌, ◌^◌, ◌==◌, ◌&&◌, not, ℕ, Bool, false, List, [], ◌∷◌, filter, find, count_by, nat_eq, Option, Some, None, option_and_then, slice_get}
use Rattle.std.specs.List.{AllByRecursion, list_any}
use Rattle.std.specs.Cmp.Lexicographic.{pointwise}
use Rattle.sqlite.specs.Schema.{Schema}
use Rattle.sqlite.specs.Table.{Table}
use Rattle.sqlite_schema.specs.Names.{table_named, same_name}
use Rattle.sqlite_schema.specs.declared.schema.Reference.{Reference}
use Rattle.sqlite_schema.specs.declared.schema.Index.{Index}

abbrev pub is_in : ℕ → Option Table → Bool
is_in tree None = false
is_in tree (Some t) = t.tree == tree

-- The schema has the table at this place of its list, the first in its tree, whose number is within the bound of every tree's, and no foreign key refers to it. This is what the statements ask of a schema.
pub record HasTable (schema : Schema) (at : ℕ) (table : Table) : Type 0 where
  pub named : table_named schema table.name ≡ Some at
  pub is : slice_get schema.tables at ≡ Some table
  pub alone : find (λ t. t.tree == table.tree) schema.tables ≡ Some table
  pub stored : table.tree < 2 ^ 31
  pub unreferred : AllByRecursion (λ child. AllByRecursion (λ (ref : Reference). is_in table.tree (find (λ t. same_name t.name ref.parent) schema.tables) ≡ false) child.references) schema.tables

-- The index is unique, over this table, and isn't that of one of its UNIQUE keys: it has other columns, or not in the plain order.
abbrev pub is_further_key : Table → Index → Bool
is_further_key table index = index.table == table.tree && (index.is_unique && not (index.order.digits == 0 && list_any (λ key. pointwise nat_eq key index.columns) table.uniques))

-- The schema has one of the product's tables, no other table shares its tree, and it has no further unique index. This is what is tested of a schema that is found.
pub record HasOwn (schema : Schema) (table : ℕ → Table) : Type 0 where
  pub at : ℕ
  pub tree : ℕ
  pub has : HasTable schema at (table tree)
  pub only : filter (λ t. t.tree == tree) schema.tables ≡ table tree ∷ []
  pub keyed : AllByRecursion (λ index. is_further_key (table tree) index ≡ false) schema.indexes

-- ---- how it is tested

abbrev pub found_table : Schema → List ℕ → Option Table
found_table schema name = option_and_then (slice_get schema.tables) (table_named schema name)

pub record IsAlone (schema : Schema) (table : Table) : Type 0 where
  pub stored : table.tree < 2 ^ 31
  pub single : count_by (λ t. t.tree == table.tree) schema.tables ≡ 1
  pub unreferred : list_any (λ child. list_any (λ (ref : Reference). is_in table.tree (found_table schema ref.parent)) child.references) schema.tables ≡ false
  pub unkeyed : list_any (is_further_key table) schema.indexes ≡ false
