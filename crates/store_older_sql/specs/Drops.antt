-- The texts that drop the tables, and what DROP TABLE does to a database.
use Rattle.std.specs.Prelude.{◌≡◌, ℕ, List, codes, Some, None}
use Rattle.std.specs.List.{AllByRecursion}
use Rattle.sqlite.specs.Effect.{Database, IsDatabase, SparesFrozen}
use Rattle.sqlite.specs.Table.{Table}
use Rattle.sqlite.specs.Change.{without_table}
use Rattle.sqlite_schema.specs.Names.{table_named}
use Rattle.store_tables.specs.declared.tables.StoreTable.{StoreTable}
use Rattle.store_tables.specs.declared.tables.StoreTable.TheVariants.{Mark, Item, Member, Edition, Entry, Kept}
use Rattle.sqlite.specs.State.{State}
use Rattle.sqlite.specs.declared.error.Error.{Error}
use Rattle.store_tables.specs.Effects.{table_in, FailsIn, GoesOn}
use Rattle.store_tables.specs.Refusals.{RefusesToDrop}

abbrev pub drop_text : StoreTable → List ℕ
drop_text Mark = codes "DROP TABLE mark"
drop_text Item = codes "DROP TABLE item"
drop_text Member = codes "DROP TABLE member"
drop_text Edition = codes "DROP TABLE edition"
drop_text Entry = codes "DROP TABLE entry"
drop_text Kept = codes "DROP TABLE kept"

-- The table is gone with its indexes, and no other of its name is there. Each other table stays in its tree, with its rows, and so does what `sqlite` keeps and doesn't read.
pub record IsDropped (name : List ℕ) (old new : Database) : Type 0 where
  pub schema : (table : Table) → table_in name old ≡ Some table → new.schema ≡ without_table old.schema table.tree
  pub gone : IsDatabase old → table_named new.schema name ≡ None
  pub others : AllByRecursion (λ t. new.trees t.tree ≡ old.trees t.tree) new.schema.tables
  pub unread : SparesFrozen old new
  pub sound : IsDatabase new

abbrev pub Drops : List ℕ → State → State → Type 0
Drops name old new = IsDropped name old.now new.now × GoesOn old new

abbrev pub FailsToDrop : List ℕ → State → State → Error → Type 0
FailsToDrop name old new = FailsIn (RefusesToDrop name old) ⊥ old new
