-- The texts that take rows out of the tables, what they need and what they do.
use Rattle.std.specs.Prelude.{ℕ, Bool, List, codes}
use Rattle.sqlite.specs.Order.{Row}
use Rattle.sqlite.specs.Table.{Table}
use Rattle.sqlite.specs.Effect.{Database}
use Rattle.sqlite.specs.State.{State}
use Rattle.sqlite.specs.declared.error.Error.{Error}
use Rattle.store_tables.specs.Effects.{Has, HasApartRowids, rows_of, IsRemoved, FailsIn, GoesOn}
use Rattle.store_tables.specs.Refusals.{RefusesToRemove}
use Rattle.store_tables.specs.declared.tables.StoreTable.{StoreTable}
use Rattle.store_tables.specs.declared.tables.StoreTable.TheVariants.{Mark, Item, Member, Edition, Entry, Kept}

abbrev pub clear_text : StoreTable → List ℕ
clear_text Mark = codes "DELETE FROM mark"
clear_text Item = codes "DELETE FROM item"
clear_text Member = codes "DELETE FROM member"
clear_text Edition = codes "DELETE FROM edition"
clear_text Entry = codes "DELETE FROM entry"
clear_text Kept = codes "DELETE FROM kept"

-- the database has the table, and no two of its rows have one rowid
pub record HasToRemove (table : ℕ → Table) (db : Database) : Type 0 where
  pub has : Has table db
  pub apart : HasApartRowids (rows_of (table 0).name db)

-- the rows of the table that pass the test are gone
abbrev pub Removes : List ℕ → (Row → Bool) → State → State → Type 0
Removes name test old new = IsRemoved name test old.now new.now × GoesOn old new

abbrev pub FailsToRemove : List ℕ → (Row → Bool) → State → State → Error → Type 0
FailsToRemove name test old new = FailsIn (RefusesToRemove name test old) ⊥ old new
