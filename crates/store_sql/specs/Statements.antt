-- The statements of a transaction, one after the other.
use Rattle.std.specs.Prelude.{ℕ, Bool, List}
use Rattle.sqlite.specs.Order.{Row}
use Rattle.sqlite.specs.State.{State}
use Rattle.sqlite.specs.Held.{Held}
use Rattle.sqlite.specs.declared.error.Error.{Error}
use Rattle.sqlite_trees.specs.declared.store.Store.{Ghosts}
use Rattle.store_tables.specs.declared.tables.StoreTable.{StoreTable}
use Rattle.store_tables.specs.Tables.{table_of}
use Rattle.store_tables.specs.Creates.{Makes, FailsToMake}
use Rattle.store_sql.specs.Inserts.{Inserts, FailsToInsert}
use Rattle.store_sql.specs.Deletes.{Removes, FailsToRemove}
use Rattle.store_sql.specs.Turns.{DoneInTurn, FailedInTurn}

-- a statement that writes: it makes a table, adds a row to the table of this name, or takes out those rows of it that pass a test
pub data Statement : Type 0 where
  make : StoreTable → Statement
  add : List ℕ → Row → Statement
  remove : List ℕ → (Row → Bool) → Statement

-- it has done what it says
abbrev pub Succeeds : Statement → State → State → Type 0
Succeeds (make table) old new = Makes (table_of table 0) old new
Succeeds (add name row) old new = Inserts name row old new
Succeeds (remove name test) old new = Removes name test old new

-- it failed, for the cause that the error names
abbrev pub FailsTo : Statement → State → State → Error → Type 0
FailsTo (make table) old new e = FailsToMake (table_of table 0) old new e
FailsTo (add name row) old new e = FailsToInsert name row old new e
FailsTo (remove name test) old new e = FailsToRemove name test old new e

module _ {S : Type 0} (g : Ghosts S) where
  -- Each has done what it says, one after the other, and a stop leaves what it left before.
  abbrev pub RunInTurn : List Statement → Held S → Held S → Type 0
  RunInTurn = DoneInTurn g Succeeds

  -- One of them failed, where those before it had done what they say.
  abbrev pub FailsInTurn : List Statement → Held S → Held S → Error → Type 0
  FailsInTurn = FailedInTurn g Succeeds FailsTo
