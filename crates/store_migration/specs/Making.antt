-- The statements by which the empty tables of the known version are made, and why nothing comes of them.
use Rattle.std.specs.Prelude.{◌++◌, ℕ, List, [], ◌∷◌, codes, map}
use Rattle.sqlite.specs.Effect.{Database}
use Rattle.sqlite.specs.State.{State}
use Rattle.sqlite.specs.Held.{Held}
use Rattle.sqlite.specs.Table.{Table}
use Rattle.sqlite.specs.declared.error.Error.{Error}
use Rattle.sqlite_trees.specs.declared.store.Store.{Ghosts}
use Rattle.store_tables.specs.declared.tables.StoreTable.{StoreTable}
use Rattle.store_tables.specs.declared.tables.StoreTable.TheVariants.{Mark, Item, Member, Kept}
use Rattle.store_tables.specs.Creates.{Makes, FailsToMake}
use Rattle.store_sql.specs.Encodings.{mark_row}
use Rattle.store_sql.specs.Turns.{DoneInTurn, FailedInTurn}
use Rattle.store_sql.specs.Statements as sql
use Rattle.store_sql.specs.Statements.{Statement, make, add}
use Rattle.store_sql.specs.HeaderTable.{header}
use Rattle.store_sql.specs.PartTable.{part}
use Rattle.store_rows.specs.Written.{mark_record}
use Rattle.dict_desk.specs.declared.fault.Fault.{Fault}
use Rattle.store_holdings.specs.Faults.{fault_of}
use Rattle.store_holdings.specs.Writing.{TransactionFailsToEnd}

-- the tables of which no version has another form
abbrev pub lasting_tables : List StoreTable
lasting_tables = Mark ∷ Item ∷ Member ∷ Kept ∷ []

-- a statement over those, or a table is made that only the known version has
pub data CreationStep : Type 0 where
  one : Statement → CreationStep
  making : Table → CreationStep

-- it has done what it says
abbrev pub StepSucceeds : CreationStep → State → State → Type 0
StepSucceeds (one statement) old new = sql.Succeeds statement old new
StepSucceeds (making table) old new = Makes table old new

-- it failed, for the cause that the error names
abbrev pub StepFails : CreationStep → State → State → Error → Type 0
StepFails (one statement) old new e = sql.FailsTo statement old new e
StepFails (making table) old new e = FailsToMake table old new e

-- the steps of a creation: each table is made, and then the mark of the empty catalogue is added
abbrev pub creation : ℕ → List CreationStep
creation version = map one (map make lasting_tables) ++ making (header 0) ∷ making (part 0) ∷ one (add (codes "mark") (mark_row (mark_record version 0))) ∷ []

module _ {S : Type 0} (g : Ghosts S) where
  -- Each has done what it says, one after the other, and a stop leaves what it left before.
  abbrev pub StepsRunInTurn : List CreationStep → Held S → Held S → Type 0
  StepsRunInTurn = DoneInTurn g StepSucceeds

  -- One of them failed, where those before it had done what they say.
  abbrev pub StepsFailInTurn : List CreationStep → Held S → Held S → Error → Type 0
  StepsFailInTurn = FailedInTurn g StepSucceeds StepFails

  -- A transaction was begun, and one of these steps failed, where those before it had done what they say, and it was rolled back;
  -- or they all did, so that P holds of the database, and its commit failed.
  abbrev pub CreationFailsToEnd : List CreationStep → (Database → Type 0) → Held S → Held S → Fault → Type 0
  CreationFailsToEnd steps P = TransactionFailsToEnd g fault_of (StepsFailInTurn steps) (StepsRunInTurn steps) P
