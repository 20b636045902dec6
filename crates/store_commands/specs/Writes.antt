-- What calls inside a transaction have written, and what they leave alone.
use Rattle.std.specs.Prelude.{◌≡◌, true, List}
use Rattle.sqlite.specs.State.{HasCleanDisk, KeepsCommit, Survives}
use Rattle.sqlite.specs.Held.{Held, state}
use Rattle.sqlite.specs.declared.error.Error.{Error}
use Rattle.sqlite_trees.specs.declared.store.Store.{Ghosts}
use Rattle.store_sql.specs.Statements.{Statement, RunInTurn, FailsInTurn}
use Rattle.store_holdings.specs.AllTables.{AllTables}
use Rattle.store_commands.specs.KeptRecords.{TurnsRecords}

module _ {S : Type 0} (g : Ghosts S) where
  -- These statements ran, one after the other, within the transaction, and made this of the records.
  pub record WroteStatements (statements : List Statement) (f : AllTables → AllTables) (old new : Held S) : Type 0 where
    pub turns : HasCleanDisk (state g new) → TurnsRecords f (state g old).now (state g new).now
    pub ran : HasCleanDisk (state g new) → RunInTurn g statements old new
    pub inside : HasCleanDisk (state g new) → (state g old).in_transaction ≡ true → (state g new).in_transaction ≡ true

  -- One of them failed, where those before it had done what they say.
  abbrev pub FailsToWrite : List Statement → Held S → Held S → Error → Type 0
  FailsToWrite statements old new e = HasCleanDisk (state g new) → FailsInTurn g statements old new e

  -- Nothing was committed, and nothing is added to what a stop may leave.
  pub record CommitsNothing (old new : Held S) : Type 0 where
    pub keeps : HasCleanDisk (state g new) → KeepsCommit (state g old) (state g new)
    pub survives : Survives (state g old) (state g new) (λ _. ⊥)
