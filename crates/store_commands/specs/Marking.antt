-- The mark written as it is, by one commit.
use Rattle.std.specs.Prelude.{◌≡◌, ◌⊎◌, ℕ, true, List, Option, None}
use Rattle.sqlite.specs.Effect.{Database}
use Rattle.sqlite.specs.State.{Fails, IsRolledBack}
use Rattle.sqlite.specs.Held.{Held, state}
use Rattle.sqlite.specs.declared.error.Error.{Error}
use Rattle.sqlite_trees.specs.declared.store.Store.{Ghosts}
use Rattle.store_sql.specs.Statements.{Statement, RunInTurn, FailsInTurn}
use Rattle.dict_catalogue.specs.Items.{edition_numbers}
use Rattle.dict_catalogue.specs.Steps.{Catalogue, summary_of}
use Rattle.dict_catalogue.specs.Tests.{Holdings}
use Rattle.dict_desk.specs.declared.fault.Fault.{Fault}
use Rattle.store_rows.specs.Versions.{known}
use Rattle.store_holdings.specs.Holds.{Holds}
use Rattle.store_commands.specs.KeptRecords.{SparesTablesOfOthers, KeepsTextRows}
use Rattle.store_commands.specs.Statements.{mark_anew}
use Rattle.store_commands.specs.Filing.{fault_filed}

-- What was held is held: each catalogue of this summary, the texts of its editions, and the rows of tables that are none of the product's.
pub record Remains (summary : Holdings (List ℕ)) (old new : Database) : Type 0 where
  pub holds : (M : Catalogue) → Holds known old M → summary_of M ≡ summary → Holds known new M
  pub texts : KeepsTextRows summary.installs (edition_numbers summary.items) old new
  pub others : SparesTablesOfOthers old new

module _ {S : Type 0} (g : Ghosts S) where
  -- One of the statements failed, where those before it had done what they say, and they were undone; or the commit failed behind them.
  -- What is told is what the error is told as.
  pub record FailsToCommitRun (statements : List Statement) (old new : Held S) (why : Option Fault) : Type 0 where
    pub error : Error
    pub told : why ≡ fault_filed error
    pub last : Held S
    pub cause : (FailsInTurn g statements (record old { in_transaction = true }) last error × IsRolledBack (state g last) (state g new))
        ⊎ (RunInTurn g statements (record old { in_transaction = true }) last × Fails (state g last) (state g new) ⊥ error)

  -- So it was; or the count of installs is none that a column can hold, and nothing was done.
  abbrev pub FailsToMark : ℕ → Held S → Held S → Option Fault → Type 0
  FailsToMark installs old new why = ((why ≡ None) × (new ≡ old)) ⊎ FailsToCommitRun (mark_anew known installs) old new why
