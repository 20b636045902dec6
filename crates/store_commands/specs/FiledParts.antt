-- What a part of a filing does, by its commit.
use Rattle.std.specs.Prelude.{◌≡◌, ◌≢◌, ◌⊎◌, ℕ, ◌<◌, true, List, Option, None}
use Rattle.sqlite.specs.Effect.{Database}
use Rattle.sqlite.specs.Held.{Held}
use Rattle.sqlite.specs.declared.error.Error.{Error}
use Rattle.sqlite_trees.specs.declared.store.Store.{Ghosts}
use Rattle.store_sql.specs.Statements.{Statement}
use Rattle.dict_desk.specs.declared.fault.Fault.{Fault}
use Rattle.store_commands.specs.KeptRecords.{TurnsRecords}
use Rattle.store_commands.specs.Filing.{AreAllPartsFiled, AreOfSomePart, filing_part, with_part}
use Rattle.store_commands.specs.Marking.{FailsToCommitRun}
use Rattle.store_commands.specs.Writes.{WroteStatements, FailsToWrite}
use Rattle.store_commands.specs.declared.filing.Filing.{Filing}

-- what a part that ends before this place, behind those that are filed, makes of what the tables kept
pub record FilesUpTo (f : Filing) (to : ℕ) (old new : Database) : Type 0 where
  pub goes_on : f.is_begun ≡ true → f.parts_filed < to
  pub turns : TurnsRecords (with_part f.is_begun f to) old new

module _ {S : Type 0} (g : Ghosts S) where
  -- So it was within the transaction.
  pub record WritesUpTo (f : Filing) (to : ℕ) (old new : Held S) : Type 0 where
    pub goes_on : f.is_begun ≡ true → f.parts_filed < to
    pub wrote : WroteStatements g (filing_part f.is_begun f to) (with_part f.is_begun f to) old new

  -- One of statements of this kind failed, where those before it had done what they say.
  abbrev pub FailsAmong : (List Statement → Type 0) → Held S → Held S → Error → Type 0
  FailsAmong Is old new e = (statements : List Statement) × Is statements × FailsToWrite g statements old new e

  -- Another number is the next one, or all parts are filed, and nothing was done, which is told by None; or the next part of the filing failed.
  abbrev pub FailsToFile : ℕ → Filing → Held S → Held S → Option Fault → Type 0
  FailsToFile next f old new why =
      ((why ≡ None) × ((f.number ≢ next) ⊎ AreAllPartsFiled f) × (new ≡ old))
      ⊎ ((statements : List Statement) × AreOfSomePart f statements × FailsToCommitRun g statements old new why)
