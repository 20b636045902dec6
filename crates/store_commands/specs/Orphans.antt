-- Parts of no edition, taken out by one commit.
use Rattle.std.specs.Prelude.{◌≡◌, ◌<◌, ◌⊎◌, ℕ, ℤ, pos, Bool, true, false, List, [], filter, map, take, Option, None, codes}
use Rattle.sqlite.specs.Effect.{Database}
use Rattle.sqlite.specs.Held.{Held, state}
use Rattle.sqlite.specs.State.{HasCleanDisk}
use Rattle.sqlite_trees.specs.declared.store.Store.{Ghosts}
use Rattle.store_tables.specs.Effects.{count_in, equals_number}
use Rattle.store_sql.specs.Statements.{Statement}
use Rattle.store_tables.specs.Records.{Part}
use Rattle.dict_desk.specs.declared.fault.Fault.{Fault}
use Rattle.store_rows.specs.Tables.{same_number}
use Rattle.store_holdings.specs.AllTables.{AllTables}
use Rattle.store_holdings.specs.HeldTexts.{rows_under}
use Rattle.store_commands.specs.KeptRecords.{TurnsRecords}
use Rattle.store_commands.specs.Marking.{FailsToCommitRun}
use Rattle.store_commands.specs.Writes.{WroteStatements}
use Rattle.store_commands.specs.Statements.{taking_from, taking_parts, last_parts}

-- these take out parts of this number: those of a file from some of these bounds on, or all of them
abbrev pub AreTakingOut : ℕ → List (ℤ × ℤ) → List Statement → Type 0
AreTakingOut number bounds statements = ((so_many : ℕ) × (statements ≡ map (taking_from number) (take so_many bounds))) ⊎ (statements ≡ taking_parts number bounds)

-- some parts stay
abbrev pub with_parts_that : (Part → Bool) → AllTables → AllTables
with_parts_that stays all = record all { parts = filter stays all.parts }

-- whatever records the tables kept, they keep them still, but for parts of this number
pub record LosesParts (number : ℕ) (old new : Database) : Type 0 where
  pub stays : Part → Bool
  pub others : (part : Part) → same_number (pos number) part.edition ≡ false → stays part ≡ true
  pub turns : TurnsRecords (with_parts_that stays) old new

-- how many parts have this number
abbrev pub rows_left_under : ℕ → Database → ℕ
rows_left_under number db = count_in (codes "dictcat_part") (equals_number 1 (pos number)) db

-- no part has this number
abbrev pub HasNoParts : ℕ → Database → Type 0
HasNoParts number db = rows_under (codes "dictcat_part") number db ≡ []

module _ {S : Type 0} (g : Ghosts S) where
  -- Such statements ran within the transaction, and made nothing else of the records; where there may be more, fewer parts have the number
  -- than before, and where there is no more, none has.
  pub record TakesOut (number : ℕ) (bounds : List (ℤ × ℤ)) (more : Bool) (old new : Held S) : Type 0 where
    pub statements : List Statement
    pub are : AreTakingOut number bounds statements
    pub stays : Part → Bool
    pub wrote : WroteStatements g statements (with_parts_that stays) old new
    pub others : (part : Part) → same_number (pos number) part.edition ≡ false → stays part ≡ true
    pub fewer : HasCleanDisk (state g new) → more ≡ true → rows_left_under number (state g new).now < rows_left_under number (state g old).now
    pub its : more ≡ false → (part : Part) → same_number (pos number) part.edition ≡ true → stays part ≡ false

  -- Such statements, or their commit, failed.
  pub record FailsToTakeOut (number : ℕ) (old new : Held S) (why : Option Fault) : Type 0 where
    pub statements : List Statement
    pub are : AreTakingOut number last_parts statements
    pub fails : FailsToCommitRun g statements old new why

  -- So it was; or an edition has the number, or no column can hold it, and nothing was done.
  abbrev pub FailsToTakeOrphans : ℕ → Held S → Held S → Option Fault → Type 0
  FailsToTakeOrphans number old new why = ((why ≡ None) × (new ≡ old)) ⊎ FailsToTakeOut number old new why
