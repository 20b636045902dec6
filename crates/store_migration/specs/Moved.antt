-- A whole migration, before its commit.
use Rattle.std.specs.Prelude.{◌≡◌, ℕ, ℤ, pos, true, IsTrue, List, codes, map, Option, Some, None}
use Rattle.sqlite.specs.Effect.{Database}
use Rattle.sqlite.specs.State.{State}
use Rattle.store_tables.specs.Records.{HeaderRecord}
use Rattle.store_tables.specs.Added.{AreAdded}
use Rattle.store_tables.specs.Creates.{IsMade}
use Rattle.store_tables.specs.Effects.{IsAdded, IsRemoved}
use Rattle.store_sql.specs.Encodings.{mark_row}
use Rattle.store_sql.specs.HeaderRecords.{header_row}
use Rattle.store_sql.specs.HeaderTable.{header}
use Rattle.store_sql.specs.PartTable.{part}
use Rattle.dict_catalogue.specs.Items.{edition_numbers}
use Rattle.dict_catalogue.specs.Tests.{Holdings}
use Rattle.store_rows.specs.Versions.{known, layout_of}
use Rattle.store_rows.specs.Written.{mark_record}
use Rattle.store_migration.specs.declared.older.Older.{Older}
use Rattle.store_migration.specs.Older.{DroppedInTurn, gone_names, layout_before}
use Rattle.store_migration.specs.Steps.{AreParted}

-- the mark was taken out, and that of the known version was put in, with this count of installs
pub record IsMarkedAnew (installs : ℕ) (old new : Database) : Type 0 where
  pub cleared : Database
  pub taken : IsRemoved (codes "mark") (λ _. true) old cleared
  pub put : IsAdded (codes "mark") (mark_row (mark_record known installs)) cleared new

-- the table of parts was made, the files of these editions were put into it, and the old tables were dropped; these are the
-- editions' headers
pub record AreTakenApart (older : Older) (numbers : List ℤ) (headers : List HeaderRecord) (old new : Database) : Type 0 where
  pub with_table : Database
  pub with_files : Database
  pub made : IsMade (part 0) old with_table
  pub parted : AreParted older numbers headers with_table with_files
  pub gone : DroppedInTurn (gone_names older) with_files new

-- the table of editions was made again, without texts, and these headers were put in
pub record AreHeaded (headers : List HeaderRecord) (old new : Database) : Type 0 where
  pub with_table : Database
  pub made : IsMade (header 0) old with_table
  pub added : AreAdded (codes "edition") (map header_row headers) with_table new

-- all of it, and then the mark was written anew
pub record IsMoved (older : Older) (numbers : List ℤ) (installs : ℕ) (old new : Database) : Type 0 where
  pub headers : List HeaderRecord
  pub apart : Database
  pub headed : Database
  pub takes : AreTakenApart older numbers headers old apart
  pub heads : AreHeaded headers apart headed
  pub marked : IsMarkedAnew installs headed new

-- all of it; or, where the tables were laid out as those of the known version already, the mark alone was written anew
abbrev pub IsRenewed : Option Older → List ℤ → ℕ → Database → Database → Type 0
IsRenewed (Some older) numbers installs old new = IsMoved older numbers installs old new
IsRenewed None numbers installs old new = IsMarkedAnew installs old new

-- So it was of the tables of this version, of a catalogue of this summary: those that the version alone has are gone, those of the known
-- one are made and filled, and nothing else is done; or the mark alone is another.
abbrev pub IsRenewedFrom : ℕ → Holdings (List ℕ) → Database → Database → Type 0
IsRenewedFrom version summary old new = (older : Option Older) × (layout_of version ≡ layout_before older) × IsRenewed older (map pos (edition_numbers summary.items)) summary.installs old new

-- what is made of an open store
pub record IsOutcome (older : Option Older) (numbers : List ℤ) (installs : ℕ) (old : State) (new : Database) : Type 0 where
  pub was_open : IsTrue old.is_open
  pub moved : IsRenewed older numbers installs old.now new
