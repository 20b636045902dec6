-- At which moments of a migration each of its parts fails: what it had made before of the database that it began with.
use Rattle.std.specs.Prelude.{◌≡◌, ◌⊎◌, ◌++◌, ℕ, ℤ, true, List, ◌∷◌, map, codes, IsPermutation, Option, Some, None}
use Rattle.sqlite.specs.Effect.{Database}
use Rattle.sqlite.specs.Order.{Row}
use Rattle.store_tables.specs.Records.{EditionRecord, EntryRecord, HeaderRecord}
use Rattle.store_tables.specs.Added.{AreAdded}
use Rattle.store_sql.specs.Columns.{edition_columns}
use Rattle.store_tables.specs.Creates.{IsMade}
use Rattle.store_tables.specs.Effects.{IsRemoved}
use Rattle.store_sql.specs.Encodings.{mark_row}
use Rattle.store_sql.specs.HeaderRecords.{header_row}
use Rattle.store_sql.specs.HeaderTable.{header}
use Rattle.store_sql.specs.PartRecords.{part_row}
use Rattle.store_sql.specs.PartTable.{part}
use Rattle.store_holdings.specs.Files.{index_octets, parts_under}
use Rattle.store_rows.specs.Versions.{known}
use Rattle.store_rows.specs.Written.{mark_record}
use Rattle.store_migration.specs.declared.older.Older.{Older}
use Rattle.store_migration.specs.Moved.{AreHeaded, AreTakenApart}
use Rattle.store_migration.specs.Older.{DroppedInTurn, columns_of, gone_names}
use Rattle.store_migration.specs.MigrationParts.{MigrationPart, making_parts, reading, choosing, writing, putting, dropping, making_editions, clearing_marks, keeping}
use Rattle.store_migration.specs.Steps.{AreEntriesOf, AreParted, IsEditionOf}

-- which part of a call it may be that fails, with the database that the call began with, and the one that this part finds
abbrev pub FailurePlace : Type 1
FailurePlace = MigrationPart → Database → Database → Type 0

-- this part, before which nothing was done
abbrev pub First : MigrationPart → FailurePlace
First this part old at = (part ≡ this) × (at ≡ old)

-- in one of two calls, either of which may be under way
abbrev pub Either : FailurePlace → FailurePlace → FailurePlace
Either P Q part old at = P part old at ⊎ Q part old at

-- in a call behind another one, which had done this
abbrev pub Behind : (Database → Database → Type 0) → FailurePlace → FailurePlace
Behind Does P part old at = (mid : Database) × Does old mid × P part mid at

-- one of these rows is put into a table, when just some of the others had been
pub record Putting (name : List ℕ) (rows : List Row) (part : MigrationPart) (old at : Database) : Type 0 where
  pub put : List Row
  pub row : Row
  pub rest : List Row
  pub these : IsPermutation (put ++ row ∷ rest) rows
  pub is : part ≡ putting name row
  pub added : AreAdded name put old at

-- one of these tables is dropped, when those before it had been
pub record Dropping (names : List (List ℕ)) (part : MigrationPart) (old at : Database) : Type 0 where
  pub gone : List (List ℕ)
  pub name : List ℕ
  pub rest : List (List ℕ)
  pub these : gone ++ name ∷ rest ≡ names
  pub is : part ≡ dropping name
  pub dropped : DroppedInTurn gone old at

-- ---- an edition

-- its entries are read, and their lines are written in memory
abbrev pub InIndex : Older → ℤ → FailurePlace
InIndex older number = Either (First (reading (codes "entry") (columns_of older) number)) (First (writing older number))

-- its record is read
abbrev pub InRecord : ℤ → FailurePlace
InRecord number = Either (First (reading (codes "edition") edition_columns number)) (First (choosing number))

-- the parts of its files are put in
abbrev pub InFiles : Older → ℤ → FailurePlace
InFiles older number part old at =
    (edition : EditionRecord) × (entries : List EntryRecord) × IsEditionOf number old edition × AreEntriesOf older number old entries
    × Putting (codes "dictcat_part") (map part_row (parts_under number (index_octets entries) edition.body)) part old at

abbrev pub InEdition : Older → ℤ → FailurePlace
InEdition older number = Either (InRecord number) (Either (InIndex older number) (InFiles older number))

-- one of these editions is under way, or its header is kept, behind those before it
pub record InEditions (older : Older) (numbers : List ℤ) (part : MigrationPart) (old at : Database) : Type 0 where
  pub done : List ℤ
  pub headers : List HeaderRecord
  pub number : ℤ
  pub rest : List ℤ
  pub these : done ++ number ∷ rest ≡ numbers
  pub within : Behind (AreParted older done headers) (InEdition older number) part old at ⊎ (part ≡ keeping)

-- ---- the whole

-- the old tables are dropped, behind all editions
abbrev pub InDrops : Older → List ℤ → FailurePlace
InDrops older numbers part old at = (headers : List HeaderRecord) × Behind (AreParted older numbers headers) (Dropping (gone_names older)) part old at

-- the table of parts is made, the files of the editions are put in, and the old tables are dropped
abbrev pub InApart : Older → List ℤ → FailurePlace
InApart older numbers = Either (First making_parts) (Behind (IsMade (part 0)) (Either (InEditions older numbers) (InDrops older numbers)))

-- the table of editions is made again, and these headers are put in
abbrev pub InHeads : List HeaderRecord → FailurePlace
InHeads headers = Either (First making_editions) (Behind (IsMade (header 0)) (Putting (codes "edition") (map header_row headers)))

-- the mark is taken out, and that of the known version put in
abbrev pub InMark : ℕ → FailurePlace
InMark installs = Either (First clearing_marks) (Behind (IsRemoved (codes "mark") (λ _. true)) (First (putting (codes "mark") (mark_row (mark_record known installs)))))

-- the headers, and then the mark, behind all else
abbrev pub InRest : Older → List ℤ → ℕ → FailurePlace
InRest older numbers installs part old at = (headers : List HeaderRecord) × Behind (AreTakenApart older numbers headers) (Either (InHeads headers) (Behind (AreHeaded headers) (InMark installs))) part old at

abbrev pub InMove : Older → List ℤ → ℕ → FailurePlace
InMove older numbers installs = Either (InApart older numbers) (InRest older numbers installs)

-- all of it, or the mark alone
abbrev pub InRenewal : Option Older → List ℤ → ℕ → FailurePlace
InRenewal (Some older) numbers installs = InMove older numbers installs
InRenewal None numbers installs = InMark installs
