-- The files of an edition that a command is to install, their parts filed some at a time, by a commit each, under the number that comes.
use Rattle.std.specs.Prelude.{◌≡◌, ℕ, ◌≤◌, pos, Bool, true, false, IsTrue, List, map, slice_range, Option, Some, None, codes, take, length, IsPermutation}
use Rattle.sqlite.specs.Effect.{Database}
use Rattle.sqlite.specs.State.{State, HasCleanDisk}
use Rattle.sqlite.specs.declared.error.Error.{Error}
use Rattle.sqlite.specs.declared.error.Error.TheVariants.{SqliteFailure}
use Rattle.sqlite.specs.declared.error.ErrorCode.TheVariants as code
use Rattle.store_sql.specs.Statements.{Statement}
use Rattle.store_tables.specs.Records.{Part}
use Rattle.store_sql.specs.PartRecords.{part_row}
use Rattle.dict_desk.specs.declared.fault.Fault.{Fault}
use Rattle.dict_desk.specs.declared.fault.Fault.TheVariants.{Memory, Disk}
use Rattle.store_rows.specs.Stored.{stored_index}
use Rattle.store_rows.specs.After.{Installed}
use Rattle.store_holdings.specs.Files.{parts_under}
use Rattle.store_holdings.specs.HeldTexts.{rows_under}
use Rattle.store_holdings.specs.AllTables.{AllTables}
use Rattle.store_commands.specs.KeptRecords.{FitsColumn}
use Rattle.store_commands.specs.Changes.{with_more_parts, with_parts_anew}
use Rattle.store_commands.specs.Statements.{adding_part, parts_anew}
use Rattle.store_commands.specs.declared.files.EditionFiles.{EditionFiles}
use Rattle.store_commands.specs.declared.filing.Filing.{Filing}

-- ---- what is filed

-- the parts of the files of an edition: those of its index, and then those of its text
abbrev pub parts_of_files : EditionFiles → List Part
parts_of_files files = parts_under (pos files.number) files.index.now files.text.now

abbrev pub parts_of_filing : Filing → List Part
parts_of_filing f = parts_under (pos f.number) f.index.items f.text.items

-- the tables can hold the number
pub record IsDrawnUp (f : Filing) : Type 0 where
  pub number : FitsColumn f.number

-- all parts are filed
pub record AreAllPartsFiled (f : Filing) : Type 0 where
  pub begun : f.is_begun ≡ true
  pub all : length (parts_of_filing f) ≤ f.parts_filed

-- none is filed, and what stood under its number may stand there still
pub record HasNoneFiled (f : Filing) : Type 0 where
  pub begun : f.is_begun ≡ false
  pub filed : f.parts_filed ≡ 0

-- the files are those of the edition that is installed, under its number
abbrev pub IsOfEdition : Filing → Option Installed → Type 0
IsOfEdition f None = ⊥
IsOfEdition f (Some new) = (f.number ≡ new.number) × (f.index.items ≡ stored_index new.reading.lines) × (f.text.items ≡ new.reading.text)

-- only how much was filed differs
abbrev pub HasSameRows : Filing → Filing → Type 0
HasSameRows old new = new ≡ record old { is_begun = new.is_begun; parts_filed = new.parts_filed }

-- ---- what the database has meanwhile

-- under its number stand the rows of those of its parts that are filed, and no others
abbrev pub HasFiledParts : Filing → Database → Type 0
HasFiledParts f db = IsPermutation (map part_row (take f.parts_filed (parts_of_filing f))) (rows_under (codes "dictcat_part") f.number db)

-- where it has begun, so it is of what is committed
abbrev pub IsFiledSoFar : Filing → State → Type 0
IsFiledSoFar f s = HasCleanDisk s → IsTrue s.is_open → f.is_begun ≡ true → HasFiledParts f s.committed

-- ---- why a part fails

-- The fault that an error of a part is told as: a growth was refused, or the disk failed. None: the statement was refused, or the store
-- was shut before.
abbrev pub fault_filed : Error → Option Fault
fault_filed (SqliteFailure code.OutOfMemory) = Some Memory
fault_filed (SqliteFailure code.SystemIoFailure) = Some Disk
fault_filed (SqliteFailure code.DatabaseCorrupt) = Some Disk
fault_filed (SqliteFailure code.DiskFull) = Some Disk
fault_filed _ = None

-- ---- what a part does

-- The statements of one that ends before this place. Where the filing has begun, its parts are added from the first on that isn't filed; else
-- what parts stand under its number are taken out, and then its first ones are added.
abbrev pub filing_part : Bool → Filing → ℕ → List Statement
filing_part true f to = map adding_part (slice_range (parts_of_filing f) f.parts_filed to)
filing_part false f to = parts_anew f.number (slice_range (parts_of_filing f) 0 to)

abbrev pub AreOfSomePart : Filing → List Statement → Type 0
AreOfSomePart f statements = (to : ℕ) × (statements ≡ filing_part f.is_begun f to)

-- what they make of the records
abbrev pub with_part : Bool → Filing → ℕ → AllTables → AllTables
with_part true f to all = with_more_parts (slice_range (parts_of_filing f) f.parts_filed to) all
with_part false f to all = with_parts_anew f.number (slice_range (parts_of_filing f) 0 to) all
