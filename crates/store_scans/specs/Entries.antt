-- The entries of an edition, as each layout files them, and what a reader takes of them.
use Rattle.std.specs.Prelude.{◌≡◌, ◌⊎◌, ℕ, ℤ, pos, List, [], ◌∷◌, ◌++◌, map, drop, filter, codes, length}
use Rattle.std.specs.List.{AllByRecursion, Contains}
use Rattle.sqlite.specs.Order.{Row}
use Rattle.sqlite.specs.Effect.{Database}
use Rattle.store_tables.specs.Records.{EditionRecord, EntryRecord}
use Rattle.dict_index.specs.Line.{Line}
use Rattle.store_sql.specs.Columns.{HasColumns}
use Rattle.store_tables.specs.Effects.{rows_of, equals_number}
use Rattle.store_sql.specs.Encodings.{entry_row}
use Rattle.store_sql.specs.Reads.{IsSelection}
use Rattle.store_rows.specs.Stored.{IsStorable, stored_index}
use Rattle.store_rows.specs.Tables.{Tables, entries_of}
use Rattle.store_rows.specs.Taken.{HasTaken, StandsForNone}
use Rattle.store_rows.specs.Whole.{with_entries, AreOfLast}
use Rattle.store_rows.specs.Written.{numbered, entry_record}
use Rattle.store_rows.specs.Versions.{Layout, Plain, Keyed, Shown, Parted}
use Rattle.store_rows.specs.declared.reader.Reader.{Reader}
use Rattle.store_sql.specs.Readings.{AreShownIn, contents, shown_row}
use Rattle.store_scans.specs.Files.{HasFile, HasNoFile}

-- of a row of `entry`, the columns behind its rowid that are looked at
abbrev pub looked_behind_rowid : Layout → Row → Row
looked_behind_rowid layout row = drop 1 ((contents layout).looked row)

-- what these columns are to be for an entry, in the layouts that have such rows: those before the last
abbrev pub entry_cells : Layout → EntryRecord → Row
entry_cells Plain e = entry_row e
entry_cells Keyed e = entry_row e
entry_cells Shown e = shown_row e
entry_cells Parted e = shown_row e

-- The rows of the edition, in the order of their places, are those of these entries; of a layout that has no column for what is
-- shown, by their headwords.
abbrev pub HasEntryRows : Layout → Database → ℤ → List EntryRecord → Type 0
HasEntryRows layout db number all = (rows : List Row) × IsSelection (codes "entry") (equals_number 1 number) (2 ∷ []) db rows × (map (looked_behind_rowid layout) rows ≡ map (entry_cells layout) all) × AreShownIn layout all

-- they begin with those of these entries
abbrev pub BeginsWithEntries : Layout → Database → ℤ → List EntryRecord → Type 0
BeginsWithEntries layout db number first =
    (rows : List Row) × (tail : List Row) × IsSelection (codes "entry") (equals_number 1 number) (2 ∷ []) db (rows ++ tail) × (map (looked_behind_rowid layout) rows ≡ map (entry_cells layout) first) × AreShownIn layout first

-- the row is of another kind than a record, or that of no entry
abbrev pub IsNoEntryRow : Layout → Row → Type 0
IsNoEntryRow layout row = HasColumns (contents layout).columns ((contents layout).looked row) → (e : EntryRecord) → looked_behind_rowid layout row ≡ entry_cells layout e → ⊥

-- these octets are an index of the edition: its lines say these entries, in the order of their places
pub record IsStoredIndexOf (number : ℤ) (octets : List ℕ) (all : List EntryRecord) : Type 0 where
  pub edition : ℕ
  pub is : number ≡ pos edition
  pub lines : List Line
  pub storable : AllByRecursion IsStorable lines
  pub octets_are : octets ≡ stored_index lines
  pub entries : all ≡ numbered (entry_record edition) 0 lines

-- the index of the edition says these entries, and no other
abbrev pub HasIndexFile : Database → ℤ → List EntryRecord → Type 0
HasIndexFile db number all = (octets : List ℕ) × HasFile db number (pos 0) octets × IsStoredIndexOf number octets all

-- the edition has these entries, in the order of their places, and no other
abbrev pub HasEntries : Layout → Database → ℤ → List EntryRecord → Type 0
HasEntries Plain db number all = HasEntryRows Plain db number all
HasEntries Keyed db number all = HasEntryRows Keyed db number all
HasEntries Shown db number all = HasEntryRows Shown db number all
HasEntries Parted db number all = HasIndexFile db number all

-- ---- what the reader takes

-- behind what the first has taken, the last has taken these
abbrev pub AreTaken : Reader → Reader → List EntryRecord → Type 0
AreTaken first last given = (version : ℕ) (taken : Tables) → HasTaken version first taken → HasTaken version last (with_entries taken given)

-- no catalogue stands for tables that go on with these, where they are of the edition that was taken last
abbrev pub AreNotTaken : Reader → List EntryRecord → Type 0
AreNotTaken first given = (version : ℕ) (taken : Tables) → HasTaken version first taken → AreOfLast taken given → StandsForNone version (with_entries taken given)

-- the edition of this number was taken last
abbrev pub IsLastTaken : Tables → ℤ → Type 0
IsLastTaken taken number = (front : List EditionRecord) × (last : EditionRecord) × (taken.editions ≡ front ++ last ∷ []) × (number ≡ last.number)

-- the entries of these lines, behind those of the edition that were taken
abbrev pub next_entries : Tables → ℕ → List Line → List EntryRecord
next_entries taken number lines = numbered (entry_record number) (length (entries_of (pos number) taken.entries)) lines

-- behind what the first has taken, the last has taken these lines of the edition that was taken last
abbrev pub AreLinesTaken : Reader → Reader → List Line → Type 0
AreLinesTaken first last lines = (version : ℕ) (taken : Tables) (number : ℕ) → HasTaken version first taken → IsLastTaken taken (pos number) → HasTaken version last (with_entries taken (next_entries taken number lines))

-- no catalogue stands for tables that go on with them
abbrev pub AreNoLines : Reader → List Line → Type 0
AreNoLines first lines = (version : ℕ) (taken : Tables) (number : ℕ) → HasTaken version first taken → IsLastTaken taken (pos number) → StandsForNone version (with_entries taken (next_entries taken number lines))

-- the lines of the index are no stored ones, or begin with some that aren't taken
abbrev pub IsWrongIndex : Reader → List ℕ → Type 0
IsWrongIndex first octets = (lines : List Line) → AllByRecursion IsStorable lines → octets ≡ stored_index lines → (given : List Line) × (rest : List Line) × (lines ≡ given ++ rest) × AreNoLines first given

-- the edition of this number was taken last, and none of its entries
pub record IsFresh (number : ℤ) (taken : Tables) : Type 0 where
  pub last : IsLastTaken taken number
  pub none : entries_of number taken.entries ≡ []

-- behind what the first has taken, the last has taken these of that edition
abbrev pub AreNextTaken : ℤ → Reader → Reader → List EntryRecord → Type 0
AreNextTaken number first last all = (version : ℕ) (taken : Tables) → HasTaken version first taken → IsFresh number taken → HasTaken version last (with_entries taken all)

-- all entries of the edition were taken
pub record TakesEntries (layout : Layout) (db : Database) (number : ℤ) (first last : Reader) (all : List EntryRecord) : Type 0 where
  pub has : HasEntries layout db number all
  pub taken : AreNextTaken number first last all

-- a row of the edition is that of no entry, or its rows begin with entries that aren't taken
abbrev pub HasWrongRows : Layout → Database → ℤ → Reader → Type 0
HasWrongRows layout db number first =
    ((row : Row) × Contains (filter (equals_number 1 number) (rows_of (codes "entry") db)) row × IsNoEntryRow layout row)
    ⊎ ((given : List EntryRecord) × BeginsWithEntries layout db number given × AreNotTaken first given)

-- the edition has no index, or a wrong one, or it has a number that none has
abbrev pub HasWrongIndex : Database → ℤ → Reader → Type 0
HasWrongIndex db number first = HasNoFile db number (pos 0) ⊎ ((octets : List ℕ) × HasFile db number (pos 0) octets × ((n : ℕ) → number ≡ pos n → IsWrongIndex first octets))

abbrev pub HasWrongEntries : Layout → Database → ℤ → Reader → Type 0
HasWrongEntries Plain db number first = HasWrongRows Plain db number first
HasWrongEntries Keyed db number first = HasWrongRows Keyed db number first
HasWrongEntries Shown db number first = HasWrongRows Shown db number first
HasWrongEntries Parted db number first = HasWrongIndex db number first
