-- Which files are opened, and what becomes of the others.
use Rattle.std.specs.Prelude.{◌≡◌, ◌⊎◌, ◌≤◌, ◌<◌, ℕ, ℤ, pos, true, false, Bool, nat_le, List, [], ◌∷◌, map, drop, filter, length, codes, IsPermutation, String}
use Rattle.std.specs.List.{AllByRecursion}
use Rattle.std.specs.declared.alloc.Global.{Global}
use Rattle.sqlite.specs.Effect.{Database}
use Rattle.sqlite.specs.Order.{Row}
use Rattle.sqlite.specs.declared.types.Value.TheVariants.{Int}
use Rattle.store_tables.specs.Records.{Mark, Member, EntryRecord, EditionRecord, Part, header_of}
use Rattle.store_tables.specs.Typed.{owned_edition, owned_header}
use Rattle.store_tables.specs.declared.records as typed
use Rattle.store_tables.specs.declared.records.StoredRow.{StoredRow}
use Rattle.store_tables.specs.Found.{HasOwn}
use Rattle.store_sql.specs.Columns.{Content, edition_columns}
use Rattle.store_tables.specs.Effects.{HasApartRowids, rows_of, equals_number}
use Rattle.store_sql.specs.Encodings.{mark_row, item_row, member_row, stored_edition, stored_kept}
use Rattle.store_sql.specs.Reads.{IsListing, IsSelection, HasNoRecord}
use Rattle.store_sql.specs.HeaderRecords.{header_columns, stored_header}
use Rattle.store_sql.specs.declared.header_records.StoredHeader.{StoredHeader}
use Rattle.dict_catalogue.specs.Items.{edition_numbers}
use Rattle.dict_catalogue.specs.Steps.{Catalogue, summary_of}
use Rattle.dict_catalogue.specs.Tests.{Holdings}
use Rattle.dict_catalogue.specs.WellFormed.{IsEachOnce}
use Rattle.store_rows.specs.Given.{kept_given, marks_given}
use Rattle.store_rows.specs.Order.{InOrder, is_of}
use Rattle.store_rows.specs.Stands.{Stands, has_number}
use Rattle.store_rows.specs.Tables.{Tables, editions_numbered, entries_of}
use Rattle.store_rows.specs.Taken.{GoesOnFrom, HasTaken, HasIdsOnce, items_in, with_edition}
use Rattle.store_rows.specs.Versions.{Layout, Plain, Keyed, Shown, Parted, layout_of, IsVersion}
use Rattle.store_rows.specs.Whole.{with_entries, with_replies}
use Rattle.store_rows.specs.declared.reader.Reader.{Reader}
use Rattle.store_holdings.specs.AllTables.{with_derived}
pub use Rattle.store_holdings.specs.Holds.{HoldsNone, HoldsNoneAs}
use Rattle.store_holdings.specs.Holds.{AreOrphans}
pub use Rattle.store_sql.specs.Readings.{HasReadableRows, HasRowidsApart}
use Rattle.store_sql.specs.Readings.{TableReading, KeepsAll, AreShownIn, IsReadable, readings, edition_readings, editions, contents, tables_of, table_name_of}
use Rattle.store_scans.specs.Census.{one_of, is_of_contents, may_be_in_contents, AreKnownApart, HasPartRows}
use Rattle.store_scans.specs.Entries.{HasEntries}
use Rattle.store_scans.specs.Files.{HasFile, HasNoFile}
use Rattle.store_scans.specs.Takers.{EditionRow, KeptRow, ids_given}
use Rattle.store_opening.specs.Marks.{HasMarkTable}

-- the database keeps tables with the members in this order, and they stand for the catalogue under this version, whatever orphans are beside them
pub record Keeping (version : ℕ) (db : Database) (members : List Member) (tables : Tables) (M : Catalogue) : Type 0 where
  pub orphans : List Part
  pub keeps : KeepsAll (layout_of version) db (with_derived orphans tables)
  pub shown : AreShownIn (layout_of version) tables.entries
  pub same_members : tables.members ≡ members
  pub stands : Stands version tables M
  pub records : HasReadableRows (layout_of version) db
  pub beside : AreOrphans version M orphans

-- it keeps none that stand for a catalogue
abbrev pub KeepsNone : ℕ → Database → List Member → Type 0
KeepsNone version db members = (tables : Tables) (M : Catalogue) → Keeping version db members tables M → ⊥

-- all such tables go on from these
abbrev pub AllGoOnFrom : ℕ → Database → Tables → Type 0
AllGoOnFrom version db front = (tables : Tables) (M : Catalogue) → Keeping version db front.members tables M → GoesOnFrom front tables

-- ---- the record of an edition

-- one record has the edition's number, and is this one
abbrev pub HasWholeRecord : Database → ℤ → EditionRecord → Type 0
HasWholeRecord db n e = (row : EditionRow) × IsSelection (codes "edition") (equals_number 1 n) (1 ∷ []) db (stored_edition row ∷ []) × (e ≡ owned_edition row.value)

-- the same of a record without the text
abbrev pub HasHeader : Database → ℤ → EditionRecord → Type 0
HasHeader db n e = (row : StoredHeader) × IsSelection (codes "edition") (equals_number 1 n) (1 ∷ []) db (stored_header row ∷ []) × (header_of e ≡ owned_header row.value)

-- one record has the edition's number, and is this one, with this text
abbrev pub HasRecord : Layout → Database → ℤ → EditionRecord → Type 0
HasRecord Plain db n e = HasWholeRecord db n e
HasRecord Keyed db n e = HasWholeRecord db n e
HasRecord Shown db n e = HasWholeRecord db n e
HasRecord Parted db n e = HasHeader db n e × HasFile db n (pos 1) e.body

-- there isn't one row of this number, or it stands for no record of these columns
abbrev pub IsNotOne : {R : Type 0} → (R → Row) → List Content → Database → ℤ → Type 0
IsNotOne {R} stored columns db n =
    HasNoRecord columns (filter (equals_number 1 n) (rows_of (codes "edition") db))
    ⊎ ((rows : List R) × IsSelection (codes "edition") (equals_number 1 n) (1 ∷ []) db (map stored rows) × (length rows ≡ 1 → ⊥))

-- there isn't one record of this number, or its text is no file
abbrev pub HasNoEdition : Layout → Database → ℤ → Type 0
HasNoEdition Plain db n = IsNotOne stored_edition edition_columns db n
HasNoEdition Keyed db n = IsNotOne stored_edition edition_columns db n
HasNoEdition Shown db n = IsNotOne stored_edition edition_columns db n
HasNoEdition Parted db n = IsNotOne stored_header header_columns db n ⊎ HasNoFile db n (pos 1)

-- ---- the editions of some numbers

-- what is known before the edition of a number is read
pub record CanReadOne (version : ℕ) (db : Database) (taken : Tables) (n : ℤ) : Type 0 where
  pub fits : AllGoOnFrom version db taken
  pub known : (tables : Tables) (M : Catalogue) → Keeping version db taken.members tables M → has_number M.items n ≡ true
  pub no_editions : editions_numbered n taken.editions ≡ []
  pub no_entries : entries_of n taken.entries ≡ []

-- the edition of this number was read, and its entries
pub record HasReadOne (layout : Layout) (db : Database) (n : ℤ) (taken after : Tables) : Type 0 where
  pub edition : EditionRecord
  pub given : List EntryRecord
  pub record' : HasRecord layout db n edition
  pub entries : HasEntries layout db n given
  pub after_is : after ≡ with_entries (with_edition taken edition) given

-- what is known before the editions of some numbers are read
pub record CanRead (version : ℕ) (db : Database) (reader : Reader) (numbers : List ℤ) (front : Tables) : Type 0 where
  pub taken : HasTaken version reader front
  pub no_editions : front.editions ≡ []
  pub no_entries : front.entries ≡ []
  pub fits : AllGoOnFrom version db front
  pub known : AllByRecursion (λ n. has_number (items_in reader) n ≡ true) numbers
  pub apart : InOrder (λ a b. a ≡ b → ⊥) numbers

-- the rows that pass the test are those of what was read
abbrev pub HasRowsOf : (Row → Bool) → Database → Tables → TableReading → Type 0
HasRowsOf test db after r = IsPermutation (r.rows (with_derived [] after)) (map (λ row. drop 1 (r.looked row)) (filter test (rows_of (table_name_of r) db)))

-- the editions of these numbers were read, and their entries
pub record HasReadEditions (version : ℕ) (db : Database) (numbers : List ℤ) (front after : Tables) : Type 0 where
  pub marks : after.marks ≡ front.marks
  pub items : after.items ≡ front.items
  pub members : after.members ≡ front.members
  pub kept : after.kept ≡ front.kept
  pub editions_are : HasRowsOf (one_of numbers) db after (editions (layout_of version))
  pub contents_are : HasRowsOf (is_of_contents (layout_of version) numbers) db after (contents (layout_of version))
  pub shown : AreShownIn (layout_of version) after.entries
  pub fits : AllGoOnFrom version db after
  pub other_editions : (n : ℤ) → is_of numbers n ≡ false → editions_numbered n after.editions ≡ []
  pub other_entries : (n : ℤ) → is_of numbers n ≡ false → entries_of n after.entries ≡ []

-- the database has all tables of this layout, or version
abbrev pub HasTablesOf : Layout → Database → Type 0
HasTablesOf layout db = AllByRecursion (HasOwn db.schema) (tables_of layout)

abbrev pub HasVersionTables : ℕ → Database → Type 0
HasVersionTables version db = HasTablesOf (layout_of version) db

-- ---- the whole file

-- a table has a row for each of its records and no others; beside the parts of editions it has those of the orphans
abbrev pub HasRows : Database → List Part → Tables → TableReading → Type 0
HasRows db orphans tables r = IsPermutation (r.rows (with_derived orphans tables)) (map (λ row. drop 1 (r.looked row)) (rows_of (table_name_of r) db))

-- Each table of this version does.
abbrev pub HasAllRows : ℕ → Database → List Part → Tables → Type 0
HasAllRows version db orphans tables = AllByRecursion (HasRows db orphans tables) (readings (layout_of version))

-- the mark, the items and the members were read
pub record HasBegun (version : ℕ) (db : Database) (front : Tables) : Type 0 where
  pub marks : IsPermutation (map mark_row front.marks) (map (drop 1) (rows_of (codes "mark") db))
  pub items : IsPermutation (map item_row front.items) (map (drop 1) (rows_of (codes "item") db))
  pub members : IsPermutation (map member_row front.members) (map (drop 1) (rows_of (codes "member") db))
  pub no_editions : front.editions ≡ []
  pub no_entries : front.entries ≡ []
  pub no_kept : front.kept ≡ []
  pub fits : AllGoOnFrom version db front
  pub none : KeepsNone version db front.members → HoldsNoneAs version db

-- the numbers of the editions of the items
abbrev pub numbers_in : Reader → List ℤ
numbers_in reader = map pos (edition_numbers (items_in reader))

-- the editions that the items name were read, with their entries
abbrev pub HasNamed : ℕ → Database → Reader → Tables → Tables → Type 0
HasNamed version db reader front after = HasReadEditions version db (numbers_in reader) front after

-- from version 6 on there may be orphans
abbrev pub may_have_orphans : ℕ → Bool
may_have_orphans version = nat_le 6 version

-- no two rows of the editions have one rowid, nor two of what is kept of their entries, and each is of an edition that has one of these numbers, or an orphan where there may be any
pub record AreAllKnown (layout : Layout) (orphans : Bool) (db : Database) (numbers : List ℤ) : Type 0 where
  pub editions : AreKnownApart (one_of numbers) (table_name_of (editions layout)) db
  pub contents : AreKnownApart (may_be_in_contents orphans layout numbers) (table_name_of (contents layout)) db

-- the rows of the parts, where a layout has them, are those of parts
abbrev pub ArePartRows : Layout → Database → Type 0
ArePartRows Plain db = Unit {0}
ArePartRows Keyed db = Unit {0}
ArePartRows Shown db = Unit {0}
ArePartRows Parted db = HasPartRows db

-- the rows of both stand for records
abbrev pub AreReadableEditions : Layout → Database → Type 0
AreReadableEditions layout db = AllByRecursion (λ r. IsReadable r db) (edition_readings layout)

-- the rowids of the other tables are apart: of the small ones, and of the kept replies
abbrev pub IsApartFirst : Database → Type 0
IsApartFirst db = HasApartRowids (rows_of (codes "mark") db) × HasApartRowids (rows_of (codes "item") db) × HasApartRowids (rows_of (codes "member") db)

abbrev pub HasOthersApart : Database → Type 0
HasOthersApart db = IsApartFirst db × HasApartRowids (rows_of (codes "kept") db)

-- and all kept replies, of which no two have one id
pub record HasReplies (db : Database) (taken after : Tables) : Type 0 where
  pub given : List KeptRow
  pub listing : IsListing (codes "kept") (2 ∷ []) db (map stored_kept given)
  pub after_is : after ≡ with_replies taken (kept_given given)
  pub ids : IsEachOnce (ids_given given)

-- all records were read
pub record HasAll (version : ℕ) (db : Database) (reader : Reader) (front after : Tables) : Type 0 where
  pub orphans : List Part
  pub keeps : HasAllRows version db orphans after
  pub unknown : AllByRecursion (λ row. is_of (numbers_in reader) row.edition ≡ false) orphans
  pub later : version < 6 → orphans ≡ []
  pub shown : AreShownIn (layout_of version) after.entries
  pub goes : GoesOnFrom front after
  pub fits : AllGoOnFrom version db after
  pub ids : HasIdsOnce after
  pub known : AreAllKnown (layout_of version) (may_have_orphans version) db (numbers_in reader)

-- the rowids of editions, and of what is kept of their entries, are apart
abbrev pub AreApartEditions : Layout → Database → Type 0
AreApartEditions layout db = AllByRecursion (λ r. HasApartRowids (rows_of (table_name_of r) db)) (edition_readings layout)

-- the records of all rows, but for orphans, stand for the catalogue of this summary, under this version
pub record HasSummary (version : ℕ) (db : Database) (holdings : Holdings (List ℕ)) : Type 0 where
  pub catalogue : Catalogue
  pub tables : Tables
  pub orphans : List Part
  pub keeps : HasAllRows version db orphans tables
  pub apart : AreApartEditions (layout_of version) db
  pub shown : AreShownIn (layout_of version) tables.entries
  pub stands : Stands version tables catalogue
  pub beside : AreOrphans version catalogue orphans
  pub summary : summary_of catalogue ≡ holdings

-- ---- the mark

-- the mark of a file of this version
abbrev pub mark_of_version : ℕ → ℤ → Mark
mark_of_version version installs = record { id = pos 1; magic = codes "dictcat"; version = pos version; installs = installs }

-- There is one mark with the product's word and a version, and its table is the product's, whether or not a foreign key refers to it.
pub record HasMark (db : Database) (version : ℕ) : Type 0 where
  pub own : HasMarkTable db.schema
  pub rowid : ℤ
  pub installs : ℤ
  pub rows : rows_of (codes "mark") db ≡ (Int rowid ∷ mark_row (mark_of_version version installs)) ∷ []
  pub counted : 1 ≤ version

-- there is the mark of a version that is known
pub record HasKnownMark (db : Database) : Type 0 where
  pub version : ℕ
  pub known : IsVersion version
  pub marked : HasMark db version

-- the list of marks is one of this version, with the product's id and word
abbrev pub IsMarked : List (StoredRow (typed.Mark.Mark (String Global))) → ℕ → Type 0
IsMarked marks version = (installs : ℤ) × (marks_given marks ≡ mark_of_version version installs ∷ []) × (1 ≤ version)
