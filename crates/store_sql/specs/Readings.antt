-- The tables of each layout: which there are, and what each is to have, as one list of readings.
use Rattle.std.specs.Prelude.{ℕ, List, [], ◌∷◌, ◌++◌, map, drop, take, IsPermutation}
use Rattle.std.specs.List.{AllByRecursion}
use Rattle.sqlite.specs.declared.types.Value.TheVariants.{Text as Letters}
use Rattle.sqlite.specs.Order.{Row}
use Rattle.sqlite.specs.Effect.{Database}
use Rattle.sqlite.specs.Table.{Table}
use Rattle.store_tables.specs.AllTables.{AllTables}
use Rattle.store_tables.specs.Layouts.{Layout, Plain, Keyed, Shown, Parted}
use Rattle.store_tables.specs.Records.{EntryRecord, ShowsHeadword, header_of}
use Rattle.store_tables.specs.Tables.{mark, item, member, edition, entry, kept}
use Rattle.store_tables.specs.Keyed as keyed
use Rattle.store_tables.specs.Effects.{HasApartRowids, rows_of}
use Rattle.store_sql.specs.Columns.{Content, Name, HasColumns, mark_columns, item_columns, member_columns, edition_columns, entry_columns, kept_columns}
use Rattle.store_sql.specs.Encodings.{mark_row, item_row, member_row, edition_row, entry_row, kept_row}
use Rattle.store_sql.specs.HeaderTable.{header}
use Rattle.store_sql.specs.HeaderRecords.{header_row, header_columns}
use Rattle.store_sql.specs.PartTable.{part}
use Rattle.store_sql.specs.PartRecords.{part_row, part_columns}

-- a table, what its columns hold, those of its columns that are looked at, the rowid first, and the rows that it is to have
pub record TableReading : Type 0 where
  pub table : ℕ → Table
  pub columns : List Content
  pub looked : Row → Row
  pub rows : AllTables → List Row

abbrev pub table_name_of : TableReading → List ℕ
table_name_of r = (r.table 0).name

abbrev pub whole : Row → Row
whole row = row

abbrev pub marks : TableReading
marks = record { table = mark; columns = mark_columns; looked = whole; rows = λ t. map mark_row t.marks }

abbrev pub items : TableReading
items = record { table = item; columns = item_columns; looked = whole; rows = λ t. map item_row t.items }

abbrev pub members : TableReading
members = record { table = member; columns = member_columns; looked = whole; rows = λ t. map member_row t.members }

abbrev pub kept_replies : TableReading
kept_replies = record { table = kept; columns = kept_columns; looked = whole; rows = λ t. map kept_row t.kept }

-- the editions, with their texts before the last layout, and in it without them
abbrev pub whole_editions : TableReading
whole_editions = record { table = edition; columns = edition_columns; looked = whole; rows = λ t. map edition_row t.editions }

abbrev pub editions : Layout → TableReading
editions Plain = whole_editions
editions Keyed = whole_editions
editions Shown = whole_editions
editions Parted = record { table = header; columns = header_columns; looked = whole; rows = λ t. map (λ e. header_row (header_of e)) t.editions }

abbrev pub shown_columns : List Content
shown_columns = entry_columns ++ Name ∷ []

abbrev pub shown_row : EntryRecord → Row
shown_row e = entry_row e ++ Letters e.shown ∷ []

-- all columns but the sixth and the seventh behind the rowid, which are the key of an entry and its reverse
abbrev pub without_keys : Row → Row
without_keys row = take 6 row ++ drop 8 row

-- What is kept of the entries of the editions: before the last layout their records, of which the columns are looked at that aren't
-- derived of a headword; and in it the parts of the files.
abbrev pub contents : Layout → TableReading
contents Plain = record { table = entry; columns = entry_columns; looked = whole; rows = λ t. map entry_row t.entries }
contents Keyed = record { table = keyed.old_entry; columns = entry_columns; looked = take 6; rows = λ t. map entry_row t.entries }
contents Shown = record { table = keyed.entry_with_keys; columns = shown_columns; looked = without_keys; rows = λ t. map shown_row t.entries }
contents Parted = record { table = part; columns = part_columns; looked = whole; rows = λ t. map part_row t.parts }

-- in the layouts that have no column for it, what is shown is the headword
abbrev pub AreShownIn : Layout → List EntryRecord → Type 0
AreShownIn Plain es = AllByRecursion ShowsHeadword es
AreShownIn Keyed es = AllByRecursion ShowsHeadword es
AreShownIn Shown es = Unit {0}
AreShownIn Parted es = Unit {0}

-- what is read of an edition
abbrev pub edition_readings : Layout → List TableReading
edition_readings layout = editions layout ∷ contents layout ∷ []

-- all that is read of a file
abbrev pub readings : Layout → List TableReading
readings layout = marks ∷ items ∷ members ∷ kept_replies ∷ edition_readings layout

-- ---- tables

-- these are there, are dropped by a migration, and are never read
abbrev pub derived_tables : Layout → List (ℕ → Table)
derived_tables Plain = []
derived_tables Keyed = keyed.word ∷ keyed.gram ∷ []
derived_tables Shown = keyed.word ∷ keyed.gram ∷ []
derived_tables Parted = []

abbrev pub tables_of : Layout → List (ℕ → Table)
tables_of layout = mark ∷ item ∷ member ∷ kept ∷ (editions layout).table ∷ (contents layout).table ∷ derived_tables layout

-- ---- what a database keeps

-- a table has these rows and no others, in no order that counts, and no two under one rowid
pub record KeepsRows (r : TableReading) (db : Database) (tables : AllTables) : Type 0 where
  pub rows : IsPermutation (r.rows tables) (map (λ row. drop 1 (r.looked row)) (rows_of (table_name_of r) db))
  pub apart : HasApartRowids (rows_of (table_name_of r) db)

abbrev pub KeepsAll : Layout → Database → AllTables → Type 0
KeepsAll layout db tables = AllByRecursion (λ r. KeepsRows r db tables) (readings layout)

-- each row that is looked at stands for a record: above all, each text is UTF-8
abbrev pub IsReadable : TableReading → Database → Type 0
IsReadable r db = AllByRecursion (λ row. HasColumns r.columns (r.looked row)) (rows_of (table_name_of r) db)

abbrev pub HasReadableRows : Layout → Database → Type 0
HasReadableRows layout db = AllByRecursion (λ r. IsReadable r db) (readings layout)

-- in no table do two rows have one rowid
abbrev pub HasRowidsApart : Layout → Database → Type 0
HasRowidsApart layout db = AllByRecursion (λ r. HasApartRowids (rows_of (table_name_of r) db)) (readings layout)

-- a table has a row for each of these records and no others, in no order that counts, and no two under one rowid
pub record Keeps {R : Type 0} (name : List ℕ) (encode : R → Row) (db : Database) (records : List R) : Type 0 where
  pub rows : IsPermutation (map encode records) (map (drop 1) (rows_of name db))
  pub apart : HasApartRowids (rows_of name db)
