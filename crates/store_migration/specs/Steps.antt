-- What is read of an edition of an older version, and how its files are put in.
use Rattle.std.specs.Prelude.{◌≡◌, ◌≤ℤ◌, ◌<◌, ◌^◌, ℕ, pos, negsuc, false, ℤ, List, [], ◌∷◌, map, drop, filter, codes, IsPermutation}
use Rattle.sqlite.specs.Does.{lacks_sequence}
use Rattle.sqlite.specs.Effect.{Database, IsDatabase}
use Rattle.sqlite.specs.Order.{Row}
use Rattle.store_tables.specs.Records.{EditionRecord, EntryRecord, HeaderRecord, header_of}
use Rattle.store_tables.specs.Added.{AreAdded}
use Rattle.store_tables.specs.Effects.{Has, equals_number, rows_of}
use Rattle.store_sql.specs.Encodings.{edition_row}
use Rattle.store_tables.specs.Room.{LeavesRoom}
use Rattle.store_tables.specs.Tables.{edition}
use Rattle.store_sql.specs.HeaderTable.{header}
use Rattle.store_sql.specs.PartRecords.{part_row}
use Rattle.store_sql.specs.PartTable.{part}
use Rattle.store_older_sql.specs.Entries.{entry_table_of}
use Rattle.store_rows.specs.Stored.{IsColumn}
use Rattle.store_rows.specs.Order.{InOrder}
use Rattle.store_holdings.specs.Files.{index_octets, parts_under}
use Rattle.store_sql.specs.Readings.{AreShownIn}
use Rattle.store_migration.specs.declared.older.Older.{Older}
use Rattle.store_migration.specs.Older.{older_entry_cells, form_of, layout_as, looked_at}

-- the rows of the editions and of the entries that have the number
abbrev pub edition_rows : ℤ → Database → List Row
edition_rows number db = filter (equals_number 1 number) (rows_of (codes "edition") db)

abbrev pub entry_rows : ℤ → Database → List Row
entry_rows number db = filter (equals_number 1 number) (rows_of (codes "entry") db)

-- one record has the number, and this is it
abbrev pub IsEditionOf : ℤ → Database → EditionRecord → Type 0
IsEditionOf number db edition = IsPermutation (edition_row edition ∷ []) (map (drop 1) (edition_rows number db))

-- these are the entries that have the number, in their order, each with what is shown of it
pub record AreEntriesOf (older : Older) (number : ℤ) (db : Database) (entries : List EntryRecord) : Type 0 where
  pub rows : IsPermutation (map (older_entry_cells older) entries) (map (λ row. drop 1 (looked_at older row)) (entry_rows number db))
  pub order : InOrder (λ a b. a.ord ≤ℤ b.ord) entries
  pub shown : AreShownIn (layout_as older) entries

-- the octets are those of their lines
pub record AreIndexOctetsOf (older : Older) (number : ℤ) (db : Database) (octets : List ℕ) : Type 0 where
  pub entries : List EntryRecord
  pub lines : AreEntriesOf older number db entries
  pub written : octets ≡ index_octets entries

-- a number that has at most six digits in base 64
abbrev pub HasSixDigits : ℤ → Type 0
HasSixDigits (pos n) = n < 64 ^ 6
HasSixDigits (negsuc n) = ⊥

-- The entry has a line: its texts are columns, and its numbers have a spelling. Each entry of a file that holds a catalogue has one.
pub record HasLine (e : EntryRecord) : Type 0 where
  pub headword : IsColumn e.headword
  pub shown : IsColumn e.shown
  pub start : HasSixDigits e.start
  pub length : HasSixDigits e.length

-- The files of an edition were put in, in parts: its index, which is made of its entries, and its text. This is its header.
pub record IsPartedOne (older : Older) (number : ℤ) (header : HeaderRecord) (old new : Database) : Type 0 where
  pub edition : EditionRecord
  pub entries : List EntryRecord
  pub one : IsEditionOf number old edition
  pub header_is : header ≡ header_of edition
  pub lines : AreEntriesOf older number old entries
  pub added : AreAdded (codes "dictcat_part") (map part_row (parts_under number (index_octets entries) edition.body)) old new

-- the same of these editions, one after the other
abbrev pub AreParted : Older → List ℤ → List HeaderRecord → Database → Database → Type 0
AreParted older [] headers old new = (headers ≡ []) × (new ≡ old)
AreParted older (number ∷ numbers) headers old new =
    (mid : Database) × (header : HeaderRecord) × (rest : List HeaderRecord) × (headers ≡ header ∷ rest) × IsPartedOne older number header old mid × AreParted older numbers rest mid new

-- the tables that an edition's files are read from and put into
pub record HasThree (older : Older) (db : Database) : Type 0 where
  pub editions : Has edition db
  pub entries : Has (entry_table_of (form_of older)) db
  pub parts : Has part db

-- there is room for the table of headers, and no table waits for its counter
pub record MayBeHeaded (db : Database) : Type 0 where
  pub room : LeavesRoom db.schema (header 0)
  pub counted : lacks_sequence db.schema ≡ false
  pub sound : IsDatabase db
