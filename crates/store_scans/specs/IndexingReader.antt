-- What takes the entries of an edition, as each layout has them, and what was taken.
use Rattle.std.specs.Prelude.{◌≡◌, ℕ, List, ◌++◌, map, String, Vec}
use Rattle.std.specs.declared.alloc.Global.{Global}
use Rattle.dict_index.specs.Line.{Line}
use Rattle.store_tables.specs.Records.{EntryRecord}
use Rattle.store_tables.specs.KeyedRecords.{owned_keyed_entry, owned_old_entry, plain_entry}
use Rattle.store_tables.specs.declared.keyed_records as typed
use Rattle.store_tables.specs.declared.records as plain_typed
use Rattle.store_tables.specs.declared.records.StoredRow.{StoredRow}
use Rattle.store_sql.specs.Keyed.{entry_without_keys}
use Rattle.store_rows.specs.Given.{entries_given}
use Rattle.store_search.specs.Entries.{entry_of}
use Rattle.store_scans.specs.Entries.{AreTaken, AreNotTaken, AreLinesTaken}
use Rattle.store_scans.specs.Indexing.{indexed_of}
use Rattle.store_scans.specs.declared.indexing_reader.IndexingReader.{IndexingReader}

abbrev pub EntryRow : Type 0
EntryRow = StoredRow (plain_typed.EntryRecord.EntryRecord (String Global))

abbrev pub ShownRow : Type 0
ShownRow = StoredRow (typed.KeyedEntry.KeyedEntry (String Global) (Vec ℕ Global))

abbrev pub OldRow : Type 0
OldRow = StoredRow (typed.OldEntry.OldEntry (String Global) (Vec ℕ Global))

-- the entry of a row, without what is derived of its headword

abbrev pub shown_entry_in : ShownRow → EntryRecord
shown_entry_in row = entry_without_keys (owned_keyed_entry row.value)

abbrev pub old_entry_in : OldRow → EntryRecord
old_entry_in row = plain_entry (owned_old_entry row.value)

-- ---- as a taker tells it

-- Behind what the first has taken, the last has taken these, and the index that it makes has them.
pub record AreTakenAndIndexed (first last : IndexingReader) (given : List EntryRecord) : Type 0 where
  pub taken : AreTaken first.reader last.reader given
  pub index : last.index ≡ first.index ++ map indexed_of given

abbrev pub takes_plain : IndexingReader → List EntryRow → IndexingReader → Type 0
takes_plain first given last = AreTakenAndIndexed first last (entries_given given)

abbrev pub refuses_plain : IndexingReader → List EntryRow → Type 0
refuses_plain first given = AreNotTaken first.reader (entries_given given)

abbrev pub takes_old : IndexingReader → List OldRow → IndexingReader → Type 0
takes_old first given last = AreTakenAndIndexed first last (map old_entry_in given)

abbrev pub refuses_old : IndexingReader → List OldRow → Type 0
refuses_old first given = AreNotTaken first.reader (map old_entry_in given)

abbrev pub takes_shown : IndexingReader → List ShownRow → IndexingReader → Type 0
takes_shown first given last = AreTakenAndIndexed first last (map shown_entry_in given)

abbrev pub refuses_shown : IndexingReader → List ShownRow → Type 0
refuses_shown first given = AreNotTaken first.reader (map shown_entry_in given)

-- ---- the lines of an index

-- Behind what the first has taken, the last has taken these lines of the edition that was taken last, and the index that it makes has them.
pub record AreLinesAdded (first last : IndexingReader) (lines : List Line) : Type 0 where
  pub taken : AreLinesTaken first.reader last.reader lines
  pub index : last.index ≡ first.index ++ map entry_of lines
