-- The entries of an edition, from what was read row by row.
use Rattle.std.proofs.Common.{◌≡◌, ℤ, List, [], ◌∷◌, ◌++◌, map, take, codes, filter, inl, inr, refl}
use Rattle.std.specs.List.{AllByRecursion, Contains}
use Rattle.sqlite.specs.Effect.{Database, IsDatabase}
use Rattle.sqlite.specs.Order.{Row}
use Rattle.dict_text.proofs.AllLemmas.{all_filter}
use Rattle.store_tables.specs.Records.{EntryRecord, ShowsHeadword}
use Rattle.store_tables.specs.Typed.{owned_entry}
use Rattle.store_tables.specs.Keyed.{entry_with_keys as keyed_entry, old_entry}
use Rattle.store_sql.specs.Columns.{Content, HasColumns, entry_columns}
use Rattle.store_tables.specs.Effects.{Has, rows_of, equals_number}
use Rattle.store_sql.specs.Encodings.{stored_entry}
use Rattle.store_sql.specs.Keyed.{keyed_entry_columns, old_entry_columns, stored_keyed_entry, stored_old_entry}
use Rattle.store_sql.specs.Reads.{IsSelection}
use Rattle.store_sql.specs.Streams.Scan.{EntriesOf}
use Rattle.store_rows.specs.Given.{entries_given}
use Rattle.store_rows.specs.Versions.{Layout, Plain, Keyed, Shown}
use Rattle.store_rows.specs.declared.reader.Reader.{Reader}
use Rattle.store_sql.specs.Readings.{AreShownIn, shown_columns, without_keys}
use Rattle.store_scans.specs.Cursors.{Cursor, IsScannedToEnd, IsFrontOfScan}
use Rattle.store_scans.specs.Cursors.Cursor.{InStore, ShownEntriesOf, OldEntriesOf}
use Rattle.store_scans.specs.Entries.{looked_behind_rowid, entry_cells, HasEntryRows, BeginsWithEntries, IsNoEntryRow, AreTaken, AreNextTaken, TakesEntries, HasWrongEntries}
use Rattle.store_scans.specs.IndexingReader.{EntryRow, OldRow, old_entry_in, shown_entry_in, takes_plain, refuses_plain, takes_old, refuses_old, takes_shown, refuses_shown}
use Rattle.store_scans.specs.Indexing.{indexed_of}
use Rattle.store_scans.specs.Scans.{TakesAll, HasNoRecordIn, IsWrong}
use Rattle.store_scans.specs.declared.indexing_reader.IndexingReader.{IndexingReader}
use Rattle.store_scans.proofs.PlaceLemmas.{last_holds, last_there}
use Rattle.store_scans.proofs.TypedLemmas.{old_typed, shown_typed}

-- the rows of an edition
abbrev edition_rows : ℤ → Database → List Row
edition_rows number db = filter (equals_number 1 number) (rows_of (codes "entry") db)

next_taken : (number : ℤ) (first last : Reader) (all : List EntryRecord) → AreTaken first last all → AreNextTaken number first last all
next_taken number first last all t version taken h fresh = t version taken h

-- ---- whatever the layout

module _ {R : Type 0} (stored : R → Row) (entry : R → EntryRecord) (layout : Layout) (are : (r : R) → looked_behind_rowid layout (stored r) ≡ entry_cells layout (entry r))
    (shown : (given : List R) → AreShownIn layout (map entry given)) where
  cells : (given : List R) → map (looked_behind_rowid layout) (map stored given) ≡ map (entry_cells layout) (map entry given)
  cells [] = refl
  cells (r ∷ given) = λ i. are r i ∷ cells given i

  module _ (what : Cursor) (db : Database) (number : ℤ) (lists : (rows : List Row) → IsScannedToEnd what db rows → IsSelection (codes "entry") (equals_number 1 number) (2 ∷ []) db rows) where
    has_entries : (given : List R) → IsScannedToEnd what db (map stored given) → HasEntryRows layout db number (map entry given)
    has_entries given whole = (map stored given, lists (map stored given) whole, cells given, shown given)

    begins_with : (given : List R) → IsFrontOfScan what db (map stored given) → BeginsWithEntries layout db number (map entry given)
    begins_with given front = (map stored given, front.0, lists (map stored given ++ front.0) front.1, cells given, shown given)

    no_entry : (columns : List Content) → ((row : Row) → Contains (edition_rows number db) row → ¬ HasColumns columns row → IsNoEntryRow layout row) → HasNoRecordIn stored columns what db → (row : Row)
        × Contains (edition_rows number db) row × IsNoEntryRow layout row
    no_entry columns none w =
        let there = last_there (edition_rows number db) (map stored w.0) w.2.0 w.1 (lists ((map stored w.0 ++ w.1 ∷ []) ++ w.2.0) w.2.1).same in
        (w.1, there, none w.1 there w.3)

-- ---- without keys

plain_shown : (given : List EntryRow) → AllByRecursion ShowsHeadword (map (λ (row : EntryRow). owned_entry row.value) given)
plain_shown [] = tt
plain_shown (row ∷ given) = (refl, plain_shown given)

module _ (db : Database) (number : ℤ) (first : IndexingReader) where
  pub plain_whole : (last : IndexingReader) → TakesAll stored_entry takes_plain (InStore (EntriesOf number)) db first last → (all : List EntryRecord) × TakesEntries Plain db number first.reader last.reader all
      × (last.index ≡ first.index ++ map indexed_of all)
  plain_whole last h = (
    entries_given h.0,
    record {
      has = has_entries stored_entry (λ (row : EntryRow). owned_entry row.value) Plain (λ r. refl) plain_shown (InStore (EntriesOf number)) db number (λ rows s. s) h.0 h.1;
      taken = next_taken number first.reader last.reader (entries_given h.0) h.2.taken;
    },
    h.2.index,
  )

  pub plain_wrong : IsWrong stored_entry entry_columns refuses_plain (InStore (EntriesOf number)) db first → HasWrongEntries Plain db number first.reader
  plain_wrong (inl w) = inl (no_entry stored_entry (λ (row : EntryRow). owned_entry row.value) Plain (λ r. refl) plain_shown (InStore (EntriesOf number)) db number (λ rows s. s) entry_columns (λ row there none has e is. none has) w)
  plain_wrong (inr w) = inr (entries_given w.0, begins_with stored_entry (λ (row : EntryRow). owned_entry row.value) Plain (λ r. refl) plain_shown (InStore (EntriesOf number)) db number (λ rows s. s) w.0 w.1, w.2)

-- ---- of schemas 2 and 3

old_shown : (given : List OldRow) → AllByRecursion ShowsHeadword (map old_entry_in given)
old_shown [] = tt
old_shown (row ∷ given) = (refl, old_shown given)

module _ (db : Database) (number : ℤ) (first : IndexingReader) where
  pub old_whole : (last : IndexingReader) → TakesAll stored_old_entry takes_old (OldEntriesOf number) db first last → (all : List EntryRecord) × TakesEntries Keyed db number first.reader last.reader all
      × (last.index ≡ first.index ++ map indexed_of all)
  old_whole last h = (
    map old_entry_in h.0,
    record {
      has = has_entries stored_old_entry old_entry_in Keyed (λ r. refl) old_shown (OldEntriesOf number) db number (λ rows s. s) h.0 h.1;
      taken = next_taken number first.reader last.reader (map old_entry_in h.0) h.2.taken;
    },
    h.2.index,
  )

  pub old_wrong : IsDatabase db → Has old_entry db → IsWrong stored_old_entry old_entry_columns refuses_old (OldEntriesOf number) db first → HasWrongEntries Keyed db number first.reader
  old_wrong sound has (inl w) =
      let same = w.2.1.same in
      let typed = last_holds (λ row. HasColumns entry_columns (take 6 row) → HasColumns old_entry_columns row) (edition_rows number db) (map stored_old_entry w.0) w.2.0 w.1
      (all_filter (λ row. HasColumns entry_columns (take 6 row) → HasColumns old_entry_columns row) (equals_number 1 number) (rows_of (codes "entry") db) (old_typed db sound has)) same in
      inl (w.1, last_there (edition_rows number db) (map stored_old_entry w.0) w.2.0 w.1 same, λ has' e is. w.3 (typed has'))
  old_wrong sound has (inr w) = inr (map old_entry_in w.0, begins_with stored_old_entry old_entry_in Keyed (λ r. refl) old_shown (OldEntriesOf number) db number (λ rows s. s) w.0 w.1, w.2)

-- ---- of schema 4

module _ (db : Database) (number : ℤ) (first : IndexingReader) where
  pub shown_whole : (last : IndexingReader) → TakesAll stored_keyed_entry takes_shown (ShownEntriesOf number) db first last → (all : List EntryRecord) × TakesEntries Shown db number first.reader last.reader all
      × (last.index ≡ first.index ++ map indexed_of all)
  shown_whole last h = (
    map shown_entry_in h.0,
    record {
      has = has_entries stored_keyed_entry shown_entry_in Shown (λ r. refl) (λ given. tt) (ShownEntriesOf number) db number (λ rows s. s) h.0 h.1;
      taken = next_taken number first.reader last.reader (map shown_entry_in h.0) h.2.taken;
    },
    h.2.index,
  )

  pub shown_wrong : IsDatabase db → Has keyed_entry db → IsWrong stored_keyed_entry keyed_entry_columns refuses_shown (ShownEntriesOf number) db first → HasWrongEntries Shown db number first.reader
  shown_wrong sound has (inl w) =
      let same = w.2.1.same in
      let typed = last_holds (λ row. HasColumns shown_columns (without_keys row) → HasColumns keyed_entry_columns row) (edition_rows number db) (map stored_keyed_entry w.0) w.2.0 w.1
      (all_filter (λ row. HasColumns shown_columns (without_keys row) → HasColumns keyed_entry_columns row) (equals_number 1 number) (rows_of (codes "entry") db) (shown_typed db sound has)) same in
      inl (w.1, last_there (edition_rows number db) (map stored_keyed_entry w.0) w.2.0 w.1 same, λ has' e is. w.3 (typed has'))
  shown_wrong sound has (inr w) = inr (map shown_entry_in w.0, begins_with stored_keyed_entry shown_entry_in Shown (λ r. refl) (λ given. tt) (ShownEntriesOf number) db number (λ rows s. s) w.0 w.1, w.2)
