-- The rows of entries with keys, column by column, and the entries without their keys.
use Rattle.std.specs.Prelude.{ℕ, List, [], ◌∷◌, String, Vec}
use Rattle.std.specs.declared.alloc.Global.{Global}
use Rattle.sqlite.specs.declared.types.Value.TheVariants.{Int, Text as Words, Blob as Bytes}
use Rattle.sqlite.specs.Order.{Row}
use Rattle.store_tables.specs.KeyedRecords.{KeyedEntry, OldEntry, owned_keyed_entry, owned_old_entry}
use Rattle.store_tables.specs.Records.{EntryRecord}
use Rattle.store_tables.specs.Typed.{stored_row_as}
use Rattle.store_tables.specs.declared.records.StoredRow.{StoredRow}
use Rattle.store_tables.specs.declared.keyed_records as typed
use Rattle.store_sql.specs.Columns.{Content, Number, Name, Octets}
use Rattle.store_sql.specs.Encodings.{stored_row}

abbrev pub keyed_entry_row : KeyedEntry → Row
keyed_entry_row e = Int e.edition ∷ Int e.ord ∷ Words e.headword ∷ Int e.start ∷ Int e.length ∷ Bytes e.key ∷ Bytes e.reversed ∷ Words e.shown ∷ []

abbrev pub old_entry_row : OldEntry → Row
old_entry_row e = Int e.edition ∷ Int e.ord ∷ Words e.headword ∷ Int e.start ∷ Int e.length ∷ Bytes e.key ∷ Bytes e.reversed ∷ []

-- an entry of schema 4 without what was derived of it
abbrev pub entry_without_keys : KeyedEntry → EntryRecord
entry_without_keys e = record { edition = e.edition; ord = e.ord; headword = e.headword; start = e.start; length = e.length; shown = e.shown }

-- The rowid stands first.

abbrev pub keyed_entry_cells : List Content
keyed_entry_cells = Number ∷ Number ∷ Name ∷ Number ∷ Number ∷ Octets ∷ Octets ∷ Name ∷ []

abbrev pub keyed_entry_columns : List Content
keyed_entry_columns = Number ∷ keyed_entry_cells

abbrev pub old_entry_cells : List Content
old_entry_cells = Number ∷ Number ∷ Name ∷ Number ∷ Number ∷ Octets ∷ Octets ∷ []

abbrev pub old_entry_columns : List Content
old_entry_columns = Number ∷ old_entry_cells

-- of a record that was read

abbrev pub stored_keyed_entry : StoredRow (typed.KeyedEntry.KeyedEntry (String Global) (Vec ℕ Global)) → Row
stored_keyed_entry r = stored_row keyed_entry_row (stored_row_as owned_keyed_entry r)

abbrev pub stored_old_entry : StoredRow (typed.OldEntry.OldEntry (String Global) (Vec ℕ Global)) → Row
stored_old_entry r = stored_row old_entry_row (stored_row_as owned_old_entry r)
