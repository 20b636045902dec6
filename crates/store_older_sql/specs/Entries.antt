-- The three forms of the table `entry_with_keys`, and the texts that read and drop it.
use Rattle.std.specs.Prelude.{ℕ, List, codes}
use Rattle.sqlite.specs.Table.{Table}
use Rattle.store_tables.specs.Tables as first
use Rattle.store_tables.specs.Keyed.{entry_with_keys, old_entry}
use Rattle.store_older_sql.specs.declared.entries.EntryForm.{EntryForm}
use Rattle.store_older_sql.specs.declared.entries.EntryForm.TheVariants.{Plain, Keyed, Shown}

abbrev pub entry_table_of : EntryForm → ℕ → Table
entry_table_of Plain = first.entry
entry_table_of Keyed = old_entry
entry_table_of Shown = entry_with_keys

abbrev pub entry_drop_text : List ℕ
entry_drop_text = codes "DROP TABLE entry"

-- all entries, in the order of their rowids
abbrev pub entry_rowid_text : List ℕ
entry_rowid_text = codes "SELECT rowid, * FROM entry ORDER BY 1"

-- those of an edition, in their order
abbrev pub entry_select_text : List ℕ
entry_select_text = codes "SELECT rowid, * FROM entry WHERE edition = ?1 ORDER BY 3"
