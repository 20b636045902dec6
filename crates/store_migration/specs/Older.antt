-- How the tables of an older version are laid out, and which of them are dropped.
use Rattle.std.specs.Prelude.{◌≡◌, ℕ, List, [], ◌∷◌, codes, Option, Some, None}
use Rattle.sqlite.specs.Effect.{Database, IsDatabase}
use Rattle.sqlite.specs.Order.{Row}
use Rattle.sqlite.specs.Table.{Table}
use Rattle.store_tables.specs.Records.{EntryRecord}
use Rattle.store_tables.specs.Keyed.{word, gram}
use Rattle.store_tables.specs.Tables.{edition}
use Rattle.store_sql.specs.Columns.{Content, entry_columns}
use Rattle.store_older_sql.specs.Drops.{IsDropped}
use Rattle.store_tables.specs.Effects.{HasApartRowids, rows_of}
use Rattle.store_sql.specs.Encodings.{entry_row}
use Rattle.store_sql.specs.Keyed.{old_entry_columns, keyed_entry_columns}
use Rattle.store_older_sql.specs.Entries.{entry_table_of}
use Rattle.store_older_sql.specs.declared.entries.EntryForm.{EntryForm}
use Rattle.store_older_sql.specs.declared.entries.EntryForm.TheVariants as form
use Rattle.store_rows.specs.Versions as layout
use Rattle.store_rows.specs.Versions.{Layout}
use Rattle.store_holdings.specs.Holds.{HasLayout}
use Rattle.store_sql.specs.Readings.{contents, shown_row}
use Rattle.store_migration.specs.declared.older.Older.{Older}
use Rattle.store_migration.specs.declared.older.Older.TheVariants.{Plain, Keyed, Shown}

abbrev pub form_of : Older → EntryForm
form_of Plain = form.Plain
form_of Keyed = form.Keyed
form_of Shown = form.Shown

abbrev pub layout_as : Older → Layout
layout_as Plain = layout.Plain
layout_as Keyed = layout.Keyed
layout_as Shown = layout.Shown

-- how they are laid out before a migration: as an older version did, or already as the known one does
abbrev pub layout_before : Option Older → Layout
layout_before (Some older) = layout_as older
layout_before None = layout.Parted

-- what the columns of the table of entries hold, the rowid first
abbrev pub columns_of : Older → List Content
columns_of Plain = entry_columns
columns_of Keyed = old_entry_columns
columns_of Shown = keyed_entry_columns

-- of a row of an entry, the columns behind the rowid that aren't derived of its headword, and what they are of an entry
abbrev pub looked_at : Older → Row → Row
looked_at older = (contents (layout_as older)).looked

abbrev pub older_entry_cells : Older → EntryRecord → Row
older_entry_cells Plain = entry_row
older_entry_cells Keyed = entry_row
older_entry_cells Shown = shown_row

-- ---- the tables that are dropped

abbrev pub plain_tables : List (ℕ → Table)
plain_tables = entry_table_of form.Plain ∷ edition ∷ []

abbrev pub keyed_tables : EntryForm → List (ℕ → Table)
keyed_tables f = entry_table_of f ∷ word ∷ gram ∷ edition ∷ []

abbrev pub gone_with : EntryForm → List (ℕ → Table)
gone_with form.Plain = plain_tables
gone_with form.Keyed = keyed_tables form.Keyed
gone_with form.Shown = keyed_tables form.Shown

abbrev pub gone_tables : Older → List (ℕ → Table)
gone_tables older = gone_with (form_of older)

abbrev pub plain_names : List (List ℕ)
plain_names = codes "entry" ∷ codes "edition" ∷ []

abbrev pub keyed_names : List (List ℕ)
keyed_names = codes "entry" ∷ codes "word" ∷ codes "gram" ∷ codes "edition" ∷ []

-- their names, in the order in which they go
abbrev pub gone_names : Older → List (List ℕ)
gone_names Plain = plain_names
gone_names Keyed = keyed_names
gone_names Shown = keyed_names

-- the tables of these names were dropped, one after the other
abbrev pub DroppedInTurn : List (List ℕ) → Database → Database → Type 0
DroppedInTurn [] old new = new ≡ old
DroppedInTurn (name ∷ names) old new = (mid : Database) × IsDropped name old mid × DroppedInTurn names mid new

-- a sound database with the tables of an older version, and room for that of the parts of files where it isn't there; no two marks
-- have one rowid
pub record IsOld (layout : Layout) (db : Database) : Type 0 where
  pub own : HasLayout layout db.schema
  pub sound : IsDatabase db
  pub marks : HasApartRowids (rows_of (codes "mark") db)
