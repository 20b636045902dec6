-- The row that the header of an edition stands in.
use Rattle.std.specs.Prelude.{List, [], ◌∷◌}
use Rattle.sqlite.specs.declared.types.Value.TheVariants.{Int, Text as Words}
use Rattle.sqlite.specs.Order.{Row}
use Rattle.store_tables.specs.Records.{HeaderRecord}
use Rattle.store_tables.specs.Typed.{owned_header}
use Rattle.store_sql.specs.Columns.{Content, Name, Number}
use Rattle.store_sql.specs.declared.header_records.StoredHeader.{StoredHeader}

abbrev pub header_row : HeaderRecord → Row
header_row h = Int h.number ∷ Words h.owner ∷ Words h.title ∷ Words h.info ∷ []

-- The rowid stands first.

abbrev pub header_columns : List Content
header_columns = Number ∷ Number ∷ Name ∷ Name ∷ Name ∷ []

abbrev pub stored_header : StoredHeader → Row
stored_header r = Int r.rowid ∷ header_row (owned_header r.value)
