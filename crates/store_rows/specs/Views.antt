-- What contracts see of the columns of a line.
use Rattle.dict_index.specs.Line.{Line}
use Rattle.store_rows.specs.Stored.{saying}
use Rattle.store_rows.specs.declared.reading.StoredColumns.{StoredColumns}

-- what the line says that the columns were read from
abbrev pub columns_line : StoredColumns → Line
columns_line columns = saying columns.headword.now columns.offset columns.size columns.shown.now
