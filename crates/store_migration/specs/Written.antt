-- What is written of the records of an edition.
use Rattle.std.specs.Prelude.{List}
use Rattle.store_tables.specs.Records.{EntryRecord, Part}
use Rattle.dict_index.specs.Line.{Line}
use Rattle.store_rows.specs.Stored.{saying}
use Rattle.store_holdings.specs.Files.{parts_under}
use Rattle.store_rows.specs.FileParts.{natural}
use Rattle.store_migration.specs.declared.files.EditionFiles.{EditionFiles}
use Rattle.store_migration.specs.declared.lines.LineToWrite.{LineToWrite}

-- the entry as this is said of it
abbrev pub said_of : EntryRecord → LineToWrite → EntryRecord
said_of e said = record e { headword = said.headword.now; start = said.start; length = said.length; shown = said.shown.now }

-- the line that says it
abbrev pub line_to_write : LineToWrite → Line
line_to_write said = saying said.headword.now (natural said.start) (natural said.length) said.shown.now

-- the parts of both files, those of the index first
abbrev pub parts_in : EditionFiles → List Part
parts_in files = parts_under files.number files.index.now files.text.now
