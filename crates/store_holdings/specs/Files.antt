-- The two files of an edition, its index and its text, and the parts that they are kept in: a function of the records.
use Rattle.std.specs.Prelude.{ℕ, ℤ, pos, List, [], ◌++◌, map, flat_map, Option, Some, None}
use Rattle.store_tables.specs.Records.{EditionRecord, EntryRecord, Part}
use Rattle.dict_index.specs.Line.{Line}
use Rattle.store_rows.specs.FileParts.{file_parts, natural}
use Rattle.store_rows.specs.Stored.{stored_index}
use Rattle.store_rows.specs.Tables.{Tables, entries_of}
use Rattle.store_rows.specs.After.{Installed}

-- the line of an entry
abbrev pub entry_line : EntryRecord → Line
entry_line e = record { headword = e.headword; offset = natural e.start; size = natural e.length; shown = e.shown }

-- the octets of an index: the lines of the entries
abbrev pub index_octets : List EntryRecord → List ℕ
index_octets entries = stored_index (map entry_line entries)

-- the index of an edition is its file 0, the text its file 1
abbrev pub parts_under : ℤ → (index text : List ℕ) → List Part
parts_under edition index text = file_parts edition (pos 0) index ++ file_parts edition (pos 1) text

abbrev pub edition_parts : List EntryRecord → EditionRecord → List Part
edition_parts entries e = parts_under e.number (index_octets (entries_of e.number entries)) e.body

-- the parts of all editions
abbrev pub all_parts : Tables → List Part
all_parts t = flat_map (edition_parts t.entries) t.editions

-- the parts of an edition that is installed
abbrev pub installed_parts : Option Installed → List Part
installed_parts None = []
installed_parts (Some new) = parts_under (pos new.number) (stored_index new.reading.lines) new.reading.text
