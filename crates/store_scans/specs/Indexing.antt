-- What an index has of the entries of the tables.
use Rattle.dict_match.specs.Key.{key_of}
use Rattle.store_tables.specs.Records.{EntryRecord}
use Rattle.store_search.specs.Entries.{Indexed}
use Rattle.store_rows.specs.FileParts.{natural}

abbrev pub indexed_of : EntryRecord → Indexed
indexed_of e = record { key = key_of e.headword; shown = e.shown; start = natural e.start; size = natural e.length }
