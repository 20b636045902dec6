-- The texts that drop the tables.
use Rattle.std.specs.Prelude.{ℕ, List, codes}
use Rattle.store_tables.specs.declared.keyed.KeyedTable.{KeyedTable}
use Rattle.store_tables.specs.declared.keyed.KeyedTable.TheVariants.{Entry, Word, Gram}

abbrev pub keyed_drop_text : KeyedTable → List ℕ
keyed_drop_text Entry = codes "DROP TABLE entry"
keyed_drop_text Word = codes "DROP TABLE word"
keyed_drop_text Gram = codes "DROP TABLE gram"
