-- The records of all tables, the parts of files among them.
use Rattle.std.specs.Prelude.{List}
use Rattle.store_tables.specs.Records.{Mark, ItemRecord, Member, EditionRecord, EntryRecord, Part, KeptRecord}

-- The records of all tables, each list by itself. While one statement of a command is done and the next isn't, the parts are no
-- function of the entries.
pub record AllTables : Type 0 where
  pub marks : List Mark
  pub items : List ItemRecord
  pub members : List Member
  pub editions : List EditionRecord
  pub entries : List EntryRecord
  pub parts : List Part
  pub kept : List KeptRecord
