-- Records that are taken together.
use Rattle.std.specs.Prelude.{List, ◌++◌}
use Rattle.std.specs.List.{AllByRecursion}
use Rattle.store_tables.specs.Records as spec
use Rattle.store_rows.specs.Tables.{Tables}
use Rattle.store_rows.specs.Taken.{IsOfLast}

abbrev pub with_entries : Tables → List spec.EntryRecord → Tables
with_entries taken rows = record taken { entries = taken.entries ++ rows }

abbrev pub with_replies : Tables → List spec.KeptRecord → Tables
with_replies taken rows = record taken { kept = taken.kept ++ rows }

-- the entries are of the edition that was taken last
abbrev pub AreOfLast : Tables → List spec.EntryRecord → Type 0
AreOfLast taken rows = AllByRecursion (IsOfLast taken) rows
