-- What the tables keep of records whose editions are kept in files.
use Rattle.std.specs.Prelude.{List, ◌++◌, map, IsPermutation}
use Rattle.store_tables.specs.Records.{Part, header_of}
use Rattle.store_rows.specs.Tables.{Tables}
use Rattle.store_holdings.specs.Files.{all_parts}

-- The same records but for editions and entries, the same headers, and the same parts, in whatever order, with these orphans beside the
-- ones and those beside the others.
pub record HaveSameFiles (beside_old beside_new : List Part) (old new : Tables) : Type 0 where
  pub marks : IsPermutation old.marks new.marks
  pub items : IsPermutation old.items new.items
  pub members : IsPermutation old.members new.members
  pub headers : IsPermutation (map header_of old.editions) (map header_of new.editions)
  pub parts : IsPermutation (beside_old ++ all_parts old) (beside_new ++ all_parts new)
  pub kept : IsPermutation old.kept new.kept
