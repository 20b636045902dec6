-- What a database has under the number of an edition, and the text that it has there in parts.
use Rattle.std.specs.Prelude.{ℕ, ◌≤◌, pos, List, codes, map, drop, filter, IsPermutation}
use Rattle.sqlite.specs.Effect.{Database}
use Rattle.sqlite.specs.Order.{Row}
use Rattle.store_tables.specs.Effects.{equals_number, rows_of}
use Rattle.store_sql.specs.PartRecords.{part_row}
use Rattle.store_sql.specs.ChosenParts.{is_of_file}
use Rattle.store_rows.specs.FileParts.{file_parts}

-- the rows of a table that have this number, without their rowids
abbrev pub rows_under : List ℕ → ℕ → Database → List Row
rows_under name number db = map (drop 1) (filter (equals_number 1 (pos number)) (rows_of name db))

-- the rows of the text of this number, without their rowids
abbrev pub text_rows : ℕ → Database → List Row
text_rows number db = map (drop 1) (filter (is_of_file (pos number) (pos 1)) (rows_of (codes "dictcat_part") db))

-- the database has this text under this number
pub record HoldsText (db : Database) (number : ℕ) (text : List ℕ) : Type 0 where
  pub few : number ≤ 9223372036854775807
  pub rows : IsPermutation (map part_row (file_parts (pos number) (pos 1) text)) (text_rows number db)
