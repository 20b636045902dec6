-- Several rows more in a table.
use Rattle.std.specs.Prelude.{◌≡◌, ℕ, List, ◌++◌, map, drop, IsPermutation}
use Rattle.sqlite.specs.Order.{Row}
use Rattle.sqlite.specs.Effect.{Database, IsDatabase}
use Rattle.store_tables.specs.Effects.{HasApartRowids, SameOthers, rows_of}

-- These rows more, each under a rowid that none had, and in no order that counts. The schema and each other table are as they were.
pub record AreAdded (name : List ℕ) (added : List Row) (old new : Database) : Type 0 where
  pub schema : new.schema ≡ old.schema
  pub rows : IsPermutation (map (drop 1) (rows_of name old) ++ added) (map (drop 1) (rows_of name new))
  pub apart : HasApartRowids (rows_of name old) → HasApartRowids (rows_of name new)
  pub others : SameOthers name old new
  pub sound : IsDatabase old → IsDatabase new
