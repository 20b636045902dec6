-- The definition of a table, for whichever tree it is made in.
use Rattle.std.specs.Prelude.{◌≡◌, ℕ, Bool, not, false, List, [], ◌∷◌, map}
use Rattle.std.specs.List.{AllByRecursion, list_any, list_all}
use Rattle.sqlite.specs.Table.{Table}
use Rattle.sqlite.specs.Change.{automatics}
use Rattle.sqlite_schema.specs.Names.{same_name}
use Rattle.sqlite_schema.specs.declared.schema.Index.{Index}
use Rattle.store_tables.specs.Found.{is_further_key}

-- The table is the same in every tree but for the tree, it refers to no table, and of the indexes that are made with it none is a further unique one.
pub record IsDefinition (table : ℕ → Table) : Type 0 where
  pub same : (tree : ℕ) → table tree ≡ record (table 0) { tree = tree }
  pub unreferring : (table 0).references ≡ []
  pub keyed : (tree first : ℕ) → AllByRecursion (λ index. is_further_key (table tree) index ≡ false) (automatics (table tree) 0 first (table tree).uniques)

-- the names that a table takes: its own, and those of the indexes that are made with it
abbrev pub names_of : Table → List (List ℕ)
names_of table = table.name ∷ map (λ (index : Index). index.name) (automatics table 0 0 table.uniques)

-- the two take no name in common, in letters of either case
abbrev pub are_named_apart : Table → Table → Bool
are_named_apart table other = list_all (λ name. not (list_any (λ own. same_name own name) (names_of table))) (names_of other)
