-- The names that a table has in a schema, which go where it is dropped.
use Rattle.std.specs.Prelude.{◌==◌, ℕ, Bool, List, ◌∷◌, map, filter}
use Rattle.std.specs.List.{list_any}
use Rattle.sqlite.specs.Schema.{Schema}
use Rattle.sqlite.specs.Table.{Table}
use Rattle.sqlite_schema.specs.Names.{same_name}
use Rattle.sqlite_schema.specs.declared.schema.Index.{Index}

-- its own name, and those of all indexes over it: the automatic ones of its keys, and those that CREATE INDEX made
abbrev pub own_names : Schema → Table → List (List ℕ)
own_names schema table = table.name ∷ map (λ (i : Index). i.name) (filter (λ (i : Index). i.table == table.tree) schema.indexes)

-- one of them, in letters of either case
abbrev pub is_own_name : Schema → Table → List ℕ → Bool
is_own_name schema table name = list_any (λ own. same_name own name) (own_names schema table)
