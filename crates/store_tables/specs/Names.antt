-- The names that are the product's.
use Rattle.std.specs.Prelude.{ℕ, Bool, ◌||◌, List, codes, take}
use Rattle.std.specs.List.{list_any}
use Rattle.sqlite.specs.Schema.{Schema}
use Rattle.sqlite.specs.Change.{is_used}
use Rattle.sqlite_schema.specs.Names.{same_name}

-- the name begins with `dictcat_`, in letters of either case
abbrev pub has_own_prefix : List ℕ → Bool
has_own_prefix name = same_name (take 8 name) (codes "dictcat_")

-- a table, an index or a view whose name begins so
abbrev pub has_prefixed : Schema → Bool
has_prefixed schema =
    list_any (λ t. has_own_prefix t.name) schema.tables || list_any (λ i. has_own_prefix i.name) schema.indexes || list_any (λ v. has_own_prefix v.name) schema.views

-- a table of schema 1 or a name that later schemas take is in use
abbrev pub uses_table_name : Schema → Bool
uses_table_name schema =
    is_used schema (codes "mark") || is_used schema (codes "item") || is_used schema (codes "member") || is_used schema (codes "edition") || is_used schema (codes "entry")
    || is_used schema (codes "kept") || is_used schema (codes "word") || is_used schema (codes "gram")
