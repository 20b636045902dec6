-- The tables that a creation and a migration leave alone, and what else of others.
use Rattle.std.specs.Prelude.{◌≡◌, ℕ, false, List, [], ◌∷◌, codes}
use Rattle.std.specs.List.{AllByRecursion}
use Rattle.sqlite.specs.Effect.{Database}
use Rattle.sqlite.specs.Schema.{Schema}
use Rattle.sqlite.specs.Table.{Table}
use Rattle.sqlite_schema.specs.Names.{same_name}
use Rattle.store_tables.specs.Definitions.{IsDefinition}
use Rattle.store_tables.specs.Found.{HasOwn}
use Rattle.store_tables.specs.Effects.{rows_of}
use Rattle.store_older_sql.specs.Others.{SparesTable}
use Rattle.store_holdings.specs.Holds.{HasLayout}
use Rattle.store_migration.specs.Older.{gone_names, layout_as}
use Rattle.store_migration.specs.declared.older.Older.{Older}

-- the name is none of the tables that are dropped or made, in letters of either case
pub record IsBeside (name : List ℕ) : Type 0 where
  pub entries : same_name name (codes "entry") ≡ false
  pub words : same_name name (codes "word") ≡ false
  pub grams : same_name name (codes "gram") ≡ false
  pub editions : same_name name (codes "edition") ≡ false
  pub parts : same_name name (codes "dictcat_part") ≡ false

-- each of the product's other tables that was had is had still, with the rows that it had
abbrev pub Spares : Database → Database → Type 0
Spares old new = (other : ℕ → Table) → IsDefinition other → IsBeside (other 0).name → HasOwn old.schema other → HasOwn new.schema other × (rows_of (other 0).name new ≡ rows_of (other 0).name old)

-- ---- the tables of others

-- the names of the tables of the known version
abbrev pub present_names : List (List ℕ)
present_names = codes "mark" ∷ codes "item" ∷ codes "member" ∷ codes "kept" ∷ codes "edition" ∷ codes "dictcat_part" ∷ []

-- it is none of these, in letters of either case
abbrev pub IsNoneOf : List (List ℕ) → List ℕ → Type 0
IsNoneOf names name = AllByRecursion (λ own. same_name own name ≡ false) names

-- The name is none of the product's: of the tables of the known version; nor, where those of an older version are there, of those
-- that a migration drops.
pub record IsOthers (schema : Schema) (name : List ℕ) : Type 0 where
  pub present : IsNoneOf present_names name
  pub older : (older : Older) → HasLayout (layout_as older) schema → IsNoneOf (gone_names older) name

-- The tables of others are those that there were, as they were; so are the views, and what is listed with them: tables and triggers
-- that `sqlite` keeps and doesn't read. The tables of an older version are there only where they were.
pub record SparesOthers (old new : Database) : Type 0 where
  pub tables : (name : List ℕ) → IsOthers old.schema name → SparesTable name old new
  pub views : new.schema.views ≡ old.schema.views
  pub older : (older : Older) → HasLayout (layout_as older) new.schema → HasLayout (layout_as older) old.schema
